-- The record as the caller of the library keeps it: a block of 132 words of 64 bits, in the record's own order.
-- Word 0 is the number of flows in its low 16 bits, the header in the next 16 and the leap width in the high 32; word 1
-- is the clock, word 2 the link time; words 3 to 66 are the tags of flows 0 to 63; words 67 to 82 are the shares, 83 to
-- 98 the largest packets, 99 to 114 the first places and 115 to 130 the numbers waiting, four flows to a word, 16 bits
-- each, the lowest flow lowest; word 131 is the turn (02 e).
-- Assumes nothing.
use Rattle.std.specs.Prelude.{List, [], ◌∷◌, ◌++◌, ℕ, zero, suc, ◌+◌, ◌*◌, ◌/◌, ◌%◌, ◌^◌, get_or, take, drop}
use Rattle.below.specs.Listed.{listed}
use Rattle.queues.specs.Queues.{queues_of}
use Rattle.queues.specs.Opening.{field64}
use Rattle.tags.specs.Ticks.{ticks}
use Rattle.uplink.specs.Record.{link_time, tags_of}
use Rattle.uplink.specs.declared.Record.{Record}

-- the word of entries 4 k to 4 k + 3 of a field
abbrev pub four_at : List ℕ → ℕ → ℕ
four_at field k =
    get_or field (4 * k) 0
    + 2 ^ 16 * get_or field (4 * k + 1) 0
    + 2 ^ 32 * get_or field (4 * k + 2) 0
    + 2 ^ 48 * get_or field (4 * k + 3) 0

-- the 16 words of a field
unfoldable pub field_words : List ℕ → List ℕ
field_words field = listed (four_at field) 0 16

-- entry j of a word of four
abbrev pub quarter : ℕ → ℕ → ℕ
quarter word zero = word % 2 ^ 16
quarter word (suc zero) = word / 2 ^ 16 % 2 ^ 16
quarter word (suc (suc zero)) = word / 2 ^ 32 % 2 ^ 16
quarter word (suc (suc (suc j))) = word / 2 ^ 48

-- the 64 entries of a field from its 16 words
unfoldable pub field_in : List ℕ → List ℕ
field_in words = listed (λ f. quarter (get_or words (f / 4) 0) (f % 4)) 0 64

-- word 0: the number of flows, the header and the leap width
abbrev pub head_word : Record → ℕ
head_word r = r.flows + 2 ^ 16 * r.header + 2 ^ 32 * r.width

-- the block of a record
unfoldable pub words_of : Record → List ℕ
words_of r =
    head_word r ∷ r.clock.0 ∷ r.link.0
    ∷ (field64 r.tags.0
    ++ (field_words r.queues.share
    ++ (field_words r.queues.largest
    ++ (field_words r.queues.first
    ++ (field_words r.queues.waiting
    ++ r.turn ∷ [])))))

-- n words from word a on
abbrev pub part : List ℕ → ℕ → ℕ → List ℕ
part words a n = take n (drop a words)

-- the record of a block
unfoldable pub record_of : List ℕ → Record
record_of words =
    record {
      flows = get_or words 0 0 % 2 ^ 16;
      header = get_or words 0 0 / 2 ^ 16 % 2 ^ 16;
      width = get_or words 0 0 / 2 ^ 32;
      clock = ticks (get_or words 1 0);
      link = link_time (get_or words 2 0);
      tags = tags_of (part words 3 64);
      queues =
          queues_of
          (field_in (part words 67 16))
          (field_in (part words 83 16))
          (field_in (part words 99 16))
          (field_in (part words 115 16));
      turn = get_or words 131 0;
    }
