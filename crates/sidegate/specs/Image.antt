-- The plain engine's record as the caller of the library keeps it: a block of 133 words of 64 bits. Words 0 to 131 are
-- the first engine's block (specs/Image.antt of the crate `gateway`) with the tags in two's complement; word 132 is the
-- sum of the widths leapt.
-- Assumes nothing.
use Rattle.std.specs.Prelude.{cond, List, [], ◌∷◌, ◌++◌, ℕ, ◌-◌, ◌^◌, ltb, ℤ, pos, negsuc, get_or}
use Rattle.below.specs.Listed.{listed}
use Rattle.tags.specs.Ticks.{ticks}
use Rattle.uplink.specs.Record.{tags_of}
use Rattle.uplink.specs.declared.Record as forward
use Rattle.backward.specs.Record.{signed_tags}
use Rattle.backward.specs.declared.Record.{Record}
use Rattle.gateway.specs.Image.{part, words_of, record_of}

-- the number that a word of 64 bits is in two's complement: `negsuc a` is -1 - a
abbrev pub signed_of : ℕ → ℤ
signed_of word = cond (ltb word (2 ^ 63)) (pos word) (negsuc (2 ^ 64 - 1 - word))

-- and the word of a number
abbrev pub word_of : ℤ → ℕ
word_of (pos a) = a
word_of (negsuc a) = 2 ^ 64 - 1 - a

-- 64 tags from their words, and their words
abbrev pub signed_all : List ℕ → List ℤ
signed_all words = listed (λ f. signed_of (get_or words f 0)) 0 64

abbrev pub words_all : List ℤ → List ℕ
words_all tags = listed (λ f. word_of (get_or tags f (pos 0))) 0 64

-- the first engine's record, as far as it goes, with the tags as words
abbrev pub unsigned : Record → forward.Record
unsigned r =
    record {
      flows = r.flows;
      header = r.header;
      width = r.width;
      clock = r.clock;
      link = r.link;
      tags = tags_of (words_all r.tags.0);
      queues = r.queues;
      turn = r.turn;
    }

-- and back, with the sum
abbrev pub signed : forward.Record → ℕ → Record
signed r sum =
    record {
      flows = r.flows;
      header = r.header;
      width = r.width;
      sum = ticks sum;
      clock = r.clock;
      link = r.link;
      tags = signed_tags (signed_all r.tags.0);
      queues = r.queues;
      turn = r.turn;
    }

-- the block of a record
unfoldable pub plain_words : Record → List ℕ
plain_words r = words_of (unsigned r) ++ r.sum.0 ∷ []

-- the record of a block
unfoldable pub plain_of : List ℕ → Record
plain_of words = signed (record_of (part words 0 132)) (get_or words 132 0)
