-- A block's content as the caller of the library keeps it: 157 words of 64 bits. Word 0 is the block's number, word 1
-- the number of entries; then five words for each of the 31 entries: kind, flow, length, handle and clock, entry k's
-- from word 2 + 5 k on, those of an unused entry zeros.
-- Assumes nothing.
use Rattle.std.specs.Prelude.{Bool, cond, ◌&&◌, List, [], ◌∷◌, ℕ, ◌+◌, ◌*◌, ◌^◌, Option, Some, None, ltb, get_or}
use Rattle.below.specs.Below.{all_below}
use Rattle.below.specs.Listed.{listed}
use Rattle.below.specs.Joined.{joined}
use Rattle.fields.specs.Bytes.{part}
use Rattle.entries.specs.declared.Entry.{Entry}
use Rattle.card.specs.declared.Block.{Block}

-- ---- from content to words

-- the five words of an entry
abbrev pub entry_words : Entry → List ℕ
entry_words e = e.kind ∷ e.flow ∷ e.length ∷ e.handle ∷ e.clock ∷ []

abbrev pub entries_words : List Entry → List ℕ
entries_words = joined entry_words

unfoldable pub content_words : Block → List ℕ
content_words b = b.number ∷ b.count ∷ entries_words b.entries

-- ---- from words to content

-- the entry of five words
unfoldable pub entry_in : List ℕ → Entry
entry_in words =
    record {
      kind = get_or words 0 0;
      flow = get_or words 1 0;
      length = get_or words 2 0;
      handle = get_or words 3 0;
      clock = get_or words 4 0;
    }

-- the five words of entry k, from 0
abbrev pub place_words : List ℕ → ℕ → List ℕ
place_words words k = part words (2 + 5 * k) 5

-- the entry at place k
abbrev pub place_in : List ℕ → ℕ → Entry
place_in words k = entry_in (place_words words k)

unfoldable pub content_in : List ℕ → Block
content_in words =
    record { number = get_or words 0 0; count = get_or words 1 0; entries = listed (place_in words) 0 31 }

-- ---- words that do not fit their fields are "any field outside these rules"

-- kind and flow of one byte, "length (2), handle (4)"; any word is a clock
unfoldable pub entry_fit : List ℕ → Bool
entry_fit words =
    ltb (get_or words 0 0) (2 ^ 8)
    && (ltb (get_or words 1 0) (2 ^ 8) && (ltb (get_or words 2 0) (2 ^ 16) && ltb (get_or words 3 0) (2 ^ 32)))

abbrev pub place_fit : List ℕ → ℕ → Bool
place_fit words k = entry_fit (place_words words k)

-- "block number in 0 to 3, entry count 1 to 31 in 4", and every entry
unfoldable pub content_fit : List ℕ → Bool
content_fit words = ltb (get_or words 0 0) (2 ^ 32) && (ltb (get_or words 1 0) (2 ^ 8) && all_below (place_fit words) 31)

-- what words tell where they fit, and nothing where they do not
abbrev pub if_fit : {A : Type 0} → Bool → A → Option A
if_fit fit found = cond fit (Some found) None
