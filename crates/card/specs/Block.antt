-- A block, document 02 d): "A block has 512 bytes, little-endian: block number in 0 to 3, entry count 1 to 31 in 4,
-- zeros in 5 to 11, then 31 entries of 16 bytes, then two 16-bit sums in 508 to 511."
-- Assumes nothing.
use Rattle.std.specs.Prelude.{◌≡◌, Bool, cond, ◌&&◌, List, ◌∷◌, ◌++◌, ℕ, ◌+◌, ◌*◌, ◌^◌, ◌<◌, eqb, leb, ltb, length, get_or, replicate}
use Rattle.below.specs.Below.{all_below}
use Rattle.below.specs.Listed.{listed}
use Rattle.below.specs.Joined.{joined}
use Rattle.fields.specs.Bytes.{bytes_of, number_of, part}
use Rattle.sums.specs.Sums.{sums_of}
use Rattle.entries.specs.Entry.{entry_bytes, entry_of, no_entry, EntryFits}
use Rattle.entries.specs.Legal.{entry_legal, entry_blank}
use Rattle.entries.specs.declared.Entry.{Entry}
use Rattle.sums.specs.declared.Sums.{Sums}
use Rattle.card.specs.declared.Block.{Block}

-- ---- from content to bytes

-- "31 entries of 16 bytes"
abbrev pub entries_bytes : List Entry → List ℕ
entries_bytes = joined entry_bytes

-- bytes 0 to 507: "block number in 0 to 3, entry count 1 to 31 in 4, zeros in 5 to 11, then 31 entries"
unfoldable pub body_bytes : Block → List ℕ
body_bytes b = bytes_of 4 b.number ++ (b.count ∷ (replicate 7 0 ++ entries_bytes b.entries))

-- bytes 508 to 511: "then two 16-bit sums"
unfoldable pub sum_bytes : Sums → List ℕ
sum_bytes s = bytes_of 2 s.first ++ bytes_of 2 s.second

-- all 512
unfoldable pub block_bytes : Block → List ℕ
block_bytes b = body_bytes b ++ sum_bytes (sums_of (body_bytes b))

-- ---- from bytes to content

-- the entry at place k, from 0
abbrev pub entry_at : List ℕ → ℕ → Entry
entry_at bytes k = entry_of (part bytes (12 + 16 * k) 16)

unfoldable pub block_of : List ℕ → Block
block_of bytes =
    record {
      number = number_of (part bytes 0 4);
      count = get_or bytes 4 0;
      entries = listed (entry_at bytes) 0 31;
    }

-- "zeros in 5 to 11"
abbrev pub head_blank : List ℕ → Bool
head_blank bytes = eqb (number_of (part bytes 5 7)) 0

-- ---- the rules

-- an entry at this place of a block of `count` entries: the first `count` are used, "Unused entries are zeros."
unfoldable pub entry_may : ℕ → ℕ → Entry → Bool
entry_may count place e = cond (ltb place count) (entry_legal e) (entry_blank e)

abbrev pub place_legal : ℕ → List Entry → ℕ → Bool
place_legal count entries place = entry_may count place (get_or entries place no_entry)

-- "entry count 1 to 31", and every entry may stand where it stands
unfoldable pub block_legal : Block → Bool
block_legal b = (leb 1 b.count && leb b.count 31) && all_below (place_legal b.count b.entries) 31

-- each field fits its bytes and there are 31 entries: of a value of the type this is so
pub record BlockFits (b : Block) : Type 0 where
  pub number : b.number < 2 ^ 32
  pub count : b.count < 2 ^ 8
  pub all : length b.entries ≡ 31
  pub each : (k : ℕ) → k < 31 → EntryFits (get_or b.entries k no_entry)
