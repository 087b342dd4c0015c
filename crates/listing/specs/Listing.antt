-- The lines that a block of the log card is listed as: `B E KIND FLOW LENGTH HANDLE CLOCK` for each entry of an
-- accepted block, and `B refused NUMBER` for a refused one. B is the block's place in the input from 0, E the entry's
-- from 1. `write_listing` and `write_reading` of `src/lib.rt` cite it.
-- Assumes nothing.
use Rattle.std.specs.Prelude.{List, [], ◌∷◌, ◌++◌, ℕ, suc, Option, Some, None, Result, Ok, Err, take}
use Rattle.lines.specs.Text.{space, line_feed}
use Rattle.lines.specs.Number.{decimal}
use Rattle.lines.specs.Output.{field_texts}
use Rattle.entries.specs.Legal.{kind_of}
use Rattle.entries.specs.declared.Entry.{Entry}
use Rattle.entries.specs.declared.Kind.{Kind}
use Rattle.entries.specs.declared.Kind.TheVariants.{Arrival, Pick, Leap, Idle}
use Rattle.card.specs.declared.Block.{Block}
use Rattle.card.specs.declared.Refusal.{Refusal}
use Rattle.card.specs.Card.{refusal_number}

-- the block's place, the fields before a word, and the word
abbrev pub head_text : ℕ → List ℕ → List ℕ → List ℕ
head_text place before word = decimal place ++ field_texts before ++ word

-- a line: its head, the fields behind the word, and a line feed
abbrev pub row_text : ℕ → List ℕ → List ℕ → List ℕ → List ℕ
row_text place before word behind = head_text place before word ++ field_texts behind ++ line_feed ∷ []

-- "1 arrival, 2 pick without leap, 3 pick with leap, 4 Idle": the kind's word with the space before it; no entry of an
-- accepted block is of another kind
abbrev pub kind_word : Option Kind → List ℕ
kind_word (Some Arrival) = space ∷ 97 ∷ 114 ∷ 114 ∷ 105 ∷ 118 ∷ 97 ∷ 108 ∷ []
kind_word (Some Pick) = space ∷ 112 ∷ 105 ∷ 99 ∷ 107 ∷ []
kind_word (Some Leap) = space ∷ 108 ∷ 101 ∷ 97 ∷ 112 ∷ []
kind_word (Some Idle) = space ∷ 105 ∷ 100 ∷ 108 ∷ 101 ∷ []
kind_word None = space ∷ 111 ∷ 116 ∷ 104 ∷ 101 ∷ 114 ∷ []

-- the word `refused`
abbrev pub refused_word : List ℕ
refused_word = space ∷ 114 ∷ 101 ∷ 102 ∷ 117 ∷ 115 ∷ 101 ∷ 100 ∷ []

-- `B E KIND FLOW LENGTH HANDLE CLOCK`: "An entry's first byte says its kind: ..; then flow, length (2), handle (4),
-- clock after the call (8)."
abbrev pub entry_line : ℕ → ℕ → Entry → List ℕ
entry_line place number e =
    row_text place (number ∷ []) (kind_word (kind_of e.kind))
    (e.flow ∷ e.length ∷ e.handle ∷ e.clock ∷ [])

-- `B refused NUMBER`: "Refusals: 1 a block not of 512 bytes, 11 wrong sums, then 12 any field outside these rules"
abbrev pub refused_line : ℕ → ℕ → List ℕ
refused_line place number = row_text place [] refused_word (number ∷ [])

-- entries one behind the other, the first of them with this number
unfoldable pub entries_lines : ℕ → ℕ → List Entry → List ℕ
entries_lines place number [] = []
entries_lines place number (e ∷ entries) = entry_line place number e ++ entries_lines place (suc number) entries

-- what was found in a block: a line for each entry that is used, or that of the refusal's number
unfoldable pub block_lines : ℕ → Result Block ℕ → List ℕ
block_lines place (Ok block) = entries_lines place 1 (take block.count block.entries)
block_lines place (Err number) = refused_line place number

-- the same of what a reader of `card` found, whose refusals have names
unfoldable pub reading_lines : ℕ → Result Block Refusal → List ℕ
reading_lines place (Ok block) = block_lines place (Ok block)
reading_lines place (Err refusal) = block_lines place (Err (refusal_number refusal))
