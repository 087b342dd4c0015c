-- The two calls at the limits of what may be lent, as rows of a single list with a single claim: what is lent, and the
-- number that the call answers. And wrong libraries, each with an input at which it leaves the rule.
-- Assumes nothing.
use Rattle.std.specs.Prelude.{◌≡◌, refl, Bool, true, cond, not, ◌&&◌, List, [], ◌∷◌, ◌++◌, ℕ, ◌+◌, ◌-◌, ◌%◌, ◌^◌, Result, Ok, Err, eqb, get_or, set, take, replicate}
use Rattle.below.specs.Below.{all_below}
use Rattle.below.specs.Listed.{listed}
use Rattle.below.specs.Joined.{joined}
use Rattle.fields.specs.Bytes.{bytes_of, number_of}
use Rattle.sums.specs.Sums.{total, running, sums_right}
use Rattle.entries.specs.Entry.{entry_bytes, entry_of, no_entry}
use Rattle.entries.specs.Legal.{kind_of, packet_legal, rest_blank, entry_legal, entry_blank}
use Rattle.card.specs.declared.Block.{Block}
use Rattle.card.specs.declared.Refusal.{Refusal}
use Rattle.card.specs.Block.{body_bytes, sum_bytes, block_bytes, block_of, entry_may, block_legal}
use Rattle.card.specs.Card.{Written, written, write_rule, read_rule}
use Rattle.card.specs.Rows.{worked, all}
use Rattle.cardgate.specs.Content.{content_words, entry_in, content_in, entry_fit, content_fit}
use Rattle.cardgate.specs.Calls.{card_write, Told, told, card_read}

-- the words and the bytes of the worked block, five entries, and what may stand in what is lent for the answer
abbrev words : List ℕ
words = content_words worked

abbrev block : List ℕ
block = block_bytes worked

abbrev room : List ℕ
room = replicate 512 9

abbrev others : List ℕ
others = replicate 157 9

-- a writing and a reading, beside what they have to answer
abbrev writes : ℕ → List ℕ → List ℕ → Bool
writes number content bytes = eqb (card_write content bytes).answer number

abbrev reads : ℕ → List ℕ → List ℕ → Bool
reads number bytes content = eqb (card_read bytes content).answer number

unfoldable pub rows : List Bool
rows =
    writes 0 words room
    -- 101 before all else
    ∷ writes 101 (take 156 words) room
    ∷ writes 101 (words ++ (0 ∷ [])) (take 511 room)
    ∷ writes 101 [] []
    -- "1 a block not of 512 bytes", before 12
    ∷ writes 1 words (take 511 room)
    ∷ writes 1 (set words 0 (2 ^ 32)) (room ++ (0 ∷ []))
    -- a word that does not fit its field: number, count, kind, flow, length and handle, by so much as their bytes hold
    ∷ writes 0 (set words 0 (2 ^ 32 - 1)) room
    ∷ writes 12 (set words 0 (2 ^ 32)) room
    ∷ writes 12 (set words 1 (5 + 2 ^ 8)) room
    ∷ writes 12 (set words 2 (1 + 2 ^ 8)) room
    ∷ writes 12 (set words 3 (2 ^ 8)) room
    ∷ writes 12 (set words 4 (100 + 2 ^ 16)) room
    ∷ writes 0 (set words 5 (2 ^ 32 - 1)) room
    ∷ writes 12 (set words 5 (2 ^ 32)) room
    ∷ writes 0 (set words 6 (2 ^ 64 - 1)) room
    -- a field outside the rules that fits: flow 64, an unused entry that is not zeros
    ∷ writes 12 (set words 3 64) room
    ∷ writes 12 (set words 156 1) room
    -- the reader's numbers, and 101 before them
    ∷ reads 0 block others
    ∷ reads 101 block (take 156 others)
    ∷ reads 101 [] (others ++ (0 ∷ []))
    ∷ reads 1 (take 511 block) others
    ∷ reads 11 (set block 508 1) others
    ∷ reads 12 (replicate 512 0) others
    ∷ []

-- a writer that cuts a word to its field, here a kind of 257 to an arrival
abbrev cuts_words : List ℕ → List ℕ → Written
cuts_words content bytes = write_rule (content_in (set content 2 (get_or content 2 0 % 2 ^ 8))) bytes

-- a writer that looks at the words before the size of the block
abbrev words_first : List ℕ → List ℕ → Written
words_first content bytes = cond (content_fit content) (card_write content bytes) (written 12 bytes)

-- the content that was found, and zeros where the block was refused
abbrev found_or_zeros : Result Block Refusal → Block
found_or_zeros (Ok block) = block
found_or_zeros (Err refusal) = record { number = 0; count = 0; entries = replicate 31 no_entry }

-- a reader that writes the words and then refuses
abbrev written_anyway : List ℕ → List ℕ → Told
written_anyway bytes content = told (card_read bytes content).answer (content_words (found_or_zeros (read_rule bytes)))

pub rows_hold : all rows ≡ true
unfolding all rows card_write card_read content_words joined content_in entry_in content_fit entry_fit read_rule write_rule
    block_bytes body_bytes entry_bytes bytes_of sum_bytes total running sums_right number_of block_of listed
    entry_of block_legal all_below entry_may entry_legal kind_of packet_legal rest_blank entry_blank
rows_hold = refl

-- each gives another number, or other words, than the rule
pub slips_differ :
    (not (eqb (cuts_words (set words 2 257) room).answer (card_write (set words 2 257) room).answer)
    && not (eqb (words_first (set words 0 (2 ^ 32)) []).answer (card_write (set words 0 (2 ^ 32)) []).answer)
    && not (eqb (total (written_anyway [] others).content) (total (card_read [] others).content)))
    ≡ true
unfolding card_write card_read content_words joined content_in entry_in content_fit entry_fit read_rule write_rule
    block_bytes body_bytes entry_bytes bytes_of sum_bytes total running sums_right number_of block_of listed
    entry_of block_legal all_below entry_may entry_legal kind_of packet_legal rest_blank entry_blank
slips_differ = refl
