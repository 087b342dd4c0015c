-- Readers and writers that document 02 d) rules out, each with a block at which it differs. Those of the sums and of
-- the entries are refused as edits of their crates.
-- Assumes nothing.
use Rattle.std.specs.Prelude.{◌≡◌, refl, true, cond, not, ◌&&◌, List, [], ◌∷◌, ◌++◌, ℕ, Result, eqb, length, set, take, replicate}
use Rattle.below.specs.Below.{all_below}
use Rattle.below.specs.Listed.{listed}
use Rattle.below.specs.Joined.{joined}
use Rattle.fields.specs.Bytes.{bytes_of, number_of}
use Rattle.sums.specs.Sums.{total, running, sums_right}
use Rattle.entries.specs.Entry.{entry_bytes, entry_of}
use Rattle.entries.specs.Legal.{kind_of, packet_legal, rest_blank, entry_legal, entry_blank}
use Rattle.card.specs.declared.Block.{Block}
use Rattle.card.specs.declared.Refusal.{Refusal}
use Rattle.card.specs.declared.Refusal.TheVariants.{Size, Sums, Field}
use Rattle.card.specs.Block.{body_bytes, sum_bytes, block_bytes, block_of, head_blank, entry_may}
use Rattle.card.specs.Block.{block_legal}
use Rattle.card.specs.Card.{answer_of, accepted, refused, read_rule, Written, written, write_rule}
use Rattle.card.specs.Rows.{worked, changed, summed}

-- "11 wrong sums, then 12": one that looks at the fields first
abbrev fields_first : List ℕ → Result Block Refusal
fields_first bytes =
    cond (eqb (length bytes) 512)
    (cond (head_blank bytes && block_legal (block_of bytes))
    (cond (sums_right bytes) (accepted (block_of bytes)) (refused Sums)) (refused Field)) (refused Size)

-- "zeros in 5 to 11": one that does not look there
abbrev head_unseen : List ℕ → Result Block Refusal
head_unseen bytes =
    cond (eqb (length bytes) 512)
    (cond (sums_right bytes) (cond (block_legal (block_of bytes)) (accepted (block_of bytes)) (refused Field)) (refused Sums))
    (refused Size)

-- "1 a block not of 512 bytes": one that reads the first 512 of more
abbrev long_taken : List ℕ → Result Block Refusal
long_taken bytes = read_rule (take 512 bytes)

-- "nothing is written on any": one that writes and then refuses
abbrev written_anyway : Block → List ℕ → Written
written_anyway b bytes =
    cond (eqb (length bytes) 512) (cond (block_legal b) (written 0 (block_bytes b)) (written 12 (block_bytes b)))
    (written 1 bytes)

-- a content with no entry, and what stood in the lent bytes
abbrev none : Block
none = record { number = 1; count = 0; entries = worked.entries }

abbrev room : List ℕ
room = replicate 512 0

-- a byte too many
abbrev long : List ℕ
long = block_bytes worked ++ (0 ∷ [])

-- each gives another number, or other bytes, than the rule
pub slips_differ :
    (not (eqb (answer_of (fields_first (set (block_bytes worked) 12 5))) (answer_of (read_rule (set (block_bytes worked) 12 5))))
    && not (eqb (answer_of (head_unseen (changed 5 1))) (answer_of (read_rule (changed 5 1))))
    && not (eqb (answer_of (long_taken long)) (answer_of (read_rule long)))
    && not (eqb (total (written_anyway none room).bytes) (total (write_rule none room).bytes)))
    ≡ true
unfolding summed read_rule write_rule block_bytes body_bytes joined entry_bytes bytes_of sum_bytes total running sums_right
    number_of block_of listed entry_of block_legal all_below entry_may entry_legal kind_of packet_legal rest_blank entry_blank
slips_differ = refl
