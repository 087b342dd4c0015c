-- Reader and writer of a block, document 02 d): "Refusals: 1 a block not of 512 bytes, 11 wrong sums, then 12 any field
-- outside these rules, flow over 63 and length 0 or over 1,500 included; nothing is written on any."
-- Assumes nothing.
use Rattle.std.specs.Prelude.{◌≡◌, refl, cond, ◌&&◌, List, ℕ, Result, Ok, Err, eqb, length}
use Rattle.std.proofs.Common.{arith}
use Rattle.sums.specs.Sums.{sums_right}
use Rattle.card.specs.declared.Block.{Block}
use Rattle.card.specs.declared.Refusal.{Refusal}
use Rattle.card.specs.declared.Refusal.TheVariants.{Size, Sums, Field}
use Rattle.card.specs.Block.{block_bytes, block_of, head_blank, block_legal}

-- "1 a block not of 512 bytes, 11 wrong sums, then 12 any field outside these rules"
abbrev pub refusal_number : Refusal → ℕ
refusal_number Size = 1
refusal_number Sums = 11
refusal_number Field = 12

-- what is answered in one number: that of the refusal, and 0 where there is none
abbrev pub answer_of : {A : Type 0} → Result A Refusal → ℕ
answer_of (Ok found) = 0
answer_of (Err refusal) = refusal_number refusal

-- answers of one number are the same answer
pub answer_one : (r q : Result (Unit {0}) Refusal) → answer_of r ≡ answer_of q → r ≡ q
answer_one (Ok found) (Ok others) e = refl
answer_one (Ok found) (Err Size) e = absurd (omega (arith, e))
answer_one (Ok found) (Err Sums) e = absurd (omega (arith, e))
answer_one (Ok found) (Err Field) e = absurd (omega (arith, e))
answer_one (Err Size) (Ok found) e = absurd (omega (arith, e))
answer_one (Err Sums) (Ok found) e = absurd (omega (arith, e))
answer_one (Err Field) (Ok found) e = absurd (omega (arith, e))
answer_one (Err Size) (Err Size) e = refl
answer_one (Err Size) (Err Sums) e = absurd (omega (arith, e))
answer_one (Err Size) (Err Field) e = absurd (omega (arith, e))
answer_one (Err Sums) (Err Size) e = absurd (omega (arith, e))
answer_one (Err Sums) (Err Sums) e = refl
answer_one (Err Sums) (Err Field) e = absurd (omega (arith, e))
answer_one (Err Field) (Err Size) e = absurd (omega (arith, e))
answer_one (Err Field) (Err Sums) e = absurd (omega (arith, e))
answer_one (Err Field) (Err Field) e = refl

-- the content
abbrev pub accepted : Block → Result Block Refusal
accepted b = Ok b

-- a refusal, and no content
abbrev pub refused : Refusal → Result Block Refusal
refused refusal = Err refusal

-- what a reader finds in any bytes
unfoldable pub read_rule : List ℕ → Result Block Refusal
read_rule bytes =
    cond (eqb (length bytes) 512)
    (cond (sums_right bytes)
    (cond (head_blank bytes && block_legal (block_of bytes))
    (accepted (block_of bytes))
    (refused Field))
    (refused Sums))
    (refused Size)

-- what a writer answers, as a number, and every byte of what it was lent
pub record Written : Type 0 where
  pub answer : ℕ
  pub bytes : List ℕ

abbrev pub written : ℕ → List ℕ → Written
written answer bytes = record { answer = answer; bytes = bytes }

-- any content into any bytes: 1 and 12 for what the reader would refuse
unfoldable pub write_rule : Block → List ℕ → Written
write_rule b bytes =
    cond (eqb (length bytes) 512) (cond (block_legal b) (written 0 (block_bytes b)) (written 12 bytes)) (written 1 bytes)
