-- The two sums of a block, document 02 d): "two 16-bit sums in 508 to 511. The first is the sum of bytes 0 to 507, the
-- second the sum of the first's running values, both modulo 65,535 and starting at 0."
-- Assumes nothing.
use Rattle.std.specs.Prelude.{Bool, ◌&&◌, List, [], ◌∷◌, ℕ, ◌+◌, ◌%◌, eqb}
use Rattle.fields.specs.Bytes.{number_of, part}
use Rattle.sums.specs.declared.Sums.{Sums}

-- the sum of numbers, starting at 0
unfoldable pub total : List ℕ → ℕ
total [] = 0
total (number ∷ numbers) = number + total numbers

-- the running values of a sum that is at `sum`: what it is after each byte
unfoldable pub running : ℕ → List ℕ → List ℕ
running sum [] = []
running sum (byte ∷ bytes) = (sum + byte) ∷ running (sum + byte) bytes

-- "both modulo 65,535": a remainder at each step gives the same numbers, and g) takes fewer of them
abbrev pub sums_of : List ℕ → Sums
sums_of bytes = record { first = total bytes % 65535; second = total (running 0 bytes) % 65535 }

-- the sums in 508 to 511 are those of bytes 0 to 507. Neither is ever 65,535, so a stored 65,535 is wrong
unfoldable pub sums_right : List ℕ → Bool
sums_right block =
    eqb (number_of (part block 508 2)) (sums_of (part block 0 508)).first
    && eqb (number_of (part block 510 2)) (sums_of (part block 0 508)).second
