-- The sums of a list that grows by a byte, and that each fits its 16 bits: what loops and callers use.
-- Assumes nothing.
use Rattle.std.specs.Prelude.{◌≡◌, List, [], ◌∷◌, ◌++◌, ℕ, suc, ◌+◌, ◌^◌, ◌<◌, length, get_or, take}
use Rattle.std.proofs.Common.{ap, ◌∙◌, arith, take-suc}
use Rattle.sums.specs.Sums.{total, running, sums_of}

-- one number more
total_more : (numbers : List ℕ) (number : ℕ) → total (numbers ++ (number ∷ [])) ≡ total numbers + number
unfolding total
total_more [] number = omega arith
total_more (first ∷ numbers) number = omega (arith, total_more numbers number)

running_more : (sum : ℕ) (bytes : List ℕ) (byte : ℕ)
    → running sum (bytes ++ (byte ∷ [])) ≡ running sum bytes ++ ((sum + total bytes + byte) ∷ [])
unfolding running total
running_more sum [] byte = let e : sum + byte ≡ sum + 0 + byte = omega arith in ap (λ (n : ℕ). n ∷ []) e
running_more sum (first ∷ bytes) byte =
    let e : sum + first + total bytes + byte ≡ sum + (first + total bytes) + byte = omega arith in
    ap (λ rest. (sum + first) ∷ rest)
    (running_more (sum + first) bytes byte ∙ ap (λ (n : ℕ). running (sum + first) bytes ++ (n ∷ [])) e)

-- the first sum over i + 1 bytes, and the second
pub first_more : (bytes : List ℕ) (i : ℕ) → i < length bytes
    → total (take (suc i) bytes) ≡ total (take i bytes) + get_or bytes i 0
first_more bytes i h = ap total (take-suc bytes i 0 h) ∙ total_more (take i bytes) (get_or bytes i 0)

pub second_more : (bytes : List ℕ) (i : ℕ) → i < length bytes
    → total (running 0 (take (suc i) bytes)) ≡ total (running 0 (take i bytes)) + total (take (suc i) bytes)
second_more bytes i h =
    let e : 0 + total (take i bytes) + get_or bytes i 0 ≡ total (take (suc i) bytes) =
    omega (arith, first_more bytes i h) in
    ap (λ l. total (running 0 l)) (take-suc bytes i 0 h)
    ∙ ap total (running_more 0 (take i bytes) (get_or bytes i 0))
    ∙ total_more (running 0 (take i bytes)) (0 + total (take i bytes) + get_or bytes i 0)
    ∙ ap (λ (n : ℕ). total (running 0 (take i bytes)) + n) e

-- a sum fits two bytes
pub first_fits : (bytes : List ℕ) → (sums_of bytes).first < 256 ^ 2
first_fits bytes = omega arith

pub second_fits : (bytes : List ℕ) → (sums_of bytes).second < 256 ^ 2
second_fits bytes = omega arith
