-- Signed numbers of 64 bits, as the code's steps leave them: written as bits, and read back from them.
-- Assumes nothing.
use Rattle.std.specs.Prelude.{◌≡◌, true, false, ℕ, suc, ◌^◌, ◌<◌, T, ℤ, pos, negsuc, nat_abs, ◌-ℤ◌}
use Rattle.std.proofs.Common.{ap, arith, SFits, Fits, to_z, of_z, to_z-of_z, ltb-true, le-ltb}
use Rattle.std.specs.Int.Signed.{mag, lt_z, non_neg}
use Rattle.std.specs.Int.{w64}
use Rattle.std.proofs.Math.Facts.{Fits-nat_abs}
use Rattle.below.specs.Truth.{true_false}

-- a number read back from its bits
abbrev pub back : ℤ → ℤ
back z = to_z w64 (of_z w64 z)

pub back_is : (z : ℤ) → mag z < 2 ^ 63 → back z ≡ z
back_is z h = to_z-of_z {w = w64} (record { sfits = h })

-- what lies between -1 and a number, which fits for every number below zero
abbrev pub under : ℤ → ℤ
under z = negsuc 0 -ℤ back z

under_is : (a : ℕ) → negsuc 0 -ℤ negsuc a ≡ pos a
under_is a = rw (le-ltb (suc a) 1 (omega arith)) (ap pos (omega arith))

-- a law of a number that is not below zero, from its law at `pos`
pub whole : (P : ℤ → ℤ → Type 0) → ((a : ℕ) → a < 2 ^ 63 → P (pos a) (pos a)) → (z : ℤ) → SFits w64 z
    → lt_z (back z) (pos 0) ≡ false → P z (back z)
whole P p z f t = rw (to_z-of_z f) (go z f (rw (to_z-of_z f) at t))
  where
    go : (y : ℤ) → SFits w64 y → lt_z y (pos 0) ≡ false → P y y
    go (pos a) g e = p a g.sfits
    go (negsuc a) g e = true_false e

-- a law of a number below zero, from its law at `negsuc`
pub short : (P : ℤ → ℤ → Type 0) → ((a : ℕ) → a < 2 ^ 63 → P (negsuc a) (pos a)) → (z : ℤ) → SFits w64 z
    → lt_z (back z) (pos 0) ≡ true → P z (under z)
short P p z f t = rw (to_z-of_z f) (go z f (rw (to_z-of_z f) at t))
  where
    go : (y : ℤ) → SFits w64 y → lt_z y (pos 0) ≡ true → P y (negsuc 0 -ℤ y)
    go (pos a) g e = absurd (omega (arith, ltb-true a 0 e))
    go (negsuc a) g e = rw (under_is a) (p a g.sfits)

-- a number that is not below zero is cast without loss
pub whole_at : (z : ℤ) → SFits w64 z → lt_z (back z) (pos 0) ≡ false → T (non_neg (back z))
whole_at = whole (λ y b. T (non_neg b)) (λ a h. tt)

pub whole_fits : (z : ℤ) → SFits w64 z → Fits w64 (nat_abs (back z))
whole_fits z f = rw (to_z-of_z f) (Fits-nat_abs tt f)

-- what lies between -1 and a number below zero fits, and is cast without loss
pub under_fits : (z : ℤ) → SFits w64 z → lt_z (back z) (pos 0) ≡ true → SFits w64 (under z)
under_fits = short (λ y u. SFits w64 u) (λ a h. record { sfits = h })

pub under_at : (z : ℤ) → SFits w64 z → lt_z (back z) (pos 0) ≡ true → T (non_neg (back (under z)))
under_at = short (λ y u. T (non_neg (back u))) (λ a h. rw (back_is (pos a) h) tt)

pub under_cast : (z : ℤ) → SFits w64 z → lt_z (back z) (pos 0) ≡ true → Fits w64 (nat_abs (back (under z)))
under_cast z f t = whole_fits (under z) (under_fits z f t)
