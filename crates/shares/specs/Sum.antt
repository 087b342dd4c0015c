-- Laws of sums over the flows, `sum_below`: the backlog adds one term for each flow.
-- Assumes nothing.
use Rattle.std.specs.Prelude.{◌≡◌, ℕ, zero, suc, ◌+◌, ◌*◌, ◌≤◌, ◌<◌}
use Rattle.std.proofs.Common.{ap, not-suc-le-zero, arith}
use Rattle.std.proofs.Math.Decide.{ℕ_discrete}
use Rattle.below.specs.Below.{sum_below}

-- where no term is larger, the sum is not
pub sum_le : {g h : ℕ → ℕ} (n : ℕ) → ((j : ℕ) → j < n → g j ≤ h j) → sum_below g n ≤ sum_below h n
unfolding sum_below
sum_le zero e = omega arith
sum_le (suc n) e = omega (arith, sum_le n (λ j l. e j (omega arith)), e n (omega arith))

-- and where one term is less by x, so is the sum
pub sum_less : {g h : ℕ → ℕ} (n i x : ℕ) → i < n → g i + x ≤ h i → ((j : ℕ) → j < n → g j ≤ h j)
    → sum_below g n + x ≤ sum_below h n
unfolding sum_below
sum_less zero i x l less e = absurd (not-suc-le-zero l)
sum_less {g} {h} (suc n) i x l less e = elim (ℕ_discrete i n) as (λ _. sum_below g (suc n) + x ≤ sum_below h (suc n)) [
  | yes q ↦ omega (arith, ap g q, ap h q, sum_le n (λ j l. e j (omega arith)))
  | no q ↦ omega (arith, sum_less n i x (omega arith) less (λ j l. e j (omega arith)), e n (omega arith))
]

-- a factor of every term is one of the sum
pub sum_times : (g : ℕ → ℕ) (n w : ℕ) → sum_below (λ j. g j * w) n ≡ sum_below g n * w
unfolding sum_below
sum_times g zero w = omega arith
sum_times g (suc n) w = omega (arith, sum_times g n w)

-- no term is above the sum
pub sum_one : (g : ℕ → ℕ) (n i : ℕ) → i < n → g i ≤ sum_below g n
unfolding sum_below
sum_one g zero i l = absurd (not-suc-le-zero l)
sum_one g (suc n) i l = elim (ℕ_discrete i n) as (λ _. g i ≤ sum_below g n + g n) [
  | yes q ↦ omega (arith, ap g q)
  | no q ↦ omega (arith, sum_one g n i (omega arith))
]
