-- One flow's part of the backlog, in numbers alone: q is a share, T a tag, c the clock,
-- and n the charge of the front packet, 0 where nothing waits.
-- Everything about rounding is in `own_room` and the fact `720000 ≤ q * cost` that it is used with.
-- Assumes nothing.
use Rattle.std.specs.Prelude.{◌≡◌, cond, leb}
use Prim.Native.Nat.{ℕ, zero, suc, ◌+◌, ◌-◌, ◌*◌, max, ◌≤◌, ◌<◌}
use Rattle.std.proofs.Math.Nat.{mul-le-mul_left}
use Rattle.std.proofs.Common.{mul-le-mul_right, not-suc-le-zero, le-leb}
use Rattle.std.proofs.Math.Decide.{dec_le}
use native.Mathlib.Omega.{arith}
use Rattle.std.proofs.lemmas.Bool.{lt-leb}

-- what is due by time t: a packet with its tag at or below t, at 720 ticks a byte for each of 1,000 thousandths
unfoldable pub due : ℕ → ℕ → ℕ → ℕ
due t T n = cond (leb T t) (720000 * n) 0

-- the flow's part: its share of what is left from tag and clock to t, and what is due
unfoldable pub own : ℕ → ℕ → ℕ → ℕ → ℕ → ℕ
own c t q T n = q * (t - max T c) + due t T n

-- from its tag on a packet is due, before it is not
pub due_from : (t T n : ℕ) → T ≤ t → due t T n ≡ 720000 * n
unfolding due
due_from t T n h = rw (le-leb T t h)

pub due_before : (t T n : ℕ) → t < T → due t T n ≡ 0
unfolding due
due_before t T n h = rw (lt-leb T t h)

-- nothing is due of an idle flow
pub due_idle : (t T : ℕ) → due t T 0 ≡ 0
due_idle t T = elim (dec_le T t) [
  | yes p ↦ omega (arith, due_from t T 0 p)
  | no p ↦ omega (arith, due_before t T 0 (omega arith))
]

module _ (c t q T : ℕ) where
  -- the part of an idle flow
  pub own_idle : own c t q T 0 ≡ q * (t - max T c)
  unfolding own
  own_idle = omega (arith, due_idle t T)

  -- serving the front packet takes just what was due
  pub own_served : (n : ℕ) → T ≤ t → own c t q T 0 + 720000 * n ≡ own c t q T n
  unfolding own
  own_served n h = omega (arith, due_idle t T, due_from t T n h)

  -- the part falls as the clock goes on
  pub own_clock : (d n : ℕ) → c ≤ d → own d t q T n ≤ own c t q T n
  unfolding own
  own_clock d n h = omega (arith, mul-le-mul_left {m = t - max T d} {n = t - max T c} q (omega arith))

  -- a packet whose tag is w past a, with w enough for its charge, fits into the room from a on
  pub own_room : (n a w : ℕ) → 720000 * n ≤ q * w → a + w ≤ T → own c t q T n ≤ q * (t - a)
  unfolding own
  own_room n a w h l = elim (dec_le T t) [
    | yes p ↦ omega (arith, due_from t T n p, mul-le-mul_left {m = t - max T c + w} {n = t - a} q (omega arith))
    | no p ↦ omega (
      arith,
      due_before t T n (omega arith),
      mul-le-mul_left {m = t - max T c} {n = t - a} q (omega arith),
    )
  ]

  -- before its tag a flow has no more than its room from the clock on
  pub own_low : (n : ℕ) → (0 < n → t < T) → own c t q T n ≤ q * (t - c)
  unfolding own
  own_low zero h = omega (arith, due_idle t T, mul-le-mul_left {m = t - max T c} {n = t - c} q (omega arith))
  own_low (suc n) h =
      omega (
        arith,
        due_before t T (suc n) (h (omega arith)),
        mul-le-mul_left {m = t - max T c} {n = t - c} q (omega arith),
      )

-- what a charge of n is due is covered by its cost
charge_covered : (q n k : ℕ) → 720000 ≤ q * k → 720000 * n ≤ q * (n * k)
charge_covered q n k covers = omega (arith, mul-le-mul_right n covers)

-- a packet that comes to the front takes no more than the room its flow had
pub own_front : (c t q T n k : ℕ) → 720000 ≤ q * k → own c t q (max T c + n * k) n ≤ own c t q T 0
own_front c t q T n k covers = rw (own_idle c t q T)
    (own_room c t q (max T c + n * k) n (max T c) (n * k) (charge_covered q n k covers) (omega arith))

-- a flow whose tag is far ahead has no more than its room from the leapt clock on
pub own_far : (c t q T n k w : ℕ) → 720000 ≤ q * k → n * k ≤ w → (0 < n → c + 2 * w < T)
    → own (c + w) t q T n ≤ q * (t - (c + w))
own_far c t q T zero k w covers fits far = own_low (c + w) t q T zero λ l. absurd (not-suc-le-zero l)
own_far c t q T (suc n) k w covers fits far =
    own_room (c + w) t q T (suc n) (c + w) (suc n * k) (charge_covered q (suc n) k covers)
    (omega (arith, far (omega arith)))
