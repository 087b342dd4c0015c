-- What callers draw from the definitions of `Ticks` and `Form`: the Bool of a tag's form as plain facts and back, and
-- how far a leap goes.
-- Assumes nothing.
use Rattle.std.specs.Prelude.{◌≡◌, ℕ, ◌+◌, ◌*◌, ◌<◌, ◌≤◌, Bool, true, false, cond, ◌==◌, refl}
use Rattle.std.proofs.Common.{arith}
use borrow.Author.Tests.{leb-true, ltb-false, eqb-true, eqb-false, le-leb, eq-eqb, ne_eqb}
use Rattle.cost.specs.Cost.{within_of, within_bounds}
use Rattle.tags.specs.Ticks.{leaps, leap_clock}
use Rattle.tags.specs.Form.{tag_formed}

module _ (clock width tag waiting : ℕ) where
  -- a waiting flow's tag is from the clock to clock + 3Δ
  pub tag_waiting : tag_formed clock width tag waiting ≡ true → 0 < waiting
      → (clock ≤ tag) × (tag ≤ clock + 3 * width)
  unfolding tag_formed
  tag_waiting e h =
      within_bounds clock (clock + 3 * width) tag (rw (ne_eqb waiting 0 (λ z. omega arith)) at e)

  -- any other flow's tag is at most clock + 2Δ
  pub tag_idle : tag_formed clock width tag waiting ≡ true → waiting ≡ 0 → tag ≤ clock + 2 * width
  unfolding tag_formed
  tag_idle e h = leb-true tag (clock + 2 * width) (rw (eq-eqb waiting 0 h) at e)

  -- a waiting flow's tag in these bounds is well formed
  pub tag_waiting_in : 0 < waiting → clock ≤ tag → tag ≤ clock + 3 * width
      → tag_formed clock width tag waiting ≡ true
  unfolding tag_formed
  tag_waiting_in h l u =
      rw (ne_eqb waiting 0 (λ z. omega arith), within_of clock (clock + 3 * width) tag l u)

  -- any other flow's tag in its bound is well formed
  pub tag_idle_in : waiting ≡ 0 → tag ≤ clock + 2 * width → tag_formed clock width tag waiting ≡ true
  unfolding tag_formed
  tag_idle_in h u = rw (eq-eqb waiting 0 h, le-leb tag (clock + 2 * width) u)

  -- no flow's tag is above clock + 3Δ
  pub tag_at_most : tag_formed clock width tag waiting ≡ true → tag ≤ clock + 3 * width
  tag_at_most e = go (waiting == 0) refl
    where
      go : (b : Bool) → (waiting == 0) ≡ b → tag ≤ clock + 3 * width
      go true z = omega (arith, tag_idle e (eqb-true waiting 0 z))
      go false z = (tag_waiting e (omega (arith, eqb-false waiting 0 z))).1

module _ (clock width T : ℕ) where
  -- a leap never takes the clock back
  pub leap_low : clock ≤ leap_clock clock width T
  leap_low = go (leaps clock width T)
    where
      go : (b : Bool) → clock ≤ cond b (clock + width) clock
      go true = omega arith
      go false = omega arith

  -- a leap takes the clock on by Δ at the most
  pub leap_high : leap_clock clock width T ≤ clock + width
  leap_high = go (leaps clock width T)
    where
      go : (b : Bool) → cond b (clock + width) clock ≤ clock + width
      go true = omega arith
      go false = omega arith

  -- after the leap a tag of at most clock + 3Δ is at most 2Δ ahead
  pub leap_near : T ≤ clock + 3 * width → T ≤ leap_clock clock width T + 2 * width
  leap_near h = go (leaps clock width T) refl
    where
      go : (b : Bool) → leaps clock width T ≡ b → T ≤ cond b (clock + width) clock + 2 * width
      go true e = omega arith
      go false e = ltb-false (clock + 2 * width) T e
