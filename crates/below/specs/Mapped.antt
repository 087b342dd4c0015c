-- A list made by calls of one closure, entry by entry from the first, as `array::from_fn` makes it: where each call gives
-- what a rule gives, it is the list of that rule.
-- Assumes nothing.
use Rattle.std.specs.Prelude.{◌≡◌, refl, List, ℕ, zero, suc, ◌+◌, ◌≤◌, ◌<◌, length, get_or}
use Rattle.std.specs.Array.{IsFromFnResult, IsFromFnResultFrom}
use Rattle.std.proofs.Common.{sym, ◌∙◌, subst, arith}
use Rattle.std.proofs.Math.Decide.{ℕ_discrete}
use Rattle.std.proofs.lemmas.List.{ext_get_or}
use denote.Param.Members.{Mut, Called}
use Rattle.below.specs.Listed.{listed, length_listed, listed_here}

module _ {B : Type 0} (ys : List B) (n : ℕ) (rule : ℕ → B) where
  -- n entries, each by the rule
  pub listed_of : length ys ≡ n → ((k : ℕ) → k < n → get_or ys k (rule 0) ≡ rule k) → ys ≡ listed rule 0 n
  listed_of long each =
      ext_get_or (rule 0) ys (listed rule 0 n) (long ∙ sym (length_listed rule 0 n))
      (λ k h. let l : k < n = subst (λ m. k < m) long h in each k l ∙ sym (listed_here rule n k (rule 0) l))

-- Each call of a closure f is by the rule, and leaves it as it was.
module _ {F B : Type 0} (f : F) (ys : List B) (n : ℕ) (rule : ℕ → B) (g : Mut F (ℕ × Unit {0}) B)
    (each : (k : ℕ) → k < n → (y : B) (q : F) → Called g f (k, tt) y q → (q ≡ f) × (y ≡ rule k)) where
  -- one call more, at number i, and what is said of those from i + 1 on
  more_calls : (i : ℕ) (e : B) → get_or ys i e ≡ rule i → ((k : ℕ) → i + 1 ≤ k → k < n → get_or ys k e ≡ rule k)
      → (k : ℕ) → i ≤ k → k < n → get_or ys k e ≡ rule k
  more_calls i e here later k low h = elim (ℕ_discrete k i) as (λ _. get_or ys k e ≡ rule k) [
    | yes q ↦ rw q here
    | no q ↦ later k (omega arith) h
  ]

  made_from : (p : F) (i left : ℕ) (e : B) → p ≡ f → i + left ≡ n → IsFromFnResultFrom g p ys i left
      → (k : ℕ) → i ≤ k → k < n → get_or ys k e ≡ rule k
  made_from p i zero e s all M = λ k low h. absurd (omega arith)
  made_from p i (suc left) e s all M =
      let told = each i (omega arith) M.1 M.0 (subst (λ r. Called g r (i, tt) M.1 M.0) s M.3) in
      more_calls i e (M.2.1 e ∙ told.1) (made_from M.0 (i + 1) left e told.0 (omega arith) M.4)

  -- what `from_fn` gave of the numbers below n
  pub listed_of_from_fn : IsFromFnResult g f ys n → ys ≡ listed rule 0 n
  listed_of_from_fn M =
      listed_of ys n rule M.long (λ k h. made_from f 0 n (rule 0) refl (omega arith) M.each k (omega arith) h)
