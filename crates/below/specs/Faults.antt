-- Faults that are added up, bit by bit or one by one: a test that goes on to the end, and one that is left at the
-- first fault. And what is asked only of the numbers from n on.
-- Assumes nothing.
use Rattle.std.specs.Prelude.{◌≡◌, refl, Bool, true, false, not, ◌&&◌, ◌||◌, ℕ, zero, suc, ◌+◌, ◌-◌, ◌≤◌, ◌<◌, leb, ltb, eqb}
use Rattle.std.proofs.Common.{sym, ap, ap₂, ◌∙◌, arith, leb-true, le-leb, eqb-true, eq-eqb, lt-ltb, le-ltb}
use Rattle.std.specs.Int.Bits.{bit_or, or_add_and}
use Rattle.std.proofs.lemmas.Nat.{and_le_l, and_le_r}
use Rattle.std.proofs.lemmas.Bool.{not-true, not-false}
use Rattle.below.specs.Truth.{true_false, same_truth, both_true, both_of_lem, or_either}
use Rattle.below.specs.Below.{all_below, all_below_at, all_below_of, all_below_turn}

-- two faults together are none where neither is one
pub no_fault : (a b : ℕ) → eqb (bit_or a b) 0 ≡ (eqb a 0 && eqb b 0)
no_fault a b = same_truth (eqb (bit_or a b) 0) (eqb a 0 && eqb b 0)
    (λ e. let z : bit_or a b ≡ 0 = eqb-true (bit_or a b) 0 e in
    both_of_lem (eqb a 0) (eqb b 0)
    (eq-eqb a 0 (omega (arith, or_add_and a b, and_le_l a b, and_le_r a b)))
    (eq-eqb b 0 (omega (arith, or_add_and a b, and_le_l a b, and_le_r a b))))
    (λ e. let t = both_true (eqb a 0) (eqb b 0) e in
    let x : a ≡ 0 = eqb-true a 0 t.0 in
    let y : b ≡ 0 = eqb-true b 0 t.1 in
    eq-eqb (bit_or a b) 0 (omega (arith, or_add_and a b)))

pub four_faults : (a b c d : ℕ) → eqb (bit_or (bit_or a b) (bit_or c d)) 0 ≡ ((eqb a 0 && eqb b 0) && (eqb c 0 && eqb d 0))
four_faults a b c d = no_fault (bit_or a b) (bit_or c d) ∙ ap₂ ◌&&◌ (no_fault a b) (no_fault c d)

-- x is over `most` by nothing
pub not_over : (x most : ℕ) → eqb (x - most) 0 ≡ leb x most
not_over x most = same_truth (eqb (x - most) 0) (leb x most)
    (λ e. let z : x - most ≡ 0 = eqb-true (x - most) 0 e in le-leb x most (omega arith))
    (λ e. let z : x ≤ most = leb-true x most e in eq-eqb (x - most) 0 (omega arith))

-- a loop's turn: the faults below i, and the fault at i
pub fault_turn : (p : ℕ → Bool) (i wrong here : ℕ) → eqb wrong 0 ≡ all_below p i → eqb here 0 ≡ p i
    → eqb (bit_or wrong here) 0 ≡ all_below p (i + 1)
fault_turn p i wrong here e h = no_fault wrong here ∙ all_below_turn p i (eqb wrong 0) (eqb here 0) e h

-- a test that is left at the first that fails: a turn, and the fault
pub all_more : (p : ℕ → Bool) (f : ℕ) (here : Bool) → all_below p f ≡ true → here ≡ p f → not here ≡ false
    → all_below p (f + 1) ≡ true
all_more p f here all e h = sym (all_below_turn p f true here (sym all) e) ∙ not-false here h

pub all_left : (p : ℕ → Bool) (f n : ℕ) (here : Bool) → f < n → here ≡ p f → not here ≡ true → false ≡ all_below p n
all_left p f n here l e h = go (all_below p n) refl
  where
    go : (b : Bool) → all_below p n ≡ b → false ≡ b
    go true all = true_false (sym (all_below_at p n all f l) ∙ sym e ∙ not-true here h)
    go false all = refl

-- p from n on
abbrev pub rest_of : ℕ → (ℕ → Bool) → ℕ → Bool
rest_of n p f = ltb f n || p f

-- below n nothing is asked
pub rest_none : (n : ℕ) (p : ℕ → Bool) → true ≡ all_below (rest_of n p) n
rest_none n p =
    sym (all_below_of (rest_of n p) n λ f h. or_either (ltb f n) (p f) λ e. true_false (sym (lt-ltb f n h) ∙ e))

pub rest_turn : (n : ℕ) (p : ℕ → Bool) (i any here : ℕ) → n ≤ i → eqb here 0 ≡ p i
    → eqb any 0 ≡ all_below (rest_of n p) i → eqb (bit_or any here) 0 ≡ all_below (rest_of n p) (i + 1)
rest_turn n p i any here h e all = fault_turn (rest_of n p) i any here all (rw (le-ltb i n h) e)

four_swap : (a b c d : Bool) → ((a && b) && (c && d)) ≡ ((a && c) && (b && d))
four_swap true true c d = refl
four_swap true false true d = refl
four_swap true false false d = refl
four_swap false b c d = refl

-- two rules, one after the other or side by side
pub both_below : (p q : ℕ → Bool) (n : ℕ) → (all_below p n && all_below q n) ≡ all_below (λ k. p k && q k) n
unfolding all_below
both_below p q zero = refl
both_below p q (suc n) =
    four_swap (all_below p n) (p n) (all_below q n) (q n) ∙ ap (λ b. b && (p n && q n)) (both_below p q n)

pub or_both : (a b c : Bool) → ((a || b) && (a || c)) ≡ (a || (b && c))
or_both true b c = refl
or_both false b c = refl
