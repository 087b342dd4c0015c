-- A number read from digits and written in them, digit by digit.
-- Assumes nothing.
use mathlib.Core.Path.{◌≡◌, refl, sym, ap, ◌∙◌}
use mathlib.Core.Bool.{Bool, true, false, cond}
use mathlib.Core.List.{List, [], ◌∷◌, ◌++◌}
use Prim.Native.Nat.{ℕ, zero, suc, ◌+◌, ◌-◌, ◌*◌, ◌/◌, ◌%◌, ◌^◌, ◌≤◌, ◌<◌}
use native.Mathlib.Numerals.{add-one}
use native.Mathlib.Omega.{arith}
use lib.Dec.{eqb, leb, ltb}
use lib.ListN.{length, get_or, drop, drop_of_length-le}
use lib.Seq.{drop-cons}
use borrow.Author.Tests.{eqb-true, ltb-false, le-leb, lt-leb, lt-ltb, le-ltb}
use Rattle.cost.specs.Cost.{within, within_bounds}
use Rattle.lines.specs.Number.{digit, is_digit, all_digits, value_from, number_of, digits_of, decimal}
use Rattle.std.specs.Prelude.{None, Some, Result, Ok, Err, OkIff}
use Rattle.std.specs.Result.{result_ok}
use Rattle.std.proofs.Common.{Less, Equal, Greater}
use Rattle.std.specs.Ordering.{is_le, nat_cmp}
use Rattle.std.specs.declared.ops.RangeInclusive.{RangeInclusive}
use Rattle.std.specs.Range.{range_inclusive_start, range_inclusive_end, range_inclusive_exhausted, range_inclusive_contains}
use Rattle.std.proofs.lemmas.Bool.{eqb-false, ltb-true}
use Rattle.std.specs.Fmt as library
use Rattle.std.proofs.lemmas.Fmt.{decimal_by_steps, length-decimal-le}

-- the first `at` bytes are digits, and `value` is their value
pub record Reads (field : List ℕ) (value at : ℕ) : Type 0 where
  pub reached : at ≤ length field
  pub digits : all_digits field ≡ all_digits (drop at field)
  pub values : value_from 0 field ≡ value_from value (drop at field)
  pub small : value < 10 ^ at

-- the library's order of numbers, and its test of a range
le_tells : (a b : ℕ) → is_le (nat_cmp a b) ≡ leb a b
le_tells a b = go (ltb a b) (eqb a b) refl refl
  where
    go : (t u : Bool) → ltb a b ≡ t → eqb a b ≡ u → is_le (cond t Less (cond u Equal Greater)) ≡ leb a b
    go true u e f = sym (le-leb a b (omega (arith, ltb-true a b e)))
    go false true e f = sym (le-leb a b (omega (arith, eqb-true a b f)))
    go false false e f = sym (lt-leb a b (omega (arith, ltb-false a b e, eqb-false a b f)))

pub in_range : (s : RangeInclusive ℕ) (n : ℕ) (r : Bool) → range_inclusive_start s ≡ 1 → range_inclusive_end s ≡ 10
    → range_inclusive_exhausted s ≡ false → r ≡ range_inclusive_contains (λ a b. Some (nat_cmp a b)) s n
    → r ≡ within 1 10 n
in_range s n r from to more e = e ∙ rw (from, to, more, le_tells 1 n, le_tells n 10)

pub length_wrong : (field : List ℕ) → within 1 10 (length field) ≡ false → None ≡ number_of field
unfolding number_of
length_wrong field e = rw e

module _ (field : List ℕ) where
  pub reads_none : Reads field 0 0
  reads_none = record { reached = omega arith; digits = refl; values = refl; small = omega arith }

  pub reads_more : (value at : ℕ) → Reads field value at → at < length field → is_digit (get_or field at 0) ≡ true
      → Reads field (value * 10 + (get_or field at 0 - 48)) (at + 1)
  unfolding all_digits value_from
  reads_more value at r h d = let u = within_bounds 48 57 (get_or field at 0) d in
      record {
        reached = omega arith;
        digits = r.digits ∙ rw (drop-cons field at 0 h, d, add-one);
        values = r.values ∙ rw (drop-cons field at 0 h, add-one);
        small = rw add-one (omega (arith, r.small, u));
      }

  module _ (l : within 1 10 (length field) ≡ true) where
    pub no_digit : (value at : ℕ) → Reads field value at → at < length field
        → is_digit (get_or field at 0) ≡ false → None ≡ number_of field
    unfolding number_of all_digits
    no_digit value at r h d = rw (
      l,
      r.digits,
      drop-cons field at 0 h,
      d,
    )

    -- all are digits
    reads_all : (value at : ℕ) → Reads field value at → length field ≤ at
        → number_of field ≡ cond (leb value 4294967295) (Some value) None
    unfolding number_of all_digits value_from
    reads_all value at r h = rw (
      l,
      r.digits,
      r.values,
      drop_of_length-le field {i = at} h,
    )

    -- and their value fits or not
    pub value_given : {E : Type 0} (value at : ℕ) (r : Result ℕ E) → Reads field value at → length field ≤ at
        → OkIff r (value < 4294967296) value → result_ok r ≡ number_of field
    value_given value at (Ok n) r h o = sym (reads_all value at r h ∙ rw (le-leb value 4294967295 (omega arith), o.1))
    value_given value at (Err e) r h o = sym (reads_all value at r h ∙ rw (lt-leb value 4294967295 (omega arith)))

-- the last digit behind the same digits
same_digits : (b : Bool) (n : ℕ) (one other : List ℕ) → ltb n 10 ≡ b → (10 ≤ n → one ≡ other)
    → cond b (digit n ∷ []) (one ++ digit (n % 10) ∷ []) ≡ cond b (digit n ∷ []) (other ++ digit (n % 10) ∷ [])
same_digits true n one other e h = refl
same_digits false n one other e h = rw (h (ltb-false n 10 e))

-- as many digits as the number has, whatever more could be
digits_enough : (j k n : ℕ) → n ≤ j → n ≤ k → digits_of j n ≡ digits_of k n
unfolding digits_of
digits_enough zero zero n h l = refl
digits_enough zero (suc k) n h l = rw (lt-ltb n 10 (omega arith))
digits_enough (suc j) zero n h l = rw (lt-ltb n 10 (omega arith))
digits_enough (suc j) (suc k) n h l =
    same_digits (ltb n 10) n _ _ refl (λ u. digits_enough j k (n / 10) (omega arith) (omega arith))

pub decimal_one : (n : ℕ) → n < 10 → decimal n ≡ digit n ∷ []
unfolding decimal digits_of
decimal_one zero h = refl
decimal_one (suc n) h = rw (lt-ltb (suc n) 10 h)

pub decimal_more : (n : ℕ) → 10 ≤ n → decimal n ≡ decimal (n / 10) ++ digit (n % 10) ∷ []
unfolding decimal digits_of
decimal_more zero h = absurd (omega arith)
decimal_more (suc n) h =
    rw (le-ltb (suc n) 10 h, digits_enough n (suc n / 10) (suc n / 10) (omega arith) (omega arith))

-- the library writes the same digits
pub same_decimal : (n : ℕ) → n < 2 ^ 64 → library.decimal n ≡ decimal n
same_decimal n h = sym (decimal_by_steps (λ n ds. decimal n ≡ ds) decimal_one
    (λ n ds l e. decimal_more n l ∙ ap (λ (front : List ℕ). front ++ digit (n % 10) ∷ []) e) n h)

pub decimal_few : (n : ℕ) → n < 2 ^ 64 → length (decimal n) ≤ 20
decimal_few n h = rw (← same_decimal n h) (length-decimal-le 20 n (omega arith) (omega arith) h)
