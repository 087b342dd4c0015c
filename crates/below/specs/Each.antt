-- What `all` finds of a list, and of two lists side by side: a test of the numbers below n.
-- Assumes nothing.
use Rattle.std.specs.Prelude.{◌≡◌, List, Bool, ◌&&◌, ℕ, zero, suc, ◌+◌, ◌≤◌, length, get_or, take}
use Rattle.std.specs.List.{list_all, zip}
use Rattle.std.proofs.Common.{sym, ap, ◌∙◌, arith, take_all}
use Rattle.std.proofs.lemmas.List.Folds.{list_all_more}
use Rattle.std.proofs.lemmas.Slice.Zip.{length-zip, get_or-zip}
use Rattle.below.specs.Below.{all_below, all_below_none, all_below_more, all_below_same}

module _ {X : Type 0} (p : X → Bool) (xs : List X) (d : X) where
  -- the first n items
  all_of_first : (n : ℕ) → n ≤ length xs → list_all p (take n xs) ≡ all_below (λ k. p (get_or xs k d)) n
  all_of_first zero h = sym (all_below_none _)
  all_of_first (suc n) h =
      let one : n + 1 ≡ suc n = omega arith in
      rw (← one) (list_all_more p xs n d (omega arith)
      ∙ ap (λ b. b && p (get_or xs n d)) (all_of_first n (omega arith))
      ∙ sym (all_below_more (λ k. p (get_or xs k d)) n))

  pub all_of_list : (n : ℕ) → length xs ≡ n → list_all p xs ≡ all_below (λ k. p (get_or xs k d)) n
  all_of_list n long = ap (list_all p) (sym (take_all n xs (omega arith))) ∙ all_of_first n (omega arith)

-- two lists of n items
pub all_of_pairs : {X Y : Type 0} (p : X × Y → Bool) (xs : List X) (ys : List Y) (d : X) (e : Y) (n : ℕ)
    → length xs ≡ n → length ys ≡ n → list_all p (zip xs ys) ≡ all_below (λ k. p (get_or xs k d, get_or ys k e)) n
all_of_pairs p xs ys d e n long same =
    all_of_list p (zip xs ys) (d, e) n (length-zip xs ys ∙ omega arith)
    ∙ all_below_same (λ k. p (get_or (zip xs ys) k (d, e))) (λ k. p (get_or xs k d, get_or ys k e)) n
    (λ k h. ap p (get_or-zip xs ys k (d, e) (omega arith) (omega arith)))
