-- One list copied into another of the same length, entry by entry from the first.
-- Assumes nothing.
use Rattle.std.specs.Prelude.{◌≡◌, refl, List, ◌++◌, ℕ, ◌+◌, ◌≤◌, ◌<◌, length, get_or, set, take, drop}
use Rattle.std.proofs.Common.{sym, ap, ◌∙◌, append-nil, zero-add, add-one, arith, length-take, length-drop, take_all, take-add, length-take-le}
use Rattle.std.proofs.Math.Seq.{drop-length, paste-suc}
use borrow.Rule.Slice.PartMut.{put_mid}
use Rattle.below.specs.Filled.{Filled, filled_length, filled_more}

-- l is `into` with its first n entries from `from`
pub record Copied {A : Type 0} (from into : List A) (n : ℕ) (l : List A) : Type 0 where
  pub so_far : l ≡ take n from ++ drop n into

module _ {A : Type 0} (from into : List A) (same : length from ≡ length into) where
  pub copied_none : Copied from into 0 into
  copied_none = record { so_far = refl }

  -- a loop's turn
  pub copied_more : (n : ℕ) (l : List A) (d : A) → n < length from → Copied from into n l
      → Copied from into (n + 1) (set l n (get_or from n d))
  copied_more n l d h c =
      record {
        so_far = rw (c.so_far, add-one) (simp zero-add at (paste-suc into 0 from n d (omega (arith, same)) h));
      }

  -- the entries copied so far fill the front
  filled : (n : ℕ) (l : List A) → n ≤ length from → Copied from into n l → Filled into n (take n from) l
  filled n l h c =
      record { long = length-take-le n from h; room = omega (arith, same); so_far = c.so_far }

  pub copied_length : (n : ℕ) (l : List A) → n ≤ length from → Copied from into n l → length l ≡ length into
  copied_length n l h c = filled_length into n (take n from) l (filled n l h c)

  -- k entries at once, as a part that was lent
  pub copied_part : (n k : ℕ) (l p : List A) → n + k ≤ length from → p ≡ take k (drop n from) → Copied from into n l
      → Copied from into (n + k) (put_mid n k l p)
  copied_part n k l p h e c =
      let long : length p ≡ k = rw (e, length-take, length-drop) (omega arith) in
      let f = filled_more into n (take n from) l (filled n l (omega arith) c) k p long (omega (arith, same)) in
      record {
        so_far = f.so_far
            ∙ ap (λ (front : List A). front ++ drop (n + k) into)
            (ap (λ (t : List A). take n from ++ t) e ∙ sym (take-add n k from));
      }

  pub copied_all : (n : ℕ) (l : List A) → length from ≤ n → n ≤ length from → Copied from into n l → l ≡ from
  copied_all n l h k c =
      let e : n ≡ length into = omega (arith, same) in
      c.so_far ∙ rw (take_all n from h, e, drop-length, append-nil)
