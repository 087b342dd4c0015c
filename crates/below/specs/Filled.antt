-- A list that is filled from its start, part after part, each part lent and given back.
-- Assumes nothing.
use Rattle.std.specs.Prelude.{◌≡◌, List, ◌++◌, ℕ, ◌+◌, ◌≤◌, length, drop}
use Rattle.std.proofs.Common.{ap₂, ◌∙◌, append_assoc, arith, length-append, length-drop, take_at, drop_at, drop-drop}
use borrow.Rule.Slice.PartMut.{put_mid}

-- w is w0 with p in the place of its first n entries
pub record Filled {A : Type 0} (w0 : List A) (n : ℕ) (p w : List A) : Type 0 where
  pub long : length p ≡ n
  pub room : n ≤ length w0
  pub so_far : w ≡ p ++ drop n w0

module _ {A : Type 0} (w0 : List A) (n : ℕ) (p w : List A) (F : Filled w0 n p w) where
  pub filled_length : length w ≡ length w0
  filled_length = rw (F.so_far, length-append, length-drop, F.long) (omega (arith, F.room))

  -- and with q in the place of the next k
  pub filled_more : (k : ℕ) (q : List A) → length q ≡ k → n + k ≤ length w0
      → Filled w0 (n + k) (p ++ q) (put_mid n k w q)
  filled_more k q h l =
      record {
        long = length-append p q ∙ ap₂ ◌+◌ F.long h;
        room = l;
        so_far = rw (
          F.so_far,
          take_at p (drop n w0) n F.long,
          drop_at p (drop n w0) n F.long,
          drop-drop k n w0,
          append_assoc,
        );
      }
