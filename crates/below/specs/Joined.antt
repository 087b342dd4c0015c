-- Lists of one width joined one behind the other: how long they are, where each one stands, and how a loop writes them.
-- Assumes nothing.
use Rattle.std.specs.Prelude.{◌≡◌, get_or, drop}
use Rattle.std.proofs.Math.Path.{sym, ap, ap₂}
use Rattle.std.proofs.Common.{◌∙◌, not-suc-le-zero, le_of_suc-le-suc, mul-zero, mul-le-mul_left, add-one, arith, take-add, drop-drop}
use mathlib.Core.List.{List, [], ◌∷◌, ◌++◌}
use Prim.Native.Nat.{ℕ, zero, suc, ◌+◌, ◌*◌, ◌-◌, ◌≤◌, ◌<◌}
use Rattle.std.proofs.Math.Nat.{add_comm, mul-suc}
use Rattle.std.proofs.Math.ListN.{length, take, length-append}
use Rattle.std.proofs.Math.Seq.{take_at, drop-append-add}
use borrow.Rule.Slice.PartMut.{put_mid}
use Rattle.below.specs.Listed.{listed}
use Rattle.below.specs.Copied.{Copied, copied_none, copied_part, copied_length, copied_all}

unfoldable pub joined : {A B : Type 0} → (A → List B) → List A → List B
joined f [] = []
joined f (a ∷ list) = f a ++ joined f list

-- the first k of n have been written into a room of this length
pub record Joining {A B : Type 0} (f : A → List B) (w n room : ℕ) (list : List A) (into out : List B) (k : ℕ)
    : Type 0 where
  pub within : k ≤ n
  pub size : length out ≡ room
  pub filled : Copied (joined f list) into (w * k) out

module _ {A B : Type 0} (f : A → List B) (w : ℕ) (wide : (a : A) → length (f a) ≡ w) where
  pub joined_long : (list : List A) → length (joined f list) ≡ w * length list
  unfolding joined
  joined_long [] = sym (mul-zero w)
  joined_long (a ∷ list) =
      length-append (f a) (joined f list) ∙ ap₂ ◌+◌ (wide a) (joined_long list) ∙ add_comm w (w * length list)
      ∙ sym (mul-suc w (length list))

  -- number k stands from w k on
  pub joined_at : (list : List A) (k : ℕ) (d : A) → k < length list
      → take w (drop (w * k) (joined f list)) ≡ f (get_or list k d)
  unfolding joined
  joined_at [] k d h = absurd (not-suc-le-zero h)
  joined_at (a ∷ list) zero d h =
      ap (λ at. take w (drop at (f a ++ joined f list))) (mul-zero w) ∙ take_at (f a) (joined f list) w (wide a)
  joined_at (a ∷ list) (suc k) d h =
      let at : w * suc k ≡ length (f a) + w * k =
      mul-suc w k ∙ add_comm (w * k) w ∙ ap (λ n. n + w * k) (sym (wide a)) in
      ap (λ n. take w (drop n (f a ++ joined f list))) at
      ∙ ap (take w) (drop-append-add (f a) (joined f list) (w * k)) ∙ joined_at list k d (le_of_suc-le-suc h)

  -- where each is what stands at its place of l, all of them are
  pub joined_again : (place : ℕ → A) (l : List B) (at : ℕ)
      → ((i : ℕ) → at + w * i + w ≤ length l → f (place i) ≡ take w (drop (at + w * i) l))
      → (i n : ℕ) → at + w * i + w * n ≤ length l
      → joined f (listed place i n) ≡ take (w * n) (drop (at + w * i) l)
  unfolding joined listed
  joined_again place l at each i zero h = ap (λ n. take n (drop (at + w * i) l)) (sym (mul-zero w))
  joined_again place l at each i (suc n) h =
      let width : w * suc n ≡ w + w * n = mul-suc w n ∙ add_comm (w * n) w in
      let next : at + w * suc i ≡ at + w * i + w = omega (arith, mul-suc w i) in
      ap₂ ◌++◌ (each i (omega (arith, width)))
      (joined_again place l at each (suc i) n (omega (arith, width, next))
      ∙ ap (λ j. take (w * n) (drop j l)) next
      ∙ ap (take (w * n)) (sym (drop-drop w (at + w * i) l)))
      ∙ sym (take-add w (w * n) (drop (at + w * i) l)) ∙ ap (λ k. take k (drop (at + w * i) l)) (sym width)

  module _ {n room : ℕ} (full : w * n ≡ room) (list : List A) (all : length list ≡ n) (into : List B)
      (long : length into ≡ room) where
    whole : length (joined f list) ≡ room
    whole = joined_long list ∙ ap (λ k. w * k) all ∙ full

    abbrev same : length (joined f list) ≡ length into
    same = whole ∙ sym long

    pub joining_none : Joining f w n room list into into 0
    joining_none =
        record {
          within = omega arith;
          size = long;
          filled = rw mul-zero (copied_none (joined f list) into same);
        }

    -- a loop's turn: the next one is written into its part
    pub joining_more : {out p : List B} {k : ℕ} (d : A) → Joining f w n room list into out k → k < n
        → p ≡ f (get_or list k d) → Joining f w n room list into (put_mid (w * k) (w * k + w - w * k) out p) (k + 1)
    joining_more {out} {p} {k} d j h e =
        let next : w * k + w ≡ w * (k + 1) = sym (ap (λ i. w * i) (add-one k) ∙ mul-suc w k) in
        let fits : w * (k + 1) ≤ w * n = mul-le-mul_left {m = k + 1} {n = n} w (omega arith) in
        let width : w * k + w - w * k ≡ w = omega arith in
        let c = copied_part (joined f list) into same (w * k) w out p (omega (arith, next, fits, full, whole))
        (e ∙ sym (joined_at list k d (omega arith))) j.filled in
        let l = copied_length (joined f list) into same (w * k + w) _ (omega (arith, next, fits, full, whole)) c in
        rw width (record { within = omega arith; size = l ∙ long; filled = rw next at c })

    pub joining_all : {out : List B} {k : ℕ} → Joining f w n room list into out k → n ≤ k → out ≡ joined f list
    joining_all {out} {k} j h =
        let e : k ≡ n = omega (arith, j.within) in
        let at : w * k ≡ length (joined f list) = ap (λ i. w * i) e ∙ full ∙ sym whole in
        copied_all (joined f list) into same (w * k) out (omega (arith, at)) (omega (arith, at)) j.filled
