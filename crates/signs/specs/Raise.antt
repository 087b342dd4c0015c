-- What adding the sum of the leaps does to each step on a tag: the record so raised is the first engine's.
-- Assumes nothing.
use Rattle.std.specs.Prelude.{◌≡◌, refl, Bool, true, false, ℕ, zero, suc, ◌+◌, ◌-◌, ◌≤◌, ◌<◌, ltb, ℤ, pos, negsuc, ◌-ℤ◌}
use Rattle.std.proofs.Common.{sym, ap, ◌∙◌, subst, arith, ltb-true, ltb-false, lt-ltb, le-ltb}
use Rattle.std.proofs.Math.IntN.{+ℤ_idr}
use Rattle.std.specs.Int.Signed.{mag}
use Rattle.below.specs.Truth.{true_false}
use Rattle.tags.specs.Ticks as forward
use Rattle.tags.specs.Choice.{no_tag}
use Rattle.signs.specs.Tags.{natural, front_tag, lowered, raised}
use Rattle.signs.specs.Bounds.{reach}

-- not below zero with the sum added: only then is it a tag of the first engine
abbrev pub above : ℕ → ℤ → Bool
above s (pos a) = true
above s (negsuc a) = ltb a s

-- below zero even so: what is above every tag stands for it
pub below_zero : (s : ℕ) (z : ℤ) → above s z ≡ false → raised s z ≡ no_tag
below_zero s (pos a) t = true_false t
below_zero s (negsuc a) t = rw t

-- a raised tag that is below what is above every tag is one
pub above_of : (s : ℕ) (z : ℤ) → raised s z < no_tag → above s z ≡ true
above_of s z h = go (above s z) refl
  where
    go : (b : Bool) → above s z ≡ b → b ≡ true
    go true e = refl
    go false e = absurd (omega (arith, below_zero s z e))

-- a tag below zero that the sum takes above it
raised_under : (s a : ℕ) → ltb a s ≡ true → raised s (negsuc a) ≡ s - suc a
raised_under s a t = rw t

-- a tag that is at least the sum when raised was not below zero
pub raised_natural : (s : ℕ) (z : ℤ) → s ≤ raised s z → raised s z < no_tag → raised s z ≡ natural z + s
raised_natural s (pos a) h k = refl
raised_natural s (negsuc a) h k = let t = above_of s (negsuc a) k in
    absurd (omega (arith, ltb-true a s t, raised_under s a t))

-- a raised tag and a sum within reach: so is the tag
pub raised_near : (s : ℕ) (z : ℤ) → raised s z < reach → s < reach → mag z < reach
raised_near s (pos a) h k = omega arith
raised_near s (negsuc a) h k = omega (arith, ltb-true a s (above_of s (negsuc a) (omega arith)))

-- as far as a tag is above zero it is no further than its size
pub natural_most : (z : ℤ) → natural z ≤ mag z
natural_most (pos a) = omega arith
natural_most (negsuc a) = omega arith

-- the tag of a front packet is the first engine's, with the sum added to tag and clock
pub raised_front : (s : ℕ) (z : ℤ) (clock cost charge : ℕ) → above s z ≡ true
    → raised s (front_tag z clock cost charge) ≡ forward.front_tag (raised s z) (clock + s) cost charge
raised_front s (pos a) clock cost charge t = omega arith
raised_front s (negsuc a) clock cost charge t = omega (arith, raised_under s a t)

-- a tag of at least the width stays above zero
pub lowered_natural : (d a : ℕ) → d ≤ a → lowered d (pos a) ≡ pos (a - d)
lowered_natural zero a h = +ℤ_idr (pos a) ∙ ap pos (omega arith)
lowered_natural (suc d) a h = rw (le-ltb a (suc d) h)

-- and within reach where it was
pub lowered_near : (d : ℕ) (z : ℤ) → d < natural z → mag z < reach → mag (lowered d z) < reach
lowered_near d (pos a) h k = rw (lowered_natural d a (omega arith)) (omega arith)
lowered_near d (negsuc a) h k = absurd (omega arith)

-- a smaller one goes below
lowered_short : (d a : ℕ) → a < d → lowered d (pos a) ≡ negsuc (d - suc a)
lowered_short zero a h = absurd (omega arith)
lowered_short (suc d) a h = rw (lt-ltb a (suc d) h)

-- and one below zero further
lowered_under : (d a : ℕ) → lowered d (negsuc a) ≡ negsuc (a + d)
lowered_under zero a = +ℤ_idr (negsuc a) ∙ ap negsuc (omega arith)
lowered_under (suc d) a = ap negsuc (omega arith)

-- what holds of the three ways to lower a tag holds of each tag lowered
pub lowered_at : (P : ℤ → ℤ → Type 0) (d : ℕ) → ((a : ℕ) → d ≤ a → P (pos a) (pos (a - d)))
    → ((a : ℕ) → a < d → P (pos a) (negsuc (d - suc a))) → ((a : ℕ) → P (negsuc a) (negsuc (a + d)))
    → (z : ℤ) → P z (lowered d z)
lowered_at P d f g h (negsuc a) = subst (P (negsuc a)) (sym (lowered_under d a)) (h a)
lowered_at P d f g h (pos a) = go (ltb a d) refl
  where
    go : (b : Bool) → ltb a d ≡ b → P (pos a) (lowered d (pos a))
    go true e = let u = ltb-true a d e in subst (P (pos a)) (sym (lowered_short d a u)) (g a u)
    go false e = let u = ltb-false a d e in subst (P (pos a)) (sym (lowered_natural d a u)) (f a u)

-- a leap takes no tag below zero with the sum added: the sum grows by what the tag loses
pub above_lowered : (s d : ℕ) (z : ℤ) → above s z ≡ true → above (s + d) (lowered d z) ≡ true
above_lowered s d =
    lowered_at (λ z low. above s z ≡ true → above (s + d) low ≡ true) d
    (λ a h t. refl)
    (λ a h t. lt-ltb (d - suc a) (s + d) (omega arith))
    (λ a t. lt-ltb (a + d) (s + d) (omega (arith, ltb-true a s t)))

-- and a leap changes no raised tag
pub raised_lowered : (s d : ℕ) (z : ℤ) → above s z ≡ true → raised (s + d) (lowered d z) ≡ raised s z
raised_lowered s d =
    lowered_at (λ z low. above s z ≡ true → raised (s + d) low ≡ raised s z) d
    (λ a h t. omega arith)
    (λ a h t. raised_under (s + d) (d - suc a) (lt-ltb (d - suc a) (s + d) (omega arith)) ∙ omega arith)
    (λ a t. let u = ltb-true a s t in
    raised_under (s + d) (a + d) (lt-ltb (a + d) (s + d) (omega arith)) ∙ omega (arith, raised_under s a t))

-- tag less clock is the same with the sum added to both
pub raised_distance : (s clock : ℕ) (z : ℤ) → above s z ≡ true → pos (raised s z) -ℤ pos (clock + s) ≡ z -ℤ pos clock
raised_distance s clock (pos a) t = go (ltb a clock) refl
  where
    go : (b : Bool) → ltb a clock ≡ b → lowered (clock + s) (pos (a + s)) ≡ lowered clock (pos a)
    go true e = let u = ltb-true a clock e in
        lowered_short (clock + s) (a + s) (omega arith) ∙ ap negsuc (omega arith) ∙ sym (lowered_short clock a u)
    go false e = let u = ltb-false a clock e in
        lowered_natural (clock + s) (a + s) (omega arith) ∙ ap pos (omega arith) ∙ sym (lowered_natural clock a u)
raised_distance s clock (negsuc a) t = let u = ltb-true a s t in
    ap (λ n. lowered (clock + s) (pos n)) (raised_under s a t)
    ∙ lowered_short (clock + s) (s - suc a) (omega arith) ∙ ap negsuc (omega arith) ∙ sym (lowered_under clock a)
