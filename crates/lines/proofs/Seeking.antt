-- Where the first mark stands, as `position` finds it, and the two parts that a text is cut in there.
-- Assumes nothing.
use Rattle.std.proofs.Common.{◌≡◌, refl, sym, ◌∙◌, Bool, true, false, cond, List, [], ◌∷◌, ℕ, suc, ◌+◌, ◌-◌, ◌≤◌, ◌<◌, eqb, ltb, length, take, drop, arith, add-one, length-drop, take_all, drop_of_length-le, ltb-true, ltb-false}
use mathlib.Core.Logic.{◌⊎◌, inl, inr}
use Rattle.std.specs.Prelude.{Option, None, Some, unwrap_or, not}
use Rattle.std.specs.List.{position_or_len}
use Rattle.lines.specs.Text.{space, before, end_from, parts_of}
use Rattle.lines.specs.Ends.{before_most}
use Rattle.lines.specs.Places.{parts_cut, parts_whole}

-- the library counts the same bytes
mark_place : (mark : ℕ) (text : List ℕ) → before mark text ≡ position_or_len (λ b. eqb b mark) text
unfolding before
mark_place mark [] = refl
mark_place mark (b ∷ bs) = go (eqb b mark) (mark_place mark bs)
  where
    go : (t : Bool) → before mark bs ≡ position_or_len (λ b. eqb b mark) bs
        → cond t 0 (suc (before mark bs)) ≡ cond (not t) (1 + position_or_len (λ b. eqb b mark) bs) 0
    go true e = refl
    go false e = omega arith

-- what `position` gives for the first mark
abbrev found : ℕ → List ℕ → Option ℕ
found mark text =
    cond (ltb (position_or_len (λ b. eqb b mark) text) (length text)) (Some (position_or_len (λ b. eqb b mark) text)) None

module _ (mark : ℕ) (text : List ℕ) (r : Option ℕ) (f : r ≡ found mark text) where
  given : r ≡ cond (ltb (before mark text) (length text)) (Some (before mark text)) None
  given = rw (mark_place mark text) f

  -- the place of the mark, or the end of a text that has none
  pub found_place : unwrap_or r (length text) ≡ before mark text
  found_place = rw given (go (ltb (before mark text) (length text)) refl)
    where
      go : (t : Bool) → ltb (before mark text) (length text) ≡ t
          → unwrap_or (cond t (Some (before mark text)) None) (length text) ≡ before mark text
      go true e = refl
      go false e = omega (arith, before_most mark text, ltb-false (before mark text) (length text) e)

  found_none : r ≡ None → length text ≤ before mark text
  found_none n = go (ltb (before mark text) (length text)) refl (sym n ∙ given)
    where
      go : (t : Bool) → ltb (before mark text) (length text) ≡ t → None ≡ cond t (Some (before mark text)) None
          → length text ≤ before mark text
      go true e u = absurd (cc)
      go false e u = ltb-false (before mark text) (length text) e

  found_some : (end : ℕ) → r ≡ Some end → (end ≡ before mark text) × (end < length text)
  found_some end s = go (ltb (before mark text) (length text)) refl (sym s ∙ given)
    where
      go : (t : Bool) → ltb (before mark text) (length text) ≡ t → Some end ≡ cond t (Some (before mark text)) None
          → (end ≡ before mark text) × (end < length text)
      go true e u = let k : end ≡ before mark text = cc in
          (k, rw k (ltb-true (before mark text) (length text) e))
      go false e u = absurd (cc)

-- the text from a place on, as a part of a slice has it
abbrev pub rest : List ℕ → ℕ → List ℕ
rest text from = take (length text - from) (drop from text)

rest_drop : (text : List ℕ) (from : ℕ) → rest text from ≡ drop from text
rest_drop text from = take_all (length text - from) (drop from text) (rw length-drop (omega arith))

module _ (text : List ℕ) (r : Option ℕ) (f : r ≡ found space text) where
  pub not_cut : r ≡ None → parts_of space text ≡ text ∷ []
  not_cut n = parts_whole space text (found_none space text r f n)

  pub cut_there : (end : ℕ) → r ≡ Some end → parts_of space text ≡ take end text ∷ parts_of space (rest text (end + 1))
  cut_there end s = let (e, h) = found_some space text r f end s in
      let k : before space text < length text = omega arith in
      rw (rest_drop text (end + 1), add-one, e) (parts_cut space text k)

-- an input that has no place `from`, as `get` says it
pub end_past : (mark : ℕ) (input : List ℕ) (from : ℕ) → (length input < from) ⊎ (length input < length input)
    → from ≡ end_from mark input from
unfolding before
end_past mark input from (inl h) = rw (drop_of_length-le input {i = from} (omega arith)) (omega arith)
end_past mark input from (inr h) = absurd (omega arith)
