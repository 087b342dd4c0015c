-- The lines of an input at their places: what stands before a line feed and behind it.
-- Assumes nothing.
use Rattle.std.specs.Prelude.{◌≡◌, refl, Bool, true, false, cond, List, [], ◌∷◌, ℕ, suc, ◌+◌, ◌-◌, ◌≤◌, ◌<◌, eqb, ltb, length, take, drop}
use Rattle.std.proofs.Common.{ap, ◌∙◌, le_of_suc-le-suc, arith, length-drop, drop_of_length-le, take_all, drop-drop, length-take-le, ltb-true, ltb-false}
use Rattle.lines.specs.Text.{line_feed, before, end_from, in_front, parts_of}
use Rattle.lines.specs.Ends.{line_within}
use Rattle.lines.specs.Whole.{no_empty_rest, lines_of}

-- the first part ends at the first mark, and the others are those of what stands behind it
pub parts_cut : (mark : ℕ) (text : List ℕ) → before mark text < length text
    → parts_of mark text ≡ take (before mark text) text ∷ parts_of mark (drop (suc (before mark text)) text)
unfolding before parts_of
parts_cut mark [] h = absurd (omega arith)
parts_cut mark (b ∷ bs) h = cut (eqb b mark) b bs mark h (λ l. parts_cut mark bs l)
  where
    cut : (t : Bool) (b : ℕ) (bs : List ℕ) (mark : ℕ) → cond t 0 (suc (before mark bs)) < suc (length bs)
        → (before mark bs < length bs
        → parts_of mark bs ≡ take (before mark bs) bs ∷ parts_of mark (drop (suc (before mark bs)) bs))
        → cond t ([] ∷ parts_of mark bs) (in_front b (parts_of mark bs))
        ≡ take (cond t 0 (suc (before mark bs))) (b ∷ bs)
        ∷ parts_of mark (drop (suc (cond t 0 (suc (before mark bs)))) (b ∷ bs))
    cut true b bs mark h on = refl
    cut false b bs mark h on = rw (on (le_of_suc-le-suc h))

-- with no mark there is one part, the text itself
pub parts_whole : (mark : ℕ) (text : List ℕ) → length text ≤ before mark text → parts_of mark text ≡ text ∷ []
unfolding before parts_of
parts_whole mark [] h = refl
parts_whole mark (b ∷ bs) h = whole (eqb b mark) b bs mark h (λ l. parts_whole mark bs l)
  where
    whole : (t : Bool) (b : ℕ) (bs : List ℕ) (mark : ℕ) → suc (length bs) ≤ cond t 0 (suc (before mark bs))
        → (length bs ≤ before mark bs → parts_of mark bs ≡ bs ∷ [])
        → cond t ([] ∷ parts_of mark bs) (in_front b (parts_of mark bs)) ≡ (b ∷ bs) ∷ []
    whole true b bs mark h on = absurd (omega arith)
    whole false b bs mark h on = rw (on (le_of_suc-le-suc h))

-- there is always a part
pub parts_some : (mark : ℕ) (text : List ℕ) → 1 ≤ length (parts_of mark text)
unfolding parts_of
parts_some mark [] = omega arith
parts_some mark (b ∷ bs) = some (eqb b mark) (parts_of mark bs) (parts_some mark bs)
  where
    some : (t : Bool) (ps : List (List ℕ)) → 1 ≤ length ps → 1 ≤ length (cond t ([] ∷ ps) (in_front b ps))
    some true ps h = omega arith
    some false [] h = h
    some false (p ∷ ps) h = omega arith

-- a part with others behind it is a line, and so is a last part that is not empty
rest_more : (line : List ℕ) (ps : List (List ℕ)) → 1 ≤ length ps → no_empty_rest (line ∷ ps) ≡ line ∷ no_empty_rest ps
unfolding no_empty_rest
rest_more line [] h = absurd (omega arith)
rest_more line (p ∷ ps) h = refl

rest_last : (line : List ℕ) → 1 ≤ length line → no_empty_rest (line ∷ []) ≡ line ∷ []
unfolding no_empty_rest
rest_last [] h = absurd (omega arith)
rest_last (b ∷ bs) h = refl

no_lines : lines_of [] ≡ []
unfolding no_empty_rest parts_of
no_lines = refl

-- the part of an input from a line's start to its end, as a slice has it
abbrev pub line_at : List ℕ → ℕ → ℕ → List ℕ
line_at input at end = take (end - at) (drop at input)

module _ (input : List ℕ) (at end : ℕ) (e : end ≡ end_from line_feed input at) (h : at < length input) where
  cut_line : before line_feed (drop at input) < length (drop at input)
      → lines_of (drop at input) ≡ line_at input at end ∷ lines_of (drop (end + 1) input)
  cut_line l = let b = before line_feed (drop at input) in
      let u : end - at ≡ b = omega arith in
      let v : end + 1 ≡ at + suc b = omega arith in
      rw (parts_cut line_feed (drop at input) l, u, v, ← drop-drop (suc b) at input)
      (rest_more (take b (drop at input)) (parts_of line_feed (drop (suc b) (drop at input)))
      (parts_some line_feed (drop (suc b) (drop at input))))

  last_line : length (drop at input) ≤ before line_feed (drop at input)
      → lines_of (drop at input) ≡ line_at input at end ∷ lines_of (drop (end + 1) input)
  last_line l = let d = length-drop at input in
      rw (
        parts_whole line_feed (drop at input) l,
        drop_of_length-le input {i = end + 1} (omega arith),
        no_lines,
        take_all (end - at) (drop at input) (omega arith),
      )
      (rest_last (drop at input) (omega arith))

  pub line_length : length (line_at input at end) ≡ end - at
  line_length = let w = line_within input at end e h in
      length-take-le (end - at) (drop at input) (rw length-drop (omega arith))

  -- the line at a place, and those behind it
  pub lines_next : lines_of (drop at input) ≡ line_at input at end ∷ lines_of (drop (end + 1) input)
  lines_next = go (ltb (before line_feed (drop at input)) (length (drop at input))) refl
    where
      go : (b : Bool) → ltb (before line_feed (drop at input)) (length (drop at input)) ≡ b
          → lines_of (drop at input) ≡ line_at input at end ∷ lines_of (drop (end + 1) input)
      go true t = cut_line (ltb-true _ _ t)
      go false t = last_line (ltb-false _ _ t)

-- where the input is used up there is no line
pub no_line : (input : List ℕ) (at : ℕ) → length input ≤ at → lines_of (drop at input) ≡ []
no_line input at h = rw (drop_of_length-le input {i = at} h) no_lines

-- behind a line stand the others
others_next : (input : List ℕ) (at end : ℕ) (line : List ℕ) (lines : List (List ℕ)) → end ≡ end_from line_feed input at
    → at < length input → line ∷ lines ≡ lines_of (drop at input)
    → lines ≡ lines_of (drop (at + length line + 1) input)
others_next input at end line lines q h e =
    let n : line ∷ lines ≡ line_at input at end ∷ lines_of (drop (end + 1) input) = e ∙ lines_next input at end q h in
    let one : line ≡ line_at input at end = cc in
    let others : lines ≡ lines_of (drop (end + 1) input) = cc in
    let p : at + length line + 1 ≡ end + 1 = omega (arith, ap length one, line_length input at end q h) in
    rw p others

pub lines_behind : (input : List ℕ) (at : ℕ) (line : List ℕ) (lines : List (List ℕ))
    → line ∷ lines ≡ lines_of (drop at input) → lines ≡ lines_of (drop (at + length line + 1) input)
lines_behind input at line lines e = go (ltb at (length input)) refl
  where
    go : (b : Bool) → ltb at (length input) ≡ b → lines ≡ lines_of (drop (at + length line + 1) input)
    go true t = others_next input at (end_from line_feed input at) line lines refl (ltb-true _ _ t) e
    go false t = let n : line ∷ lines ≡ [] = e ∙ no_line input at (ltb-false _ _ t) in
        let z : ◌≡◌ {A = ℕ} 0 1 = cc in absurd (omega arith)
