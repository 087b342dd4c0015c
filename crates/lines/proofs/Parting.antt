-- The fields of a line: what stands before the first space and behind it, and what the line then says.
-- Assumes nothing.
use Rattle.std.proofs.Common.{◌≡◌, refl, sym, ◌∙◌, Bool, true, false, cond, ◌&&◌, List, [], ◌∷◌, ℕ, suc, ◌≤◌, ◌<◌, eqb, leb, length, take, drop, arith, le_of_suc-le-suc, leb-true, leb-false, eqb-true}
use Rattle.std.specs.Prelude.{Option, None, Some}
use Rattle.cost.specs.Cost.{within}
use Rattle.lines.specs.declared.Line.{Line}
use Rattle.lines.specs.Text.{space, before, parts_of}
use Rattle.lines.specs.Places.{parts_cut, parts_whole, parts_some}
use Rattle.lines.specs.Number.{is_digit, all_digits, number_of}
use Rattle.lines.specs.Line.{letter_f, letter_a, row_of, arrival_of, fields_line, line_of, both_of, pair_of}

and_false : (a : Bool) → (a && false) ≡ false
and_false true = refl
and_false false = refl

-- a text with a space in it is no number
spaced_digits : (text : List ℕ) → before space text < length text → all_digits text ≡ false
unfolding before all_digits
spaced_digits [] h = absurd (omega arith)
spaced_digits (b ∷ bs) h = no (eqb b space) refl h (λ l. spaced_digits bs l)
  where
    no : (t : Bool) → eqb b space ≡ t → cond t 0 (suc (before space bs)) < suc (length bs)
        → (before space bs < length bs → all_digits bs ≡ false) → (is_digit b && all_digits bs) ≡ false
    no true e h on = rw (eqb-true b space e)
    no false e h on = rw (on (le_of_suc-le-suc h)) (and_false (is_digit b))

spaced_number : (text : List ℕ) → before space text < length text → number_of text ≡ None
unfolding number_of
spaced_number text h = rw (spaced_digits text h) (go (within 1 10 (length text)))
  where
    go : (t : Bool) → cond {A = Option ℕ} t None None ≡ None
    go true = refl
    go false = refl

both_none : (n : Option ℕ) → both_of n None ≡ None
both_none (Some one) = refl
both_none None = refl

-- a field and two more are not just two fields
three_fields : (first : List ℕ) (ps : List (List ℕ)) (second : List ℕ) → 1 ≤ length ps
    → pair_of (first ∷ second ∷ ps) ≡ None
three_fields first [] second h = absurd (omega arith)
three_fields first (p ∷ ps) second h = refl

-- the pair of a first field and what stands behind it: a second number is read from all of that
pair_behind : (first text : List ℕ) → pair_of (first ∷ parts_of space text) ≡ both_of (number_of first) (number_of text)
pair_behind first text = go (leb (length text) (before space text)) refl
  where
    go : (t : Bool) → leb (length text) (before space text) ≡ t
        → pair_of (first ∷ parts_of space text) ≡ both_of (number_of first) (number_of text)
    go true e = rw (parts_whole space text (leb-true (length text) (before space text) e))
    go false e = let h : before space text < length text = leb-false (length text) (before space text) e in
        let behind = drop (suc (before space text)) text in
        rw (parts_cut space text h, spaced_number text h)
        (three_fields first (parts_of space behind) (take (before space text) text) (parts_some space behind)
        ∙ sym (both_none (number_of first)))

-- a row from two numbers, an arrival from a number and two
abbrev pub row_in : Option (ℕ × ℕ) → Option Line
row_in (Some (share, largest)) = Some (Line.Row share largest)
row_in None = None

abbrev pub arrival_in : Option ℕ → Option (ℕ × ℕ) → Option Line
arrival_in (Some flow) (Some (length, handle)) = Some (Line.Arrival flow length handle)
arrival_in (Some flow) None = None
arrival_in None p = None

row_both : (share largest : Option ℕ) → row_of share largest ≡ row_in (both_of share largest)
row_both (Some share) (Some largest) = refl
row_both (Some share) None = refl
row_both None largest = refl

arrival_both : (flow length handle : Option ℕ)
    → arrival_of flow length handle ≡ arrival_in flow (both_of length handle)
arrival_both (Some flow) (Some length) (Some handle) = refl
arrival_both (Some flow) (Some length) None = refl
arrival_both (Some flow) None handle = refl
arrival_both None length handle = refl

arrival_none : (flow : Option ℕ) → arrival_in flow None ≡ None
arrival_none (Some flow) = refl
arrival_none None = refl

row_fields : (ps : List (List ℕ)) → fields_line ((letter_f ∷ []) ∷ ps) ≡ row_in (pair_of ps)
row_fields [] = refl
row_fields (a ∷ []) = refl
row_fields (a ∷ b ∷ []) = row_both (number_of a) (number_of b)
row_fields (a ∷ b ∷ c ∷ []) = refl
row_fields (a ∷ b ∷ c ∷ d ∷ ps) = refl

arrival_fields : (flow : List ℕ) (ps : List (List ℕ))
    → fields_line ((letter_a ∷ []) ∷ flow ∷ ps) ≡ arrival_in (number_of flow) (pair_of ps)
arrival_fields flow [] = sym (arrival_none (number_of flow))
arrival_fields flow (a ∷ []) = sym (arrival_none (number_of flow))
arrival_fields flow (a ∷ b ∷ []) = arrival_both (number_of flow) (number_of a) (number_of b)
arrival_fields flow (a ∷ b ∷ c ∷ ps) = sym (arrival_none (number_of flow))

arrival_parts : (text : List ℕ)
    → line_of (letter_a ∷ space ∷ text) ≡ fields_line ((letter_a ∷ []) ∷ parts_of space text)
unfolding line_of parts_of
arrival_parts text = refl

module _ (text first rest : List ℕ) (e : parts_of space text ≡ first ∷ parts_of space rest) where
  pair_cut : pair_of (parts_of space text) ≡ both_of (number_of first) (number_of rest)
  pair_cut = rw e (pair_behind first rest)

  -- the two numbers of a text that is cut
  pub second_none : (one : ℕ) (r : Option ℕ) → Some one ≡ number_of first → r ≡ number_of rest → r ≡ None
      → None ≡ pair_of (parts_of space text)
  second_none one r f s n = rw (pair_cut, ← f, ← s, n)

  pub both_read : (one other : ℕ) → Some one ≡ number_of first → Some other ≡ number_of rest
      → Some (one, other) ≡ pair_of (parts_of space text)
  both_read one other f s = rw (pair_cut, ← f, ← s)

  -- the arrival of a text that is cut
  arrival_cut : line_of (letter_a ∷ space ∷ text) ≡ arrival_in (number_of first) (pair_of (parts_of space rest))
  arrival_cut = rw (arrival_parts text, e) (arrival_fields first (parts_of space rest))

  pub flow_none : None ≡ number_of first → None ≡ line_of (letter_a ∷ space ∷ text)
  flow_none f = rw (arrival_cut, ← f)

  pub packet_none : (flow : ℕ) → Some flow ≡ number_of first → None ≡ pair_of (parts_of space rest)
      → None ≡ line_of (letter_a ∷ space ∷ text)
  packet_none flow f p = rw (arrival_cut, ← f, ← p)

  pub arrival_read : (flow length' handle : ℕ) → Some flow ≡ number_of first
      → Some (length', handle) ≡ pair_of (parts_of space rest)
      → Some (Line.Arrival flow length' handle) ≡ line_of (letter_a ∷ space ∷ text)
  arrival_read flow length' handle f p = rw (arrival_cut, ← f, ← p)

pub arrival_one : (text : List ℕ) → parts_of space text ≡ text ∷ [] → None ≡ line_of (letter_a ∷ space ∷ text)
arrival_one text e = rw (arrival_parts text, e)

-- the row of a text
row_line : (text : List ℕ) → line_of (letter_f ∷ space ∷ text) ≡ row_in (pair_of (parts_of space text))
unfolding line_of parts_of
row_line text = row_fields (parts_of space text)

pub row_none : (text : List ℕ) → None ≡ pair_of (parts_of space text) → None ≡ line_of (letter_f ∷ space ∷ text)
row_none text p = rw (row_line text, ← p)

pub row_read : (text : List ℕ) (share largest : ℕ) → Some (share, largest) ≡ pair_of (parts_of space text)
    → Some (Line.Row share largest) ≡ line_of (letter_f ∷ space ∷ text)
row_read text share largest p = rw (row_line text, ← p)
