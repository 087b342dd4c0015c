-- A line of more than 34 bytes is bad whatever it says: the longest that is not is `a` with three numbers of 10 digits.
-- So of a longer line its first bytes will do, if they are more than 34.
-- Assumes nothing.
use Rattle.std.specs.Prelude.{◌≡◌, refl, Bool, true, false, cond, List, [], ◌∷◌, ℕ, suc, ◌+◌, ◌≤◌, ◌<◌, Option, None, Some, eqb, leb, length}
use Rattle.std.proofs.Common.{arith, le-leb, leb-true, leb-false}
use Rattle.std.proofs.lemmas.Bool.{lt-leb}
use Rattle.lines.specs.declared.Line.{Line}
use Rattle.lines.specs.Text.{space, in_front, parts_of}
use Rattle.lines.specs.Number.{number_of}
use Rattle.lines.specs.Line.{letter_f, letter_a, row_of, arrival_of, fields_line, line_of}
use Rattle.lines.specs.Places.{parts_some}

-- the bytes of parts, and one more for each
abbrev bytes_in : List (List ℕ) → ℕ
bytes_in [] = 0
bytes_in (part ∷ parts) = suc (length part) + bytes_in parts

-- a mark stands between two parts, so the parts of a text have one byte more than it
parts_bytes : (mark : ℕ) (text : List ℕ) → bytes_in (parts_of mark text) ≡ suc (length text)
unfolding parts_of
parts_bytes mark [] = refl
parts_bytes mark (b ∷ bs) = one (eqb b mark) (parts_of mark bs) (parts_some mark bs) (parts_bytes mark bs)
  where
    one : (t : Bool) (parts : List (List ℕ)) → 1 ≤ length parts → bytes_in parts ≡ suc (length bs)
        → bytes_in (cond t ([] ∷ parts) (in_front b parts)) ≡ suc (suc (length bs))
    one true parts h e = omega arith
    one false [] h e = absurd (omega arith)
    one false (part ∷ parts) h e = omega arith

-- "numbers have 1 to 10 decimal digits"
number_long : (field : List ℕ) → 10 < length field → number_of field ≡ None
unfolding number_of
number_long field h = rw (le-leb 1 (length field) (omega arith), lt-leb (length field) 10 h)

-- a field that is no number makes the line bad
row_none : (share : Option ℕ) → row_of share None ≡ None
row_none (Some n) = refl
row_none None = refl

arrival_none : (flow length : Option ℕ) → arrival_of flow length None ≡ None
arrival_none (Some n) (Some k) = refl
arrival_none (Some n) None = refl
arrival_none None length = refl

arrival_middle : (flow handle : Option ℕ) → arrival_of flow None handle ≡ None
arrival_middle (Some n) handle = refl
arrival_middle None handle = refl

-- one of two fields of more than 20 bytes has more than 10, and so has one of three of more than 30
row_long : (a b : List ℕ) → 20 < length a + length b → row_of (number_of a) (number_of b) ≡ None
row_long a b h = go (leb (length b) 10) refl
  where
    go : (t : Bool) → leb (length b) 10 ≡ t → row_of (number_of a) (number_of b) ≡ None
    go true e = let l : length b ≤ 10 = leb-true (length b) 10 e in rw (number_long a (omega arith))
    go false e = rw (number_long b (leb-false (length b) 10 e)) (row_none (number_of a))

arrival_long : (a b c : List ℕ) → 30 < length a + length b + length c
    → arrival_of (number_of a) (number_of b) (number_of c) ≡ None
arrival_long a b c h = go (leb (length c) 10) (leb (length b) 10) refl refl
  where
    go : (t u : Bool) → leb (length c) 10 ≡ t → leb (length b) 10 ≡ u
        → arrival_of (number_of a) (number_of b) (number_of c) ≡ None
    go true true e f =
        let k : length c ≤ 10 = leb-true (length c) 10 e in
        let l : length b ≤ 10 = leb-true (length b) 10 f in
        rw (number_long a (omega arith))
    go true false e f = rw (number_long b (leb-false (length b) 10 f)) (arrival_middle (number_of a) (number_of c))
    go false u e f = rw (number_long c (leb-false (length c) 10 e)) (arrival_none (number_of a) (number_of b))

bad_either : (t : Bool) (line : Option Line) → line ≡ None → cond t line None ≡ None
bad_either true line e = e
bad_either false line e = refl

fields_long : (parts : List (List ℕ)) → 35 < bytes_in parts → fields_line parts ≡ None
fields_long [] h = refl
fields_long ([] ∷ []) h = refl
fields_long ((x ∷ []) ∷ []) h = absurd (omega arith)
fields_long ((x ∷ y ∷ z) ∷ []) h = refl
fields_long (letter ∷ a ∷ []) h = refl
fields_long ([] ∷ a ∷ b ∷ []) h = refl
fields_long ((x ∷ []) ∷ a ∷ b ∷ []) h =
    bad_either (eqb x letter_f) (row_of (number_of a) (number_of b)) (row_long a b (omega arith))
fields_long ((x ∷ y ∷ z) ∷ a ∷ b ∷ []) h = refl
fields_long ([] ∷ a ∷ b ∷ c ∷ []) h = refl
fields_long ((x ∷ []) ∷ a ∷ b ∷ c ∷ []) h =
    bad_either (eqb x letter_a) (arrival_of (number_of a) (number_of b) (number_of c)) (arrival_long a b c (omega arith))
fields_long ((x ∷ y ∷ z) ∷ a ∷ b ∷ c ∷ []) h = refl
fields_long (letter ∷ a ∷ b ∷ c ∷ d ∷ more) h = refl

pub long_bad : (line : List ℕ) → 34 < length line → line_of line ≡ None
unfolding line_of
long_bad line h = fields_long (parts_of space line) (omega (arith, parts_bytes space line))
