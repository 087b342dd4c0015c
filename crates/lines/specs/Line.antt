-- What a line says: document 01, "The script program".
-- Assumes nothing.
use Rattle.std.specs.Prelude.{Bool, false, cond, List, [], ◌∷◌, ℕ, Option, None, Some, eqb}
use Rattle.lines.specs.declared.Line.{Line}
use Rattle.lines.specs.Text.{space, parts_of}
use Rattle.lines.specs.Number.{number_of}

-- the letters of the lines
abbrev pub letter_f : ℕ
letter_f = 102

abbrev pub letter_o : ℕ
letter_o = 111

abbrev pub letter_a : ℕ
letter_a = 97

abbrev pub letter_p : ℕ
letter_p = 112

-- the field is this one letter
abbrev pub is : ℕ → List ℕ → Bool
is letter [] = false
is letter (byte ∷ []) = eqb byte letter
is letter (byte ∷ other ∷ bytes) = false

-- "`f SHARE LARGEST` adds a table row"
abbrev pub row_of : Option ℕ → Option ℕ → Option Line
row_of (Some share) (Some largest) = Some (Line.Row share largest)
row_of (Some share) None = None
row_of None largest = None

-- "`a FLOW LENGTH HANDLE`"
abbrev pub arrival_of : Option ℕ → Option ℕ → Option ℕ → Option Line
arrival_of (Some flow) (Some length) (Some handle) = Some (Line.Arrival flow length handle)
arrival_of (Some flow) (Some length) None = None
arrival_of (Some flow) None handle = None
arrival_of None length handle = None

-- the line of these fields: "`o` opens", "`p`", and those with numbers; any other line is bad, which is None
abbrev pub fields_line : List (List ℕ) → Option Line
fields_line [] = None
fields_line (letter ∷ []) = cond (is letter_o letter) (Some Line.Opening) (cond (is letter_p letter) (Some Line.Pick) None)
fields_line (letter ∷ one ∷ []) = None
fields_line (letter ∷ share ∷ largest ∷ []) =
    cond (is letter_f letter) (row_of (number_of share) (number_of largest)) None
fields_line (letter ∷ flow ∷ length ∷ handle ∷ []) =
    cond (is letter_a letter) (arrival_of (number_of flow) (number_of length) (number_of handle)) None
fields_line (letter ∷ one ∷ two ∷ three ∷ four ∷ more) = None

-- what a line says, from its bytes without the line feed
unfoldable pub line_of : List ℕ → Option Line
line_of bytes = fields_line (parts_of space bytes)

-- two fields read as numbers, where there are just two
abbrev pub both_of : Option ℕ → Option ℕ → Option (ℕ × ℕ)
both_of (Some one) (Some other) = Some (one, other)
both_of (Some one) None = None
both_of None other = None

abbrev pub pair_of : List (List ℕ) → Option (ℕ × ℕ)
pair_of [] = None
pair_of (one ∷ []) = None
pair_of (one ∷ other ∷ []) = both_of (number_of one) (number_of other)
pair_of (one ∷ other ∷ third ∷ more) = None
