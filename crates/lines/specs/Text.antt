-- Texts: where lines and fields end. A text is the list of its bytes, and a byte is a number below 256.
-- Assumes nothing.
use Rattle.std.specs.Prelude.{◌≡◌, cond, List, [], ◌∷◌, ◌++◌, ℕ, suc, ◌+◌, ◌≤◌, ◌<◌, eqb, length, take, drop}

-- "Fields are parted by one space"
abbrev pub space : ℕ
space = 32

-- "A line ends at a line feed"
abbrev pub line_feed : ℕ
line_feed = 10

-- how many bytes stand before the first that is `mark`; all of them where there is none
unfoldable pub before : ℕ → List ℕ → ℕ
before mark [] = 0
before mark (byte ∷ bytes) = cond (eqb byte mark) 0 (suc (before mark bytes))

-- the first place from `from` on that holds `mark`, or the end where there is none
abbrev pub end_from : ℕ → List ℕ → ℕ → ℕ
end_from mark bytes from = from + before mark (drop from bytes)

-- a byte in front of the first part
abbrev pub in_front : ℕ → List (List ℕ) → List (List ℕ)
in_front byte [] = []
in_front byte (part ∷ parts) = (byte ∷ part) ∷ parts

-- the parts of a text between its marks: one part more than marks, and any of them may be empty
unfoldable pub parts_of : ℕ → List ℕ → List (List ℕ)
parts_of mark [] = [] ∷ []
parts_of mark (byte ∷ bytes) = cond (eqb byte mark) ([] ∷ parts_of mark bytes) (in_front byte (parts_of mark bytes))

-- `text` stands in `after` from place `at` up to `end`; before it and behind it stands what stood there before
pub record Put (out : List ℕ) (at : ℕ) (text after : List ℕ) (end : ℕ) : Type 0 where
  pub behind : end ≡ at + length text
  pub holds : take end after ≡ take at out ++ text
  pub beyond : drop end after ≡ drop end out
  pub same : length after ≡ length out

-- the text is put where it fits, and where it does not nothing changes
pub record Collected (out : List ℕ) (at : ℕ) (text after : List ℕ) (end : ℕ) : Type 0 where
  pub fits : at + length text ≤ length out → Put out at text after end
  pub full : length out < at + length text → (end ≡ at) × (after ≡ out)
