-- What a line says by its first field: one letter alone, a letter with numbers behind it, or no letter.
-- Assumes nothing.
use Rattle.std.proofs.Common.{◌≡◌, refl, Bool, true, false, cond, List, [], ◌∷◌, ℕ, ◌≤◌, ◌<◌, eqb, length, get_or, arith}
use Rattle.std.specs.Prelude.{None, Some}
use borrow.Author.Tests.{ne_eqb}
use Rattle.lines.specs.declared.Line.{Line}
use Rattle.lines.specs.Text.{space, in_front, parts_of}
use Rattle.lines.specs.Places.{parts_some}
use Rattle.lines.specs.Line.{letter_f, letter_o, letter_a, letter_p, is, fields_line, line_of}

-- a field that is not one byte is no letter
not_letter : (letter : ℕ) (field : List ℕ) → (length field ≡ 1 → ⊥) → is letter field ≡ false
not_letter letter [] h = refl
not_letter letter (b ∷ []) h = absurd (h refl)
not_letter letter (b ∷ c ∷ bs) h = refl

no_letter : (first : List ℕ) (ps : List (List ℕ)) → (length first ≡ 1 → ⊥) → None ≡ fields_line (first ∷ ps)
no_letter first [] h = rw (not_letter letter_o first h, not_letter letter_p first h)
no_letter first (a ∷ []) h = refl
no_letter first (a ∷ b ∷ []) h = rw (not_letter letter_f first h)
no_letter first (a ∷ b ∷ c ∷ []) h = rw (not_letter letter_a first h)
no_letter first (a ∷ b ∷ c ∷ d ∷ ps) h = refl

-- with fields behind it, a letter other than f and a says nothing
other_letter : (letter : ℕ) (ps : List (List ℕ)) → 1 ≤ length ps → (letter ≡ letter_f → ⊥) → (letter ≡ letter_a → ⊥)
    → None ≡ fields_line ((letter ∷ []) ∷ ps)
other_letter letter [] s f a = absurd (omega arith)
other_letter letter (_ ∷ []) s f a = refl
other_letter letter (_ ∷ _ ∷ []) s f a = rw (ne_eqb letter letter_f f)
other_letter letter (_ ∷ _ ∷ _ ∷ []) s f a = rw (ne_eqb letter letter_a a)
other_letter letter (_ ∷ _ ∷ _ ∷ _ ∷ ps) s f a = refl

pub line_empty : (line : List ℕ) → length line < 1 → None ≡ line_of line
unfolding line_of parts_of
line_empty [] h = refl
line_empty (b ∷ bs) h = absurd (omega arith)

-- a line of one byte
pub line_opening : (line : List ℕ) → 1 ≤ length line → length line < 2 → get_or line 0 0 ≡ letter_o
    → Some Line.Opening ≡ line_of line
unfolding line_of parts_of
line_opening [] h l e = absurd (omega arith)
line_opening (b ∷ []) h l e = rw e
line_opening (b ∷ c ∷ bs) h l e = absurd (omega arith)

pub line_pick : (line : List ℕ) → 1 ≤ length line → length line < 2 → get_or line 0 0 ≡ letter_p
    → Some Line.Pick ≡ line_of line
unfolding line_of parts_of
line_pick [] h l e = absurd (omega arith)
line_pick (b ∷ []) h l e = rw e
line_pick (b ∷ c ∷ bs) h l e = absurd (omega arith)

pub line_alone : (line : List ℕ) → 1 ≤ length line → length line < 2 → (get_or line 0 0 ≡ letter_o → ⊥)
    → (get_or line 0 0 ≡ letter_p → ⊥) → None ≡ line_of line
unfolding line_of parts_of
line_alone [] h l n m = absurd (omega arith)
line_alone (b ∷ []) h l n m = go (eqb b space)
  where
    go : (t : Bool) → None ≡ fields_line (cond t ([] ∷ [] ∷ []) ((b ∷ []) ∷ []))
    go true = refl
    go false = rw (ne_eqb b letter_o n, ne_eqb b letter_p m)
line_alone (b ∷ c ∷ bs) h l n m = absurd (omega arith)

-- a second byte that is no space, or a first that is neither f nor a
two_bytes : (b c : ℕ) (bs : List ℕ) → eqb c space ≡ false → None ≡ line_of (b ∷ c ∷ bs)
unfolding line_of parts_of
two_bytes b c bs e = rw e (go (eqb b space) (parts_of space bs) (parts_some space bs))
  where
    go : (t : Bool) (ps : List (List ℕ)) → 1 ≤ length ps
        → None ≡ fields_line (cond t ([] ∷ in_front c ps) (in_front b (in_front c ps)))
    go true ps h = no_letter [] (in_front c ps) (λ q. omega arith)
    go false [] h = absurd (omega arith)
    go false (p ∷ ps) h = no_letter (b ∷ c ∷ p) ps (λ q. omega arith)

neither : (b c : ℕ) (bs : List ℕ) → (b ≡ letter_f → ⊥) → (b ≡ letter_a → ⊥) → None ≡ line_of (b ∷ c ∷ bs)
unfolding line_of parts_of
neither b c bs f a = go (eqb c space) refl
  where
    cut : (t : Bool) → None ≡ fields_line (cond t ([] ∷ [] ∷ parts_of space bs) ((b ∷ []) ∷ parts_of space bs))
    cut true = no_letter [] ([] ∷ parts_of space bs) (λ q. omega arith)
    cut false = other_letter b (parts_of space bs) (parts_some space bs) f a

    go : (t : Bool) → eqb c space ≡ t → None ≡ line_of (b ∷ c ∷ bs)
    go true e = rw e (cut (eqb b space))
    go false e = two_bytes b c bs e

pub line_unspaced : (line : List ℕ) → 2 ≤ length line → (get_or line 1 0 ≡ space → ⊥) → None ≡ line_of line
line_unspaced [] h n = absurd (omega arith)
line_unspaced (b ∷ []) h n = absurd (omega arith)
line_unspaced (b ∷ c ∷ bs) h n = two_bytes b c bs (ne_eqb c space n)

pub line_other : (line : List ℕ) → 2 ≤ length line → (get_or line 0 0 ≡ letter_f → ⊥)
    → (get_or line 0 0 ≡ letter_a → ⊥) → None ≡ line_of line
line_other [] h f a = absurd (omega arith)
line_other (b ∷ []) h f a = absurd (omega arith)
line_other (b ∷ c ∷ bs) h f a = neither b c bs f a
