-- Where a text ends is within the bytes, and so is the end of what is collected; and the rows of a table that count: what callers use.
-- Assumes nothing.
use Rattle.std.specs.Prelude.{◌≡◌, refl, Bool, true, false, cond, List, [], ◌∷◌, ℕ, suc, min, ◌+◌, ◌^◌, ◌≤◌, ◌<◌, eqb, leb, length, take, drop}
use Rattle.std.proofs.Common.{sym, arith, length-drop, length-take-le, leb-true, leb-false}
use Rattle.lines.specs.Text.{line_feed, before, end_from, Collected}

-- one byte more before the mark, or none
before_one : (b : Bool) (n k : ℕ) → n ≤ k → cond b 0 (suc n) ≤ suc k
before_one true n k h = omega arith
before_one false n k h = omega arith

pub before_most : (mark : ℕ) (text : List ℕ) → before mark text ≤ length text
unfolding before
before_most mark [] = omega arith
before_most mark (b ∷ bs) = before_one (eqb b mark) (before mark bs) (length bs) (before_most mark bs)

pub end_within : (mark : ℕ) (bytes : List ℕ) (from : ℕ) → from ≤ length bytes → end_from mark bytes from ≤ length bytes
end_within mark bytes from h = omega (arith, length-drop from bytes, before_most mark (drop from bytes))

pub collected_within : (out : List ℕ) (at : ℕ) (text after : List ℕ) (end : ℕ) → Collected out at text after end
    → at ≤ length out → end ≤ length out
collected_within out at text after end c h = go (leb (at + length text) (length out)) refl
  where
    go : (b : Bool) → leb (at + length text) (length out) ≡ b → end ≤ length out
    go true e = let f : at + length text ≤ length out = leb-true (at + length text) (length out) e in
        omega (arith, (c.fits f).behind)
    go false e = omega (arith, (c.full (leb-false (at + length text) (length out) e)).0)

-- where a line ends: not before its start, within the input, and with a place behind it that fits
pub line_start : (input : List ℕ) (at end : ℕ) → end ≡ end_from line_feed input at → at ≤ end
line_start input at end e = omega arith

pub line_within : (input : List ℕ) (at end : ℕ) → end ≡ end_from line_feed input at → at < length input
    → end ≤ length input
line_within input at end e h = omega (arith, end_within line_feed input at (omega arith))

pub next_fits : (input : List ℕ) (at end : ℕ) → end ≡ end_from line_feed input at → at < length input
    → length input < 2 ^ 63 → end + 1 < 2 ^ 64
next_fits input at end e h l = omega (arith, line_within input at end e h)

-- a part of a buffer from its start has the length that is asked
pub part_length : (n : ℕ) (l : List ℕ) → n ≤ length l → n ≡ length (take n l)
part_length n l h = sym (length-take-le n l h)

-- of a table's 65 places the rows that count are a part from its start
pub rows_within : (n rows : ℕ) (l : List ℕ) → n ≡ min rows 65 → length l ≡ 65 → n ≤ length l
rows_within n rows l e h = omega arith

pub rows_length : (n rows : ℕ) (l : List ℕ) → n ≡ min rows 65 → length l ≡ 65 → n ≡ length (take n l)
rows_length n rows l e h = part_length n l (omega arith)
