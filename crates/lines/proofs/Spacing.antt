-- A number put as its digits, fields put one behind the other, each behind a space, and a line of them.
-- Assumes nothing.
use mathlib.Core.Path.{◌≡◌, refl, sym, ap, ◌∙◌}
use mathlib.Core.List.{List, [], ◌∷◌, ◌++◌, append_assoc, append-nil}
use Prim.Native.Nat.{ℕ, ◌+◌, ◌*◌, ◌^◌, ◌≤◌, ◌<◌}
use native.Mathlib.Numerals.{add-one}
use native.Mathlib.Omega.{arith}
use lib.ListN.{length, get_or, set, take, length-set}
use lib.Seq.{take-suc, take-suc-set, take-length}
use Rattle.lines.specs.Text.{space, line_feed, Put}
use Rattle.lines.specs.Puts.{put_none, put_byte, put_then}
use Rattle.std.specs.Fmt as library
use Rattle.lines.specs.Number.{decimal}
use Rattle.lines.proofs.Digits.{same_decimal, decimal_few}
use Rattle.lines.specs.Output.{field_text, field_texts, line_text, Written}

-- the digits that the library writes, and where they end
module _ (text : List ℕ) (number : ℕ) (e : text ≡ library.decimal number) (small : number < 2 ^ 64) where
  written_digits : text ≡ decimal number
  written_digits = e ∙ same_decimal number small

  pub number_room : (out : List ℕ) (at : ℕ) → at + 20 ≤ length out → at + length text ≤ length out
  number_room out at h = rw written_digits (omega (arith, decimal_few number small))

  module _ (out after : List ℕ) (at end : ℕ) (p : Put out at text after end) where
    pub number_put : Put out at (decimal number) after end
    number_put = rw written_digits at p

    pub number_end : end ≤ at + 20
    number_end = omega (arith, number_put.behind, decimal_few number small)

-- the fields of two lists, one behind the other
texts_more : (one other : List ℕ) → field_texts (one ++ other) ≡ field_texts one ++ field_texts other
unfolding field_texts
texts_more [] other = refl
texts_more (n ∷ ns) other =
    rw (texts_more ns other) (sym (append_assoc (field_text n) (field_texts ns) (field_texts other)))

text_one : (n : ℕ) → field_texts (n ∷ []) ≡ field_text n
unfolding field_texts
text_one n = append-nil (field_text n)

-- the first i fields have been put, and there is room for the others
pub record Fielded (out : List ℕ) (at : ℕ) (fields : List ℕ) (end i : ℕ) (after : List ℕ) : Type 0 where
  pub reached : i ≤ length fields
  pub room : at + 21 * length fields ≤ length out
  pub few : end ≤ at + 21 * i
  pub put : Put out at (field_texts (take i fields)) after end

module _ (out : List ℕ) (at : ℕ) (fields : List ℕ) where
  pub fielded_none : at + 21 * length fields ≤ length out → Fielded out at fields at 0 out
  unfolding field_texts
  fielded_none h = record { reached = omega arith; room = h; few = omega arith; put = put_none out at }

  module _ (end i : ℕ) (after : List ℕ) (f : Fielded out at fields end i after) where
    pub fielded_kept : length after ≡ length out
    fielded_kept = f.put.same

    pub fielded_room : i < length fields → end + 21 ≤ length after
    fielded_room h = omega (arith, f.room, f.few, f.put.same)

    pub fielded_behind : (byte : ℕ) → i < length fields → end + 1 + 20 ≤ length (set after end byte)
    fielded_behind byte h = rw length-set (omega (arith, fielded_room h))

    pub fielded_more : (next : List ℕ) (last : ℕ) → i < length fields
        → Put (set after end space) (end + 1) (decimal (get_or fields i 0)) next last × (last ≤ end + 1 + 20)
        → Fielded out at fields last (i + 1) next
    fielded_more next last h (p, l) =
        let r : end + 21 ≤ length after = fielded_room h in
        let e : field_texts (take (i + 1) fields) ≡ field_texts (take i fields) ++ field_text (get_or fields i 0) =
        rw (add-one, take-suc fields i 0 h, texts_more, text_one) in
        record {
          reached = omega arith;
          room = f.room;
          few = omega (arith, f.few);
          put = rw e (put_then f.put (put_then (put_byte after end space (omega arith)) p));
        }

    pub fielded_all : length fields ≤ i → Put out at (field_texts fields) after end
    fielded_all h = let e : i ≡ length fields = omega (arith, f.reached) in rw (e, take-length) at f.put

    pub fielded_few : end ≤ at + 21 * length fields
    fielded_few = omega (arith, f.few, f.reached)

-- a letter put first leaves the room for the fields
pub lined_room : (out fields : List ℕ) (letter : ℕ) → 2 + 21 * length fields ≤ length out
    → 1 + 21 * length fields ≤ length (set out 0 letter)
lined_room out fields letter h = rw length-set (omega arith)

module _ (out after : List ℕ) (letter : ℕ) (fields : List ℕ) (at : ℕ)
    (room : 2 + 21 * length fields ≤ length out) (p : Put (set out 0 letter) 1 (field_texts fields) after at)
    (few : at ≤ 1 + 21 * length fields) where
  pub lined_kept : (byte : ℕ) → length (set after at byte) ≡ length out
  lined_kept byte = length-set after at byte ∙ p.same ∙ length-set out 0 letter

  pub lined_end : at < length after
  lined_end = omega (arith, p.same, length-set out 0 letter)

  pub lined_all : length fields ≤ 7 → Written (set after at line_feed) (at + 1) (line_text letter fields)
  lined_all h =
      record {
        within = rw length-set (omega (arith, lined_end));
        short = omega arith;
        holds = rw (add-one, take-suc-set after at line_feed lined_end, p.holds)
            (ap (λ (front : List ℕ). front ++ field_texts fields ++ line_feed ∷ [])
            (take-suc-set out 0 letter (omega arith)));
      }
