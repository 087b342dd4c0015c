-- A line put part by part, and the lines of a block's entries put one behind the other.
-- Assumes nothing.
use mathlib.Core.Path.{◌≡◌, sym, ap, ◌∙◌}
use mathlib.Core.List.{List, [], ◌∷◌, ◌++◌, append_assoc, append-nil}
use Prim.Native.Nat.{ℕ, zero, suc, ◌+◌, ◌*◌, ◌≤◌, ◌<◌}
use native.Mathlib.Nat.{add-zero, not-suc-le-zero, le_of_suc-le-suc}
use native.Mathlib.Numerals.{add-one}
use native.Mathlib.Omega.{arith}
use lib.ListN.{length, get_or, take}
use lib.Seq.{take_all}
use Rattle.lines.specs.Text.{Put}
use Rattle.lines.specs.Puts.{put_none, put_then}
use Rattle.entries.specs.Legal.{kind_of}
use Rattle.entries.specs.declared.Entry.{Entry}
use Rattle.std.proofs.Common.{inl, inr, min}
use Rattle.std.proofs.lemmas.Bool.{cases_lt}
use Rattle.listing.specs.Listing.{row_text, kind_word, entry_line, entries_lines}

-- three texts, one behind the other: the parts of a head, and the parts of a line
pub three_put : {out one two after : List ℕ} {at first second last : ℕ} {text more rest : List ℕ}
    → Put out at text one first → Put one first more two second → Put two second rest after last
    → Put out at (text ++ more ++ rest) after last
three_put p q r = put_then (put_then p q) r

-- the line of an entry by its kind's word
pub entry_put : (entry : Entry) (out after : List ℕ) (at last place number : ℕ) {word : List ℕ} {flow long handle : ℕ}
    → word ≡ kind_word (kind_of entry.kind) → flow ≡ entry.flow → long ≡ entry.length → handle ≡ entry.handle
    → Put out at (row_text place (number ∷ []) word (flow ∷ long ∷ handle ∷ entry.clock ∷ [])) after last
    → Put out at (entry_line place number entry) after last
entry_put entry out after at last place number w f l h p = rw (← w, ← f, ← l, ← h) p

-- one entry more, one line more
lines_more : (place number i : ℕ) (entries : List Entry) (d : Entry) → i < length entries
    → entries_lines place number (take (suc i) entries)
    ≡ entries_lines place number (take i entries) ++ entry_line place (number + i) (get_or entries i d)
unfolding entries_lines
lines_more place number i [] d h = absurd (not-suc-le-zero h)
lines_more place number zero (e ∷ entries) d h = rw add-zero (append-nil (entry_line place number e))
lines_more place number (suc i) (e ∷ entries) d h =
    let n : suc number + i ≡ number + suc i = omega arith in
    ap (λ (rest : List ℕ). entry_line place number e ++ rest)
    (lines_more place (suc number) i entries d (le_of_suc-le-suc h)
    ∙ ap (λ (k : ℕ). entries_lines place (suc number) (take i entries) ++ entry_line place k (get_or entries i d)) n)
    ∙ sym (append_assoc (entry_line place number e) (entries_lines place (suc number) (take i entries)) _)

-- the lines of the first i entries have been put
pub record Entered (out : List ℕ) (place : ℕ) (entries : List Entry) (at i : ℕ) (after : List ℕ) : Type 0 where
  pub few : at ≤ 134 * i
  pub put : Put out 0 (entries_lines place 1 (take i entries)) after at

module _ (out : List ℕ) (place : ℕ) (entries : List Entry) where
  pub entered_none : Entered out place entries 0 0 out
  unfolding entries_lines
  entered_none = record { few = omega arith; put = put_none out 0 }

  module _ (at i : ℕ) (after : List ℕ) (e : Entered out place entries at i after) where
    pub entered_more : (next : List ℕ) (last : ℕ) (d : Entry) → i < length entries
        → Put after at (entry_line place (i + 1) (get_or entries i d)) next last → last ≤ at + 134
        → Entered out place entries last (i + 1) next
    entered_more next last d h p f =
        let n : 1 + i ≡ i + 1 = omega arith in
        let t : entries_lines place 1 (take (i + 1) entries)
        ≡ entries_lines place 1 (take i entries) ++ entry_line place (i + 1) (get_or entries i d) =
        rw (add-one) (rw (n, add-one) at (lines_more place 1 i entries d (omega arith))) in
        record { few = omega (arith, e.few); put = rw t (put_then e.put p) }

    pub entered_all : length entries ≤ i → Put out 0 (entries_lines place 1 entries) after at
    entered_all h = rw (take_all i entries h) at e.put

-- no more entries are used than there are
module _ (out after : List ℕ) (last place count : ℕ) (entries : List Entry) where
  pub used_put : {used : ℕ} → used ≡ min count 31 → length entries ≡ 31
      → Put out 0 (entries_lines place 1 (take used entries)) after last
      → Put out 0 (entries_lines place 1 (take count entries)) after last
  used_put {used} u all p =
      let same : take used entries ≡ take count entries =
      elim (cases_lt 31 count) [
        | inl more ↦ take_all used entries (omega arith) ∙ sym (take_all count entries (omega arith))
        | inr few ↦ ap (λ n. take n entries) (omega arith)
      ] in
      rw same at p
