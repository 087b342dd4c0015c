-- The words of a content, written: a turn of the loop over the entries, and the whole.
-- Assumes nothing.
use mathlib.Core.Path.{◌≡◌, refl, sym, ap, ◌∙◌}
use mathlib.Core.List.{List}
use Prim.Native.Nat.{ℕ, ◌+◌, ◌*◌, ◌-◌, ◌≤◌, ◌<◌}
use native.Mathlib.Omega.{arith}
use lib.ListN.{length, get_or, set}
use lib.Seq.{take_all}
use borrow.Rule.Slice.PartMut.{put_mid}
use Rattle.below.specs.Copied.{copied_none, copied_more, copied_part, copied_all}
use Rattle.below.specs.Joined.{Joining, joining_none, joining_more, joining_all}
use Rattle.fields.specs.Bytes.{part}
use Rattle.entries.specs.Entry.{no_entry}
use Rattle.entries.specs.declared.Entry.{Entry}
use Rattle.card.specs.declared.Block.{Block}
use Rattle.cardgate.specs.Content.{entry_words, entries_words, content_words}
use Rattle.cardgate.specs.Contents.{entries_long, content_long}

-- the words of the first k entries have been written
abbrev pub Filling : List Entry → List ℕ → List ℕ → ℕ → Type 0
Filling entries words0 words k = Joining entry_words 5 31 155 entries words0 words k

module _ (entries : List Entry) (all : length entries ≡ 31) (words0 : List ℕ) (long : length words0 ≡ 155) where
  pub filling_none : Filling entries words0 words0 0
  filling_none = joining_none entry_words 5 (λ e. refl) refl entries all words0 long

  pub filling_more : {words p : List ℕ} {k : ℕ} → Filling entries words0 words k → k < 31
      → p ≡ entry_words (get_or entries k no_entry)
      → Filling entries words0 (put_mid (5 * k) (5 * k + 5 - 5 * k) words p) (k + 1)
  filling_more = joining_more entry_words 5 (λ e. refl) refl entries all words0 long no_entry

  pub filling_all : {words : List ℕ} {k : ℕ} → Filling entries words0 words k → 31 ≤ k → words ≡ entries_words entries
  filling_all = joining_all entry_words 5 (λ e. refl) refl entries all words0 long

-- all 157 words, as they are left
pub content_written : (b : Block) (words : List ℕ) {number count : ℕ} {rest : List ℕ}
    → length words ≡ 157 → length rest ≡ 155 → number ≡ b.number → count ≡ b.count → rest ≡ entries_words b.entries
    → put_mid 2 155 (set (set words 0 number) 1 count) rest ≡ content_words b
unfolding content_words
content_written b words {number} {count} {rest} h w i j q =
    rw (i, j) (
    let all : length b.entries ≡ 31 = omega (arith, entries_long b.entries, ap length q) in
    let from : List ℕ = content_words b in
    let long = content_long b all in
    let same : length from ≡ length words = long ∙ sym h in
    let one = copied_more from words same 0 words 0 (omega arith) (copied_none from words same) in
    let two = copied_more from words same 1 _ 0 (omega arith) one in
    let last : entries_words b.entries ≡ part from 2 155 =
    sym (take_all 155 (entries_words b.entries) (omega (arith, entries_long b.entries, all))) in
    copied_all from words same 157 _ (omega arith) (omega arith)
    (copied_part from words same 2 155 _ rest (omega arith) (q ∙ last) two))
