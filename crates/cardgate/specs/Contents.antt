-- Words and content undo each other: 31 entries are told by their words, and any 157 words are those of the content
-- that they tell. The words of a content whose fields fit their bytes fit.
-- Assumes nothing.
use Rattle.std.specs.Prelude.{◌≡◌, refl, true, List, [], ◌∷◌, ℕ, ◌+◌, ◌*◌, ◌≤◌, ◌<◌, length, take, drop}
use Rattle.std.proofs.Math.Path.{sym, ap}
use Rattle.std.proofs.Common.{◌∙◌, arith, drop-cons, drop-drop, lt-ltb}
use Rattle.std.proofs.Math.ListN.{get_or, length-drop}
use Rattle.std.proofs.Math.Seq.{ext_get_or, take_all, drop-length}
use Rattle.below.specs.Below.{all_below_of}
use Rattle.below.specs.Listed.{listed, listed_here, length_listed}
use Rattle.below.specs.Joined.{joined_long, joined_at, joined_again}
use Rattle.below.specs.Truth.{both_of_lem}
use Rattle.fields.specs.Bytes.{part}
use Rattle.fields.specs.Laws.{part_length}
use Rattle.entries.specs.Entry.{no_entry, EntryFits}
use Rattle.entries.specs.declared.Entry.{Entry}
use Rattle.card.specs.Block.{BlockFits}
use Rattle.card.specs.declared.Block.{Block}
use Rattle.cardgate.specs.Content.{entry_words, entries_words, content_words}
use Rattle.cardgate.specs.Content.{entry_in, place_words, place_in, content_in, entry_fit, place_fit, content_fit}

pub entries_long : (entries : List Entry) → length (entries_words entries) ≡ 5 * length entries
entries_long = joined_long entry_words 5 (λ e. refl)

module _ (b : Block) (all : length b.entries ≡ 31) where
  pub content_long : length (content_words b) ≡ 157
  unfolding content_words
  content_long = omega (arith, entries_long b.entries, all)

  -- the five words of entry k
  pub content_place : (k : ℕ) → k < 31 → place_words (content_words b) k ≡ entry_words (get_or b.entries k no_entry)
  unfolding content_words
  content_place k h =
      ap (take 5) (sym (drop-drop (5 * k) 2 (content_words b)))
      ∙ joined_at entry_words 5 (λ e. refl) b.entries k no_entry (omega (arith, all))

  -- the content that its words tell
  pub content_told : content_in (content_words b) ≡ b
  unfolding content_in content_words entry_in
  content_told =
      let same : listed (place_in (content_words b)) 0 31 ≡ b.entries =
      ext_get_or no_entry (listed (place_in (content_words b)) 0 31) b.entries (length_listed _ 0 31 ∙ sym all) (λ k l.
      let h : k < 31 = rw length_listed at l in
      listed_here (place_in (content_words b)) 31 k no_entry h ∙ ap entry_in (content_place k h)) in
      rw same

-- five words are those of the entry that they tell
five_again : (words : List ℕ) → length words ≡ 5 → entry_words (entry_in words) ≡ words
unfolding entry_in
five_again words h =
    let none : drop 5 words ≡ [] = ap (λ n. drop n words) (sym h) ∙ drop-length words in
    ap (λ rest. get_or words 0 0 ∷ get_or words 1 0 ∷ get_or words 2 0 ∷ get_or words 3 0 ∷ get_or words 4 0 ∷ rest) (sym none)
    ∙ ap (λ rest. get_or words 0 0 ∷ get_or words 1 0 ∷ get_or words 2 0 ∷ get_or words 3 0 ∷ rest)
    (sym (drop-cons words 4 0 (omega arith)))
    ∙ ap (λ rest. get_or words 0 0 ∷ get_or words 1 0 ∷ get_or words 2 0 ∷ rest) (sym (drop-cons words 3 0 (omega arith)))
    ∙ ap (λ rest. get_or words 0 0 ∷ get_or words 1 0 ∷ rest) (sym (drop-cons words 2 0 (omega arith)))
    ∙ ap (λ rest. get_or words 0 0 ∷ rest) (sym (drop-cons words 1 0 (omega arith)))
    ∙ sym (drop-cons words 0 0 (omega arith))

module _ (words : List ℕ) where
  entries_again : 157 ≤ length words → entries_words (listed (place_in words) 0 31) ≡ part words 2 155
  entries_again h = joined_again entry_words 5 (λ e. refl) (place_in words) words 2 (λ k l.
      five_again (place_words words k) (part_length words (2 + 5 * k) 5 l)) 0 31 h

  -- any 157 words are those of the content that they tell
  pub content_again : length words ≡ 157 → content_words (content_in words) ≡ words
  unfolding content_in content_words
  content_again h =
      ap (λ rest. get_or words 0 0 ∷ get_or words 1 0 ∷ rest)
      (entries_again (omega arith) ∙ take_all 155 (drop 2 words) (simp length-drop (omega arith)))
      ∙ ap (λ rest. get_or words 0 0 ∷ rest) (sym (drop-cons words 1 0 (omega arith)))
      ∙ sym (drop-cons words 0 0 (omega arith))

-- the words of an entry whose fields fit
entry_fits : (e : Entry) → EntryFits e → entry_fit (entry_words e) ≡ true
unfolding entry_fit
entry_fits e f =
    rw (lt-ltb _ _ f.kind, lt-ltb _ _ f.flow, lt-ltb _ _ f.length, lt-ltb _ _ f.handle)

-- and of a content
pub content_fits : (b : Block) → BlockFits b → content_fit (content_words b) ≡ true
unfolding content_fit content_words
content_fits b f =
    both_of_lem _ _ (lt-ltb _ _ f.number) (both_of_lem _ _ (lt-ltb _ _ f.count)
    (all_below_of (place_fit (content_words b)) 31 λ k h.
    ap entry_fit (content_place b f.all k h) ∙ entry_fits (get_or b.entries k no_entry) (f.each k h)))
