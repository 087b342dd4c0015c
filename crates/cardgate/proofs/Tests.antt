-- Whether the words of a content fit their fields: a turn of the loop over the entries, and what it finds.
-- Assumes nothing.
use Rattle.std.proofs.Common.{◌≡◌, refl, sym, ap, ap₂, ◌∙◌, arith, Bool, true, false, ◌&&◌, List, ℕ, ◌+◌, ◌*◌, ◌-◌, ◌≤◌, ◌<◌, Option, Some, None, set, replicate}
use Rattle.below.specs.Below.{all_below, all_below_none, all_below_more, all_below_at}
use Rattle.below.specs.Listed.{listed}
use Rattle.below.specs.Made.{Made, made_none, made_more, made_all}
use Rattle.below.specs.Truth.{true_false}
use Rattle.fields.specs.Bytes.{part}
use Rattle.entries.specs.Entry.{no_entry}
use Rattle.entries.specs.declared.Entry.{Entry}
use Rattle.cardgate.specs.Content.{place_words, entry_in, place_in, entry_fit, place_fit, if_fit}

-- what is lent of place k is its five words
pub lent_five : (words : List ℕ) (k : ℕ) → part words (2 + 5 * k) (2 + 5 * k + 5 - (2 + 5 * k)) ≡ place_words words k
lent_five words k = let n : 2 + 5 * k + 5 - (2 + 5 * k) ≡ 5 = omega arith in rw n

-- what is found where the words fit, and where they do not
pub some_fit : {A : Type 0} (fit : Bool) (a b : A) → Some b ≡ if_fit fit a → (fit ≡ true) × (b ≡ a)
some_fit true a b e = (refl, cc)
some_fit false a b e = cc

pub none_fit : {A : Type 0} (fit : Bool) (a : A) → None ≡ if_fit fit a → fit ≡ false
none_fit true a e = cc
none_fit false a e = refl

none_of : {A : Type 0} (fit : Bool) (a : A) → (fit ≡ true → ⊥) → None ≡ if_fit fit a
none_of true a n = absurd (n refl)
none_of false a n = refl

module _ (words : List ℕ) where
  -- none was read
  pub read_none : {none : Entry} → none ≡ no_entry → Made (place_in words) no_entry 31 0 (replicate 31 none)
  read_none e = rw e (made_none (place_in words) no_entry 31)

  pub fit_none : all_below (place_fit words) 0 ≡ true
  fit_none = all_below_none (place_fit words)

  -- one entry more was read, and its words fit
  pub read_more : (k : ℕ) (entries : List Entry) (e : Entry) → Made (place_in words) no_entry 31 k entries → k < 31
      → e ≡ entry_in (part words (2 + 5 * k) (2 + 5 * k + 5 - (2 + 5 * k)))
      → Made (place_in words) no_entry 31 (k + 1) (set entries k e)
  read_more k entries e m h q =
      made_more (place_in words) no_entry 31 k entries m e h (q ∙ ap entry_in (lent_five words k))

  pub fit_more : (k : ℕ) → all_below (place_fit words) k ≡ true
      → entry_fit (part words (2 + 5 * k) (2 + 5 * k + 5 - (2 + 5 * k))) ≡ true → all_below (place_fit words) (k + 1) ≡ true
  fit_more k e f = all_below_more (place_fit words) k ∙ ap₂ ◌&&◌ e (ap entry_fit (sym (lent_five words k)) ∙ f)

  -- all were read, and the words of each fit
  pub read_all : {k : ℕ} {entries : List Entry} → Made (place_in words) no_entry 31 k entries
      → all_below (place_fit words) k ≡ true → 31 ≤ k
      → Some entries ≡ if_fit (all_below (place_fit words) 31) (listed (place_in words) 0 31)
  read_all {k} {entries} m e h =
      let last : k ≡ 31 = omega (arith, m.reached) in
      let all : all_below (place_fit words) 31 ≡ true = rw last at e in
      simp all (ap Some (made_all (place_in words) no_entry 31 k entries m h))

  -- the words of one do not fit
  pub read_stopped : {k : ℕ} {r : Option (List Entry)} → k < 31
      → entry_fit (part words (2 + 5 * k) (2 + 5 * k + 5 - (2 + 5 * k))) ≡ false → r ≡ None
      → r ≡ if_fit (all_below (place_fit words) 31) (listed (place_in words) 0 31)
  read_stopped {k} h f q =
      q ∙ none_of (all_below (place_fit words) 31) (listed (place_in words) 0 31) (λ e.
      true_false (sym (all_below_at (place_fit words) 31 e k h) ∙ ap entry_fit (sym (lent_five words k)) ∙ f))
