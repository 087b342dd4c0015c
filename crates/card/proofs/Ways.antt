-- Each way through the tests of a content, through the reader and through the writer.
-- Assumes nothing.
use Rattle.std.proofs.Common.{◌≡◌, refl, sym, ap, ap₂, ◌∙◌, arith, Bool, true, false, not, ◌&&◌, List, ℕ, zero, suc, ◌+◌, ◌-◌, ◌≤◌, ◌<◌, ◌≢◌, length, get_or, take, drop, take_all, length-drop, get_or-drop, add-one}
use Rattle.std.proofs.lemmas.List.Folds.{list_all_more}
use Rattle.std.specs.List.{list_all}
use borrow.Author.Tests.{eq-eqb, ne_eqb, le-leb, lt-leb, lt-ltb, le-ltb, not-true, not-false}
use Rattle.below.specs.Below.{all_below, all_below_same, all_below_add}
use Rattle.fields.specs.Bytes.{number_of, part}
use Rattle.sums.specs.Sums.{sums_right}
use Rattle.entries.specs.Entry.{no_entry}
use Rattle.entries.specs.Legal.{entry_legal, entry_blank}
use Rattle.entries.specs.declared.Entry.{Entry}
use Rattle.card.specs.declared.Block.{Block}
use Rattle.card.specs.declared.Refusal.TheVariants.{Size, Sums, Field}
use Rattle.card.specs.Block.{block_bytes, block_of, entry_may, place_legal, block_legal}
use Rattle.card.specs.Card.{accepted, refused, read_rule, written, write_rule}

-- what each of the first n entries is
all_taken : (p : Entry → Bool) (entries : List Entry) (n : ℕ) → n ≤ length entries
    → list_all p (take n entries) ≡ all_below (λ k. p (get_or entries k no_entry)) n
unfolding all_below
all_taken p entries zero h = refl
all_taken p entries (suc n) h =
    ap (λ m. list_all p (take m entries)) (sym (add-one n)) ∙ list_all_more p entries n no_entry (omega arith)
    ∙ ap (λ b. b && p (get_or entries n no_entry)) (all_taken p entries n (omega arith))

module _ (count : ℕ) (entries : List Entry) (few : count ≤ 31) (all : length entries ≡ 31) where
  -- those before the count are used
  places_used : list_all entry_legal (take count entries) ≡ all_below (place_legal count entries) count
  unfolding entry_may
  places_used =
      all_taken entry_legal entries count (omega arith)
      ∙ all_below_same _ (place_legal count entries) count (λ k h. simp (lt-ltb k count h))

  -- and those from there on are not
  places_unused : list_all entry_blank (drop count entries)
      ≡ all_below (λ k. place_legal count entries (count + k)) (31 - count)
  unfolding entry_may
  places_unused =
      let long : length (drop count entries) ≡ 31 - count = simp length-drop (omega arith) in
      ap (list_all entry_blank) (sym (take_all (31 - count) (drop count entries) (omega arith)))
      ∙ all_taken entry_blank (drop count entries) (31 - count) (omega arith)
      ∙ all_below_same _ (λ k. place_legal count entries (count + k)) (31 - count) (λ k h.
      let past : count ≤ count + k = omega arith in
      simp (le-ltb (count + k) count past, get_or-drop))

  places : (list_all entry_legal (take count entries) && list_all entry_blank (drop count entries))
      ≡ all_below (place_legal count entries) 31
  places =
      let whole : count + (31 - count) ≡ 31 = omega arith in
      ap₂ ◌&&◌ places_used places_unused ∙ sym (all_below_add (place_legal count entries) count (31 - count))
      ∙ ap (all_below (place_legal count entries)) whole

module _ (b : Block) {count : ℕ} (k : count ≡ b.count) where
  -- a count of none, or of over 31, is not legal; the check of `is_legal` finds both by the definition alone
  pub legal_none : count ≡ 0 → false ≡ block_legal b
  unfolding block_legal
  legal_none z = let l : b.count < 1 = omega arith in simp (lt-leb _ _ l)

  pub legal_many : 31 < count → false ≡ block_legal b
  unfolding block_legal
  legal_many h = let l : 1 ≤ b.count = omega arith in let m : 31 < b.count = omega arith in
      simp (le-leb _ _ l, lt-leb _ _ m)

  -- a count of 1 to 31 leaves the entries to be tested
  legal_count : count ≢ 0 → count ≤ 31 → length b.entries ≡ 31
      → (list_all entry_legal (take count b.entries) && list_all entry_blank (drop count b.entries)) ≡ block_legal b
  unfolding block_legal
  legal_count n few all =
      let l : 1 ≤ b.count = omega (arith, n) in
      let m : b.count ≤ 31 = omega arith in
      rw k (simp (le-leb _ _ l, le-leb _ _ m) (places b.count b.entries m all))

  pub legal_used : {r : Bool} → count ≢ 0 → count ≤ 31 → length b.entries ≡ 31
      → r ≡ list_all entry_legal (take count b.entries) → r ≡ false → r ≡ block_legal b
  legal_used n few all q f =
      f ∙ sym (ap (λ t. t && list_all entry_blank (drop count b.entries)) (sym q ∙ f)) ∙ legal_count n few all

  pub legal_unused : {r t : Bool} → count ≢ 0 → count ≤ 31 → length b.entries ≡ 31
      → r ≡ list_all entry_legal (take count b.entries) → r ≡ true
      → t ≡ list_all entry_blank (drop count b.entries) → t ≡ block_legal b
  legal_unused n few all q f p =
      p ∙ sym (ap (λ t. t && list_all entry_blank (drop count b.entries)) (sym q ∙ f)) ∙ legal_count n few all

module _ (bytes : List ℕ) where
  pub read_short : (length bytes ≡ 512 → ⊥) → refused Size ≡ read_rule bytes
  unfolding read_rule
  read_short h = simp (ne_eqb _ _ h)

  module _ (h : length bytes ≡ 512) {t : Bool} (e : t ≡ sums_right bytes) where
    pub read_sums : not t ≡ true → refused Sums ≡ read_rule bytes
    unfolding read_rule
    read_sums n = simp (eq-eqb _ _ h, ← e, not-true t n)

    module _ (n : not t ≡ false) {z : ℕ} (d : z ≡ number_of (part bytes 5 7)) where
      pub read_head : (z ≡ 0 → ⊥) → refused Field ≡ read_rule bytes
      unfolding read_rule
      read_head m = simp (eq-eqb _ _ h, ← e, not-false t n, ← d, ne_eqb _ _ m)

      module _ (m : z ≡ 0) {b : Block} (k : b ≡ block_of bytes) {u : Bool} (f : u ≡ block_legal b) where
        pub read_field : not u ≡ true → refused Field ≡ read_rule bytes
        unfolding read_rule
        read_field o = simp (eq-eqb _ _ h, ← e, not-false t n, ← d, eq-eqb _ _ m, ← k, ← f, not-true u o)

        pub read_done : not u ≡ false → accepted b ≡ read_rule bytes
        unfolding read_rule
        read_done o = simp (eq-eqb _ _ h, ← e, not-false t n, ← d, eq-eqb _ _ m, ← k, ← f, not-false u o)

module _ (b : Block) (bytes : List ℕ) where
  pub write_short : (length bytes ≡ 512 → ⊥) → written 1 bytes ≡ write_rule b bytes
  unfolding write_rule
  write_short h = simp (ne_eqb _ _ h)

  module _ (h : length bytes ≡ 512) {t : Bool} (e : t ≡ block_legal b) where
    pub write_field : not t ≡ true → written 12 bytes ≡ write_rule b bytes
    unfolding write_rule
    write_field n = simp (eq-eqb _ _ h, ← e, not-true t n)

    pub write_done : {last : List ℕ} → not t ≡ false → last ≡ block_bytes b → written 0 last ≡ write_rule b bytes
    unfolding write_rule
    write_done n q = simp (eq-eqb _ _ h, ← e, not-false t n) (ap (written 0) q)
