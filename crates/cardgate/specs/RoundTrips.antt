-- Writing and reading undo each other for the caller, document 02 d): "Writer and reader are wanted, each undoing the
-- other." What is assumed of words and bytes is what their types give: 64 bits, and 8.
-- Assumes nothing.
use Rattle.std.specs.Prelude.{◌≡◌, Bool, true, false, cond, List, ℕ, ◌+◌, ◌*◌, ◌^◌, ◌<◌, Result, Ok, Err, eqb, drop}
use Rattle.std.proofs.Math.Path.{refl, sym, ap}
use Rattle.std.proofs.Common.{◌∙◌, arith, get_or-take}
use Rattle.std.proofs.Math.ListN.{length, get_or}
use Rattle.std.proofs.Math.Seq.{get_or-drop}
use borrow.Author.Tests.{eq-eqb, eqb-true}
use Rattle.below.specs.Below.{all_below_at}
use Rattle.below.specs.Listed.{listed, listed_here, length_listed}
use Rattle.fields.specs.Bytes.{Small}
use Rattle.entries.specs.Entry.{no_entry, EntryFits}
use Rattle.card.specs.Block.{block_bytes, block_legal, block_of, BlockFits}
use Rattle.card.specs.Card.{refusal_number, accepted, Written, written, write_rule, read_rule}
use Rattle.card.specs.RoundTrips.{block_small, read_bytes, written_read, read_accepted}
use Rattle.card.specs.declared.Block.{Block}
use Rattle.card.specs.declared.Refusal.{Refusal}
use Rattle.card.specs.declared.Refusal.TheVariants.{Size, Sums, Field}
use Rattle.cardgate.specs.Content.{content_words, place_words, entry_in, place_in, content_in, place_fit, content_fit}
use Rattle.cardgate.specs.Fitting.{fitting, fitting_content}
use Rattle.cardgate.specs.Contents.{content_told, content_again, content_long, content_fits}
use Rattle.cardgate.specs.Calls.{card_write, Told, told, tell_content, card_read}

-- ---- what the types give

module _ (words : List ℕ) (small : (k : ℕ) → get_or words k 0 < 2 ^ 64) (fit : content_fit words ≡ true) where
  -- the entry at place k
  place_fits : (k : ℕ) → k < 31 → EntryFits (place_in words k)
  unfolding entry_in
  place_fits k h =
      let f = fitting (place_words words k) (all_below_at (place_fit words) 31 (fitting_content words fit).each k h) in
      let clock : get_or (place_words words k) 4 0 < 2 ^ 64 =
      rw (get_or-take 5 (drop (2 + 5 * k) words) 4 0 (omega arith), get_or-drop (2 + 5 * k) words 4 0)
      (small (2 + 5 * k + 4)) in
      record { kind = f.kind; flow = f.flow; length = f.length; handle = f.handle; clock = clock }

  -- a content of words that fit
  told_fits : BlockFits (content_in words)
  unfolding content_in
  told_fits =
      let f = fitting_content words fit in
      record {
        number = f.number;
        count = f.count;
        all = length_listed (place_in words) 0 31;
        each = λ k h. let e : place_in words k ≡ get_or (listed (place_in words) 0 31) k no_entry =
            sym (listed_here (place_in words) 31 k no_entry h) in
            rw e at (place_fits k h);
      }

-- ---- reading what was written

-- the tests of a writing, one after the other
all_passed_lem : (words size fit legal : Bool) (bytes room : List ℕ)
    → (cond words
    (cond size
    (cond fit (cond size (cond legal (written 0 bytes) (written 12 room)) (written 1 room)) (written 12 room))
    (written 1 room))
    (written 101 room)).answer
    ≡ 0
    → (words ≡ true) × (size ≡ true) × (fit ≡ true) × (legal ≡ true)
all_passed_lem true true true true bytes room e = (refl, refl, refl, refl)
all_passed_lem true true true false bytes room e = absurd (omega (arith, e))
all_passed_lem true true false legal bytes room e = absurd (omega (arith, e))
all_passed_lem true false fit legal bytes room e = absurd (omega (arith, e))
all_passed_lem false size fit legal bytes room e = absurd (omega (arith, e))

module _ (content room : List ℕ) (done : (card_write content room).answer ≡ 0) where
  tests : (eqb (length content) 157 ≡ true) × (eqb (length room) 512 ≡ true) × (content_fit content ≡ true)
      × (block_legal (content_in content) ≡ true)
  unfolding card_write write_rule
  tests = all_passed_lem (eqb (length content) 157) (eqb (length room) 512) (content_fit content)
      (block_legal (content_in content)) (block_bytes (content_in content)) room done

  block_left : card_write content room ≡ written 0 (block_bytes (content_in content))
  unfolding card_write write_rule
  block_left = let t = tests in simp (t.0, t.1, t.2, t.3)

  -- what was written is read as the same words, into any 157
  pub read_after_write : (other : List ℕ) → ((k : ℕ) → get_or content k 0 < 2 ^ 64) → length other ≡ 157
      → card_read (card_write content room).bytes other ≡ told 0 content
  unfolding card_read
  read_after_write other small h =
      let b : Block = content_in content in
      let found : read_rule (block_bytes b) ≡ accepted b =
      read_bytes b (told_fits content small tests.2) ∙ simp tests.3 in
      ap (λ (w : Written). card_read w.bytes other) block_left
      ∙ simp (eq-eqb _ _ h) (ap (λ (r : Result Block Refusal). tell_content r other) found
      ∙ ap (told 0) (content_again content (eqb-true _ _ tests.0)))

-- ---- writing what was read

-- the number of a refusal is never 0
refusal_some : (refusal : Refusal) → refusal_number refusal ≡ 0 → ⊥
refusal_some Size e = omega (arith, e)
refusal_some Sums e = omega (arith, e)
refusal_some Field e = omega (arith, e)

-- a reading that is done has passed its tests: the words, and that the block was accepted
read_tests : (words : Bool) (outcome : Result Block Refusal) (content : List ℕ)
    → (cond words (tell_content outcome content) (told 101 content)).answer ≡ 0
    → (words ≡ true) × ((b : Block) × (outcome ≡ accepted b))
read_tests true (Ok b) content e = (refl, (b, refl))
read_tests true (Err refusal) content e = absurd (refusal_some refusal e)
read_tests false outcome content e = absurd (omega (arith, e))

module _ (bytes content : List ℕ) (small : Small bytes) (done : (card_read bytes content).answer ≡ 0) where
  passed : (eqb (length content) 157 ≡ true) × ((b : Block) × (read_rule bytes ≡ accepted b))
  unfolding card_read
  passed = read_tests (eqb (length content) 157) (read_rule bytes) content done

  abbrev found : Block
  found = passed.1.0

  accepts : read_rule bytes ≡ accepted found
  accepts = passed.1.1

  found_fits : BlockFits found
  found_fits = let a = read_accepted bytes found accepts in
      let e : block_of bytes ≡ found = sym a.content in
      rw e at (block_small bytes a.size small)

  words_left : card_read bytes content ≡ told 0 (content_words found)
  unfolding card_read
  words_left = simp passed.0 (ap (λ (r : Result Block Refusal). tell_content r content) accepts)

  -- an accepted block, written again from the words that were read, is the same bytes, into any 512
  pub write_after_read : (room : List ℕ) → length room ≡ 512
      → card_write (card_read bytes content).content room ≡ written 0 bytes
  unfolding card_write
  write_after_read room h =
      let long = content_long found found_fits.all in
      ap (λ (t : Told). card_write t.content room) words_left
      ∙ simp (eq-eqb _ _ long, eq-eqb _ _ h, content_fits found found_fits)
      (ap (λ (b : Block). write_rule b room) (content_told found found_fits.all)
      ∙ written_read bytes room found small accepts h)
