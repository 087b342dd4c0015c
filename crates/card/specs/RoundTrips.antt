-- Writer and reader undo each other, document 02 d): "Writer and reader are wanted, each undoing the other." What is
-- assumed of a content (`BlockFits`) and of bytes (`Small`) is what their types give: every number fits its bytes.
-- Assumes nothing.
use Rattle.std.specs.Prelude.{◌≡◌, Bool, true, false, ◌&&◌, ℕ, ◌+◌, ◌*◌, ◌≤◌, ◌<◌, Result, eqb, length, take}
use Rattle.std.proofs.Math.Path.{refl, sym, ap, ap₂}
use Rattle.std.proofs.Common.{◌∙◌, zero-add, arith, drop-cons, ext_get_or}
use Rattle.std.proofs.Math.Bool.{cond}
use mathlib.Core.List.{List, ◌∷◌, ◌++◌}
use Rattle.std.proofs.Math.ListN.{get_or, replicate}
use Rattle.std.proofs.Math.Seq.{take_all}
use borrow.Author.Tests.{eq-eqb, eqb-true}
use Rattle.below.specs.Truth.{both_true}
use Rattle.below.specs.Listed.{listed, length_listed, listed_at, listed_here}
use Rattle.below.specs.Joined.{joined_again}
use Rattle.fields.specs.Bytes.{bytes_of, number_of, part, Small}
use Rattle.fields.specs.Laws.{number_bytes, part_below, part_length, part_small, part_join, part_again}
use Rattle.sums.specs.Sums.{sums_of, sums_right}
use Rattle.sums.specs.Laws.{first_fits, second_fits}
use Rattle.entries.specs.Entry.{entry_bytes, entry_of, no_entry}
use Rattle.entries.specs.Laws.{entry_sixteen, entry_small, entry_read, entry_again}
use Rattle.card.specs.declared.Block.{Block}
use Rattle.card.specs.declared.Refusal.{Refusal}
use Rattle.card.specs.declared.Refusal.TheVariants.{Size, Sums, Field}
use Rattle.card.specs.Block.{entries_bytes, body_bytes, sum_bytes, block_bytes, entry_at, block_of, head_blank}
use Rattle.card.specs.Block.{block_legal, BlockFits}
use Rattle.card.specs.Card.{accepted, refused, read_rule, written, write_rule}
use Rattle.card.specs.Laws.{block_size, block_body, block_first, block_second, block_entry}

-- ---- reading what was written

module _ (b : Block) (f : BlockFits b) where
  sums_written : sums_right (block_bytes b) ≡ true
  unfolding sums_right
  sums_written =
      let body = ap sums_of (sym (block_body b f.all)) in
      let one : number_of (part (block_bytes b) 508 2) ≡ (sums_of (part (block_bytes b) 0 508)).first =
      ap number_of (block_first b f.all) ∙ number_bytes 2 _ (first_fits (body_bytes b)) ∙ ap (λ s. s.first) body in
      let two : number_of (part (block_bytes b) 510 2) ≡ (sums_of (part (block_bytes b) 0 508)).second =
      ap number_of (block_second b f.all) ∙ number_bytes 2 _ (second_fits (body_bytes b))
      ∙ ap (λ s. s.second) body in
      simp (eq-eqb _ _ one, eq-eqb _ _ two)

  head_written : head_blank (block_bytes b) ≡ true
  unfolding block_bytes body_bytes bytes_of number_of
  head_written = refl

  entries_read : listed (entry_at (block_bytes b)) 0 31 ≡ b.entries
  entries_read = ext_get_or no_entry _ _ (length_listed (entry_at (block_bytes b)) 0 31 ∙ sym f.all) (λ k h.
      let l : k < 31 = rw length_listed at h in
      listed_at (entry_at (block_bytes b)) 0 31 k no_entry l ∙ ap (entry_at (block_bytes b)) (zero-add k)
      ∙ ap entry_of (block_entry b f.all k l) ∙ entry_read _ (f.each k l))

  content_read : block_of (block_bytes b) ≡ b
  unfolding block_of block_bytes body_bytes bytes_of
  content_read = λ i. record {
    number = number_bytes 4 b.number f.number i;
    count = b.count;
    entries = entries_read i;
  }

  -- a content's 512 bytes are read as that content where it is within the rules, and refused with 12 where it is not
  pub read_bytes : read_rule (block_bytes b) ≡ cond (block_legal b) (accepted b) (refused Field)
  unfolding read_rule
  read_bytes =
      simp (eq-eqb _ _ (block_size b f.all), sums_written, head_written)
      (ap (λ c. cond (block_legal c) (accepted c) (refused Field)) content_read)

  -- "each undoing the other": what was written is read as the same number and entries
  pub read_written : (room : List ℕ) → length room ≡ 512 → block_legal b ≡ true
      → ((write_rule b room).answer ≡ 0) × (read_rule (write_rule b room).bytes ≡ accepted b)
  unfolding write_rule
  read_written room h legal =
      (simp (eq-eqb _ _ h, legal), simp (eq-eqb _ _ h, legal) (read_bytes ∙ simp legal))

-- ---- writing what was read

zero_bytes : bytes_of 7 0 ≡ replicate 7 0
unfolding bytes_of
zero_bytes = refl

module _ (bytes : List ℕ) (s : Small bytes) where
  entries_again : 508 ≤ length bytes → entries_bytes (listed (entry_at bytes) 0 31) ≡ part bytes 12 496
  entries_again h = joined_again entry_bytes 16 entry_sixteen (entry_at bytes) bytes 12 (λ k l.
      entry_again (part bytes (12 + 16 * k) 16) (part_length bytes (12 + 16 * k) 16 l)
      (part_small bytes (12 + 16 * k) 16 s)) 0 31 h

  module _ (long : length bytes ≡ 512) (zeros : number_of (part bytes 5 7) ≡ 0) where
    body_again : body_bytes (block_of bytes) ≡ part bytes 0 508
    unfolding body_bytes block_of
    body_again =
        let blank : replicate 7 0 ≡ part bytes 5 7 =
        sym zero_bytes ∙ ap (bytes_of 7) (sym zeros) ∙ part_again bytes 5 7 s (omega arith) in
        let five = ap₂ ◌++◌ blank (entries_again (omega arith)) ∙ part_join bytes 5 7 496 in
        ap₂ ◌++◌ (part_again bytes 0 4 s (omega arith)) (ap (λ t. get_or bytes 4 0 ∷ t) five)
        ∙ ap (λ t. part bytes 0 4 ++ t) (ap (take 504) (sym (drop-cons bytes 4 0 (omega arith))))
        ∙ part_join bytes 0 4 504

    bytes_again : sums_right bytes ≡ true → block_bytes (block_of bytes) ≡ bytes
    unfolding block_bytes sum_bytes sums_right
    bytes_again right =
        let both = both_true (eqb (number_of (part bytes 508 2)) (sums_of (part bytes 0 508)).first) _ right in
        let one : number_of (part bytes 508 2) ≡ (sums_of (part bytes 0 508)).first = eqb-true _ _ both.0 in
        let two : number_of (part bytes 510 2) ≡ (sums_of (part bytes 0 508)).second = eqb-true _ _ both.1 in
        let tail = ap₂ ◌++◌ (ap (bytes_of 2) (sym one) ∙ part_again bytes 508 2 s (omega arith))
        (ap (bytes_of 2) (sym two) ∙ part_again bytes 510 2 s (omega arith)) ∙ part_join bytes 508 2 2 in
        ap (λ m. m ++ (bytes_of 2 (sums_of m).first ++ bytes_of 2 (sums_of m).second)) body_again
        ∙ ap (λ t. part bytes 0 508 ++ t) tail ∙ part_join bytes 0 508 4 ∙ take_all 512 bytes (omega arith)

-- what 512 bytes say fits its fields
pub block_small : (bytes : List ℕ) → length bytes ≡ 512 → Small bytes → BlockFits (block_of bytes)
unfolding block_of
block_small bytes h s =
    record {
      number = part_below bytes 0 4 s (omega arith);
      count = s 4;
      all = length_listed (entry_at bytes) 0 31;
      each = λ k l. let e : entry_at bytes k ≡ get_or (listed (entry_at bytes) 0 31) k no_entry =
          sym (listed_here (entry_at bytes) 31 k no_entry l) in
          rw e at (entry_small (part bytes (12 + 16 * k) 16) (part_length bytes (12 + 16 * k) 16 (omega arith))
          (part_small bytes (12 + 16 * k) 16 s));
    }

-- a test whose other branch is a refusal has held
passed : (t : Bool) (x : Result Block Refusal) (refusal : Refusal) (b : Block) → cond t x (refused refusal) ≡ accepted b
    → t ≡ true
passed true x refusal b e = refl
passed false x refusal b e = cc

-- and an acceptance has one content
content_one : (b c : Block) → accepted b ≡ accepted c → b ≡ c
content_one b c e = cc

-- the reader's rule from its second test on, and from its third
abbrev second : List ℕ → Result Block Refusal
second bytes =
    cond (sums_right bytes)
    (cond (head_blank bytes && block_legal (block_of bytes)) (accepted (block_of bytes)) (refused Field)) (refused Sums)

abbrev third : List ℕ → Result Block Refusal
third bytes = cond (head_blank bytes && block_legal (block_of bytes)) (accepted (block_of bytes)) (refused Field)

-- what acceptance says
pub record Accepted (bytes : List ℕ) (b : Block) : Type 0 where
  pub size : length bytes ≡ 512
  pub sums : sums_right bytes ≡ true
  pub zeros : number_of (part bytes 5 7) ≡ 0
  pub legal : block_legal b ≡ true
  pub content : b ≡ block_of bytes

pub read_accepted : (bytes : List ℕ) (b : Block) → read_rule bytes ≡ accepted b → Accepted bytes b
unfolding read_rule
read_accepted bytes b e =
    let t = passed (eqb (length bytes) 512) (second bytes) Size b e in
    let e' : second bytes ≡ accepted b = simp t at e in
    let u = passed (sums_right bytes) (third bytes) Sums b e' in
    let e'' : third bytes ≡ accepted b = simp u at e' in
    let v = passed (head_blank bytes && block_legal (block_of bytes)) (accepted (block_of bytes)) Field b e'' in
    let both = both_true (head_blank bytes) (block_legal (block_of bytes)) v in
    let told : block_of bytes ≡ b = content_one (block_of bytes) b (simp v at e'') in
    record {
      size = eqb-true _ _ t;
      sums = u;
      zeros = eqb-true _ _ both.0;
      legal = ap block_legal (sym told) ∙ both.1;
      content = sym told;
    }

-- an accepted block is its content's 512 bytes
pub accepted_bytes : (bytes : List ℕ) (b : Block) → Small bytes → read_rule bytes ≡ accepted b → block_bytes b ≡ bytes
accepted_bytes bytes b s e =
    let a = read_accepted bytes b e in
    ap block_bytes a.content ∙ bytes_again bytes s a.size a.zeros a.sums

-- "each undoing the other": an accepted block, written again into any 512 bytes, is the same 512 bytes
pub written_read : (bytes room : List ℕ) (b : Block) → Small bytes → read_rule bytes ≡ accepted b → length room ≡ 512
    → write_rule b room ≡ written 0 bytes
unfolding write_rule
written_read bytes room b s e h =
    simp (eq-eqb _ _ h, (read_accepted bytes b e).legal) (ap (written 0) (accepted_bytes bytes b s e))

-- an accepted block has one content
pub one_content : (bytes : List ℕ) (b c : Block) → read_rule bytes ≡ accepted b → read_rule bytes ≡ accepted c → b ≡ c
one_content bytes b c e f = content_one b c (sym e ∙ f)

-- and a content one block
pub one_block : (bytes others : List ℕ) (b : Block) → Small bytes → Small others → read_rule bytes ≡ accepted b
    → read_rule others ≡ accepted b → bytes ≡ others
one_block bytes others b s t e f = sym (accepted_bytes bytes b s e) ∙ accepted_bytes others b t f
