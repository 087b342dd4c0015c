-- A block written part by part and read part by part: a turn of each loop over the entries, and the whole.
-- Assumes nothing.
use mathlib.Core.Path.{◌≡◌, refl, sym, ap, ◌∙◌}
use mathlib.Core.List.{List}
use Prim.Native.Nat.{ℕ, ◌+◌, ◌*◌, ◌-◌, ◌≤◌, ◌<◌}
use native.Mathlib.Omega.{arith}
use lib.ListN.{length, get_or, set, replicate}
use lib.Seq.{take_at, take_all}
use borrow.Rule.Slice.PartMut.{mid_of, put_mid}
use Rattle.below.specs.Listed.{listed}
use Rattle.below.specs.Copied.{copied_none, copied_more, copied_part, copied_length, copied_all}
use Rattle.below.specs.Joined.{Joining, joining_none, joining_more, joining_all}
use Rattle.fields.specs.Bytes.{bytes_of, number_of, part}
use Rattle.fields.specs.Laws.{copied_number, part_length}
use Rattle.sums.specs.Sums.{sums_of}
use Rattle.sums.specs.declared.Sums.{Sums}
use Rattle.entries.specs.Entry.{entry_bytes, no_entry}
use Rattle.entries.specs.Laws.{entry_sixteen}
use Rattle.entries.specs.declared.Entry.{Entry}
use Rattle.card.specs.declared.Block.{Block}
use Rattle.card.specs.Block.{entries_bytes, body_bytes, block_bytes, entry_at, block_of}
use Rattle.card.specs.Laws.{entries_size, body_size, block_size, block_body}
use Rattle.card.specs.Laws.{block_first, block_second}

-- the bytes of the first k entries have been written
abbrev pub Filling : List Entry → List ℕ → List ℕ → ℕ → Type 0
Filling entries bytes0 bytes k = Joining entry_bytes 16 31 496 entries bytes0 bytes k

module _ (entries : List Entry) (all : length entries ≡ 31) (bytes0 : List ℕ) (long : length bytes0 ≡ 496) where
  pub filling_none : Filling entries bytes0 bytes0 0
  filling_none = joining_none entry_bytes 16 entry_sixteen refl entries all bytes0 long

  pub filling_more : {bytes p : List ℕ} {k : ℕ} → Filling entries bytes0 bytes k → k < 31
      → p ≡ entry_bytes (get_or entries k no_entry)
      → Filling entries bytes0 (put_mid (16 * k) (16 * k + 16 - 16 * k) bytes p) (k + 1)
  filling_more = joining_more entry_bytes 16 entry_sixteen refl entries all bytes0 long no_entry

  pub filling_all : {bytes : List ℕ} {k : ℕ} → Filling entries bytes0 bytes k → 31 ≤ k → bytes ≡ entries_bytes entries
  filling_all = joining_all entry_bytes 16 entry_sixteen refl entries all bytes0 long

module _ (b : Block) (all : length b.entries ≡ 31) (bytes : List ℕ) where
  -- bytes 0 to 507, as they are left
  pub body_written : {number : ℕ} {a z d : List ℕ} → length bytes ≡ 508 → number ≡ b.number
      → a ≡ bytes_of (length (mid_of 0 4 bytes)) number
      → z ≡ replicate (length (mid_of 5 7 (set (put_mid 0 4 bytes a) 4 b.count))) 0
      → d ≡ entries_bytes b.entries
      → put_mid 12 496 (put_mid 5 7 (set (put_mid 0 4 bytes a) 4 b.count) z) d ≡ body_bytes b
  unfolding body_bytes bytes_of
  body_written {number} {a} {z} {d} h m p q r =
      let from : List ℕ = body_bytes b in
      let long = body_size b all in
      let same : length from ≡ length bytes = long ∙ sym h in
      let four = copied_number from bytes same 0 4 bytes a b.number (omega arith)
      (p ∙ ap (bytes_of (length (mid_of 0 4 bytes))) m) refl (copied_none from bytes same) in
      let five = copied_more from bytes same 4 _ 0 (omega arith) four in
      let wide = copied_length from bytes same 5 _ (omega arith) five in
      let seven = part_length (set (put_mid 0 4 bytes a) 4 b.count) 5 7 (omega arith) in
      let twelve = copied_part from bytes same 5 7 _ z (omega arith) (q ∙ ap (λ n. replicate n 0) seven) five in
      let last : entries_bytes b.entries ≡ part from 12 496 =
      sym (take_all 496 (entries_bytes b.entries) (omega (arith, entries_size b all))) in
      copied_all from bytes same 508 _ (omega arith) (omega arith)
      (copied_part from bytes same 12 496 _ d (omega arith) (r ∙ last) twelve)

  -- all 512 bytes, as they are left
  pub block_written : {body one two : List ℕ} {s : Sums} {first second : ℕ} → length bytes ≡ 512 → body ≡ body_bytes b
      → s ≡ sums_of (part (put_mid 0 508 bytes body) 0 508)
      → first ≡ s.first → second ≡ s.second
      → one ≡ bytes_of (length (mid_of 508 2 (put_mid 0 508 bytes body))) first
      → two ≡ bytes_of (length (mid_of 510 2 (put_mid 508 2 (put_mid 0 508 bytes body) one))) second
      → put_mid 510 2 (put_mid 508 2 (put_mid 0 508 bytes body) one) two ≡ block_bytes b
  block_written {body} {one} {two} {s} h p e i j q r =
      let from : List ℕ = block_bytes b in
      let long = block_size b all in
      let same : length from ≡ length bytes = long ∙ sym h in
      let m : part (put_mid 0 508 bytes body) 0 508 ≡ body_bytes b =
      take_at body _ 508 (ap length p ∙ body_size b all) ∙ p in
      let t = e ∙ ap sums_of m in
      let filled = copied_part from bytes same 0 508 bytes body (omega arith) (p ∙ sym (block_body b all))
      (copied_none from bytes same) in
      let half = copied_number from bytes same 508 2 _ one s.first (omega arith) (rw i at q)
      (ap (λ (x : Sums). bytes_of 2 x.first) t ∙ sym (block_first b all)) filled in
      copied_all from bytes same 512 _ (omega arith) (omega arith)
      (copied_number from bytes same 510 2 _ two s.second (omega arith) (rw j at r)
      (ap (λ (x : Sums). bytes_of 2 x.second) t ∙ sym (block_second b all)) half)

module _ (bytes : List ℕ) where
  -- what is lent of place k is its sixteen bytes
  pub lent_entry : (k : ℕ) → part bytes (12 + 16 * k) (12 + 16 * k + 16 - (12 + 16 * k)) ≡ part bytes (12 + 16 * k) 16
  lent_entry k = let w : 12 + 16 * k + 16 - (12 + 16 * k) ≡ 16 = omega arith in rw w

  -- what is made of number, count and entries
  pub block_told : {number : ℕ} {entries : List Entry} → number ≡ number_of (part bytes 0 4)
      → entries ≡ listed (entry_at bytes) 0 31
      → record { number = number; count = get_or bytes 4 0; entries = entries } ≡ block_of bytes
  unfolding block_of
  block_told p q = rw (p, q)
