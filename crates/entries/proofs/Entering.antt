-- An entry written field by field and read field by field.
-- Assumes nothing.
use mathlib.Core.Path.{◌≡◌, refl, sym}
use mathlib.Core.List.{List}
use Prim.Native.Nat.{ℕ}
use native.Mathlib.Omega.{arith}
use lib.ListN.{length, get_or, set}
use borrow.Rule.Slice.PartMut.{mid_of, put_mid}
use Rattle.below.specs.Copied.{copied_none, copied_more, copied_all}
use Rattle.fields.specs.Bytes.{bytes_of, number_of, part}
use Rattle.fields.specs.Laws.{copied_number}
use Rattle.entries.specs.declared.Entry.{Entry}
use Rattle.entries.specs.Entry.{entry_bytes, entry_of}

abbrev headed : Entry → List ℕ → List ℕ
headed e bytes = set (set bytes 0 e.kind) 1 e.flow

module _ (e : Entry) (bytes : List ℕ) {a b d : List ℕ} where
  pub entry_written : length bytes ≡ 16
      → a ≡ bytes_of (length (mid_of 2 2 (headed e bytes))) e.length
      → b ≡ bytes_of (length (mid_of 4 4 (put_mid 2 2 (headed e bytes) a))) e.handle
      → d ≡ bytes_of (length (mid_of 8 8 (put_mid 4 4 (put_mid 2 2 (headed e bytes) a) b))) e.clock
      → put_mid 8 8 (put_mid 4 4 (put_mid 2 2 (headed e bytes) a) b) d ≡ entry_bytes e
  unfolding entry_bytes bytes_of
  entry_written h p q r =
      let from : List ℕ = entry_bytes e in
      let same : length from ≡ length bytes = sym h in
      let none = copied_none from bytes same in
      let one = copied_more from bytes same 0 bytes 0 (omega arith) none in
      let two = copied_more from bytes same 1 _ 0 (omega arith) one in
      let four = copied_number from bytes same 2 2 _ a e.length (omega arith) p refl two in
      let eight = copied_number from bytes same 4 4 _ b e.handle (omega arith) q refl four in
      copied_all from bytes same 16 _ (omega arith) (omega arith)
      (copied_number from bytes same 8 8 _ d e.clock (omega arith) r refl eight)

-- what is made of the three numbers that were read
pub entry_told : (bytes : List ℕ) {l h k : ℕ} → l ≡ number_of (part bytes 2 2) → h ≡ number_of (part bytes 4 4)
    → k ≡ number_of (part bytes 8 8)
    → record { kind = get_or bytes 0 0; flow = get_or bytes 1 0; length = l; handle = h; clock = k } ≡ entry_of bytes
unfolding entry_of
entry_told bytes p q r = rw (p, q, r)
