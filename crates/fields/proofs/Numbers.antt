-- Little-endian numbers: how reading and writing go on by a byte.
-- Assumes nothing.
use mathlib.Core.Path.{◌≡◌, refl, sym, ap, ◌∙◌}
use mathlib.Core.List.{List, ◌++◌, append_assoc, append-nil, reverse}
use Prim.Native.Nat.{ℕ, suc, ◌+◌, ◌*◌, ◌-◌, ◌/◌, ◌%◌, ◌^◌, ◌≤◌, ◌<◌}
use native.Mathlib.Nat.{pow-succ', pow-le-pow_right}
use native.Mathlib.Numerals.{add-one}
use native.Mathlib.Omega.{arith}
use lib.ListN.{length, get_or, set, take, drop, length-set}
use lib.Seq.{drop-cons, take-suc-set, take_all, drop-length}
use Rattle.std.proofs.Common.{Fits, w8}
use Rattle.std.proofs.lemmas.List.{length-reverse, get_or-reverse, get_or_default}
use Rattle.fields.specs.Bytes.{bytes_of, number_of}

-- the last n bytes have been read, and `value` is their number
pub record Reading (bytes : List ℕ) (value n : ℕ) : Type 0 where
  pub within : n ≤ length bytes
  pub so_far : value ≡ number_of (drop (length bytes - n) bytes)
  pub small : value < 256 ^ n

-- the byte that an iterator from the last byte on gives after n others
abbrev pub Next : List ℕ → ℕ → ℕ → Type 0
Next bytes n byte = (n < length (reverse bytes)) × (byte ≡ get_or (reverse bytes) n byte)

pub reading_none : (bytes : List ℕ) → Reading bytes 0 0
unfolding number_of
reading_none bytes =
    record {
      within = omega arith;
      so_far = let e : length bytes - 0 ≡ length bytes = omega arith in rw (e, drop-length);
      small = omega arith;
    }

number_drop : (bytes : List ℕ) (j d : ℕ) → j < length bytes
    → number_of (drop j bytes) ≡ get_or bytes j d + 256 * number_of (drop (suc j) bytes)
unfolding number_of
number_drop bytes j d h = ap number_of (drop-cons bytes j d h)

module _ {bytes : List ℕ} {value n byte : ℕ} (r : Reading bytes value n) (next : Next bytes n byte)
    (all : (i : ℕ) → Fits w8 (get_or bytes i 0)) where
  room : n < length bytes
  room = omega (arith, next.0, length-reverse bytes)

  here : byte ≡ get_or bytes (length bytes - 1 - n) byte
  here = next.1 ∙ get_or-reverse bytes n byte room

  pub reading_byte : byte < 256
  reading_byte = let e : byte ≡ get_or bytes (length bytes - 1 - n) 0 = here ∙ get_or_default bytes (length bytes - 1 - n) byte 0 (omega (arith, room)) in
      omega (arith, e, all (length bytes - 1 - n))

  -- seven bytes are below 2^56
  pub reading_room : length bytes ≤ 8 → value < 2 ^ 56
  reading_room l =
      let k : n ≤ 7 = omega (arith, room) in
      let p : 256 ^ n ≤ 256 ^ 7 = pow-le-pow_right (omega arith) k in omega (arith, r.small)

  pub reading_more : Reading bytes (value * 256 + byte) (n + 1)
  reading_more =
      let l : length bytes - 1 - n < length bytes = omega (arith, room) in
      let e : suc (length bytes - 1 - n) ≡ length bytes - n = omega (arith, room) in
      let f : length bytes - 1 - n ≡ length bytes - (n + 1) = omega arith in
      record {
        within = omega (arith, room);
        so_far = rw (← f) (omega (arith, number_drop bytes (length bytes - 1 - n) byte l, ap (λ (k : ℕ). number_of (drop k bytes)) e, here, r.so_far));
        small = rw (add-one, pow-succ') (omega (arith, r.small, reading_byte));
      }

pub reading_all : {bytes : List ℕ} {value n : ℕ} → Reading bytes value n → n ≡ length (reverse bytes)
    → (value ≡ number_of bytes) × (value < 256 ^ length bytes)
reading_all {bytes} {value} {n} r h =
    let e : n ≡ length bytes = h ∙ length-reverse bytes in
    let z : length bytes - n ≡ 0 = omega arith in
    (rw z at r.so_far, rw e at r.small)

-- the first i bytes have been written, and the rest of the number is left
pub record Putting (bytes₀ : List ℕ) (value : ℕ) (bytes : List ℕ) (left i : ℕ) : Type 0 where
  pub within : i ≤ length bytes
  pub same : length bytes ≡ length bytes₀
  pub so_far : take i bytes ++ bytes_of (length bytes - i) left ≡ bytes_of (length bytes) value

pub putting_none : (bytes : List ℕ) (value : ℕ) → Putting bytes value bytes value 0
putting_none bytes value =
    let n : length bytes - 0 ≡ length bytes = omega arith in record { within = omega arith; same = refl; so_far = rw n }

module _ {bytes₀ : List ℕ} {value : ℕ} {bytes : List ℕ} {left i : ℕ} where
  pub putting_more : Putting bytes₀ value bytes left i → i < length bytes
      → Putting bytes₀ value (set bytes i (left % 256)) (left / 256) (i + 1)
  unfolding bytes_of
  putting_more p h =
      let n : length bytes - i ≡ suc (length bytes - suc i) = omega arith in
      record {
        within = rw length-set (omega arith);
        same = simp length-set p.same;
        so_far = rw (add-one, length-set, take-suc-set bytes i (left % 256) h, append_assoc) (rw n at p.so_far);
      }

  pub putting_all : Putting bytes₀ value bytes left i → length bytes ≤ i → bytes ≡ bytes_of (length bytes₀) value
  unfolding bytes_of
  putting_all p h =
      let n : length bytes - i ≡ 0 = omega arith in
      sym (take_all i bytes h) ∙ sym (append-nil _) ∙ rw (n, p.same) at p.so_far
