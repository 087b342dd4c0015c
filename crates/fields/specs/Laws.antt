-- Little-endian numbers: bytes and numbers undo each other, and a number's bytes stand in a list as a part of it.
-- Assumes nothing.
use Rattle.std.specs.Prelude.{◌≡◌, refl, List, [], ◌∷◌, ◌++◌, ℕ, zero, suc, ◌+◌, ◌*◌, ◌/◌, ◌%◌, ◌^◌, ◌≤◌, ◌<◌, length, take, drop}
use Rattle.std.proofs.Common.{sym, ap, ap₂, ◌∙◌, arith, length-take, length-drop, take-add, drop-drop, get_or-drop}
use Rattle.std.proofs.Math.Nat.{pow-succ'}
use borrow.Rule.Slice.PartMut.{put_mid}
use Rattle.below.specs.Copied.{Copied, copied_length, copied_part}
use Rattle.fields.specs.Bytes.{bytes_of, number_of, part, Small}

-- a number that fits its bytes is read back
pub number_bytes : (n number : ℕ) → number < 256 ^ n → number_of (bytes_of n number) ≡ number
unfolding bytes_of number_of
number_bytes zero number h = omega arith
number_bytes (suc n) number h =
    let l : number < 256 * 256 ^ n = rw pow-succ' at h in
    omega (arith, number_bytes n (number / 256) (omega arith))

-- and bytes are written back
pub bytes_number : (bytes : List ℕ) → Small bytes → bytes_of (length bytes) (number_of bytes) ≡ bytes
unfolding bytes_of number_of
bytes_number [] s = refl
bytes_number (byte ∷ bytes) s =
    let h : byte < 256 = s 0 in
    let low : (byte + 256 * number_of bytes) % 256 ≡ byte = omega arith in
    let high : (byte + 256 * number_of bytes) / 256 ≡ number_of bytes = omega arith in
    ap₂ ◌∷◌ low (ap (bytes_of (length bytes)) high ∙ bytes_number bytes (λ i. s (suc i)))

pub bytes_length : (n number : ℕ) → length (bytes_of n number) ≡ n
unfolding bytes_of
bytes_length zero number = refl
bytes_length (suc n) number = ap suc (bytes_length n (number / 256))

small_drop : (n : ℕ) (bytes : List ℕ) → Small bytes → Small (drop n bytes)
small_drop n bytes s i = rw get_or-drop (s (n + i))

small_take : (n : ℕ) (bytes : List ℕ) → Small bytes → Small (take n bytes)
small_take zero bytes s i = omega arith
small_take (suc n) [] s i = omega arith
small_take (suc n) (byte ∷ bytes) s zero = s 0
small_take (suc n) (byte ∷ bytes) s (suc i) = small_take n bytes (λ k. s (suc k)) i

pub part_length : (bytes : List ℕ) (at n : ℕ) → at + n ≤ length bytes → length (part bytes at n) ≡ n
part_length bytes at n h = simp (length-take, length-drop) (omega arith)

pub part_small : (bytes : List ℕ) (at n : ℕ) → Small bytes → Small (part bytes at n)
part_small bytes at n s = small_take n (drop at bytes) (small_drop at bytes s)

-- a number of bytes is below what they can hold
pub number_below : (bytes : List ℕ) → Small bytes → number_of bytes < 256 ^ length bytes
unfolding number_of
number_below [] s = omega arith
number_below (byte ∷ bytes) s =
    let h : byte < 256 = s 0 in
    rw pow-succ' (omega (arith, number_below bytes (λ i. s (suc i))))

pub part_below : (bytes : List ℕ) (at n : ℕ) → Small bytes → at + n ≤ length bytes
    → number_of (part bytes at n) < 256 ^ n
part_below bytes at n s h =
    rw (part_length bytes at n h) at (number_below (part bytes at n) (part_small bytes at n s))

-- two parts side by side
pub part_join : (bytes : List ℕ) (at n m : ℕ) → part bytes at n ++ part bytes (at + n) m ≡ part bytes at (n + m)
part_join bytes at n m =
    ap (λ t. part bytes at n ++ take m t) (sym (drop-drop n at bytes)) ∙ sym (take-add n m (drop at bytes))

-- a part that was read as a number, written again
pub part_again : (bytes : List ℕ) (at n : ℕ) → Small bytes → at + n ≤ length bytes
    → bytes_of n (number_of (part bytes at n)) ≡ part bytes at n
part_again bytes at n s h =
    ap (λ k. bytes_of k (number_of (part bytes at n))) (sym (part_length bytes at n h))
    ∙ bytes_number (part bytes at n) (part_small bytes at n s)

-- a number written into a part of a list that becomes `from`, as `write_number` leaves it
pub copied_number : (from into : List ℕ) (same : length from ≡ length into) (at n : ℕ) (l p : List ℕ) (number : ℕ)
    → at + n ≤ length from → p ≡ bytes_of (length (part l at n)) number → bytes_of n number ≡ part from at n
    → Copied from into at l → Copied from into (at + n) (put_mid at n l p)
copied_number from into same at n l p number h e d c =
    let long = copied_length from into same at l (omega arith) c in
    copied_part from into same at n l p h
    (e ∙ ap (λ k. bytes_of k number) (part_length l at n (omega arith)) ∙ d) c
