-- The two sums: a turn of the loop with a remainder at each byte, and each way through the test.
-- Assumes nothing.
use mathlib.Core.Path.{◌≡◌, refl, sym, ap, ◌∙◌}
use mathlib.Core.List.{List}
use Prim.Native.Nat.{ℕ, ◌+◌, ◌%◌, ◌≤◌, ◌<◌}
use native.Mathlib.Nat.{mod-add-mod, add-mod-mod}
use native.Mathlib.Numerals.{add-one}
use native.Mathlib.Omega.{arith}
use lib.Dec.{eqb}
use lib.ListN.{length, get_or, take}
use Rattle.std.proofs.Common.{get_or-take, length-take}
use borrow.Author.Tests.{eq-eqb, ne_eqb}
use Rattle.fields.specs.Bytes.{number_of, part}
use Rattle.sums.specs.declared.Sums.{Sums}
use Rattle.sums.specs.Sums.{total, running, sums_of, sums_right}
use Rattle.sums.specs.Laws.{first_more, second_more}

-- what is summed is 508 bytes long
pub body_long : (bytes : List ℕ) → length bytes ≡ 512 → length (take 508 bytes) ≡ 508
body_long bytes h = simp length-take (omega arith)

-- the sums over the first i bytes
pub record Summed (bytes : List ℕ) (first second i : ℕ) : Type 0 where
  pub within : i ≤ 508
  pub one : first ≡ total (take i bytes) % 65535
  pub two : second ≡ total (running 0 (take i bytes)) % 65535

pub summed_none : (bytes : List ℕ) → Summed bytes 0 0 0
unfolding total running
summed_none bytes = record { within = omega arith; one = refl; two = refl }

module _ {bytes : List ℕ} {first second i : ℕ} (s : Summed bytes first second i) where
  pub summed_more : {byte : ℕ} → length bytes ≡ 512 → i < 508 → byte ≡ get_or (take 508 bytes) i 0
      → Summed bytes ((first + byte) % 65535) ((second + (first + byte) % 65535) % 65535) (i + 1)
  summed_more {byte} l h q =
      let same : byte ≡ get_or bytes i 0 = q ∙ get_or-take 508 bytes i 0 h in
      rw same (
      let k : i < length bytes = omega arith in
      let e : (first + get_or bytes i 0) % 65535 ≡ total (take (i + 1) bytes) % 65535 =
      rw (s.one, mod-add-mod, add-one, first_more bytes i k) in
      record {
        within = omega arith;
        one = e;
        two = rw (e, s.two, mod-add-mod, add-mod-mod, add-one, second_more bytes i k);
      })

  pub summed_all : 508 ≤ i → record { first = first; second = second } ≡ sums_of (part bytes 0 508)
  summed_all h = let e : i ≡ 508 = omega (arith, s.within) in rw (s.one, s.two, e)

module _ (block : List ℕ) {s : Sums} {first : ℕ} (made : s ≡ sums_of (part block 0 508))
    (one : first ≡ number_of (part block 508 2)) where
  pub right_first : {a : ℕ} → a ≡ s.first → (first ≡ a → ⊥) → eqb first a ≡ sums_right block
  unfolding sums_right
  right_first {a} p n =
      let m : number_of (part block 508 2) ≡ (sums_of (part block 0 508)).first → ⊥ =
      λ q. n (one ∙ q ∙ ap (λ (t : Sums). t.first) (sym made) ∙ sym p) in
      simp (ne_eqb _ _ m, ne_eqb first a n)

  pub right_second : {a b second : ℕ} → a ≡ s.first → first ≡ a → second ≡ number_of (part block 510 2) → b ≡ s.second
      → eqb second b ≡ sums_right block
  unfolding sums_right
  right_second p e two q =
      let m : number_of (part block 508 2) ≡ (sums_of (part block 0 508)).first =
      sym one ∙ e ∙ p ∙ ap (λ (t : Sums). t.first) made in
      simp (eq-eqb _ _ m) (rw (two, q, made))
