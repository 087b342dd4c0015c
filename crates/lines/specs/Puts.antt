-- Texts put into a buffer one behind the other: what callers use.
-- Assumes nothing.
use Rattle.std.specs.Prelude.{◌≡◌, refl, List, [], ◌∷◌, ◌++◌, ℕ, ◌+◌, ◌-◌, ◌≤◌, ◌<◌, length, set, take, drop}
use Rattle.std.proofs.Common.{sym, ap, ap₂, ◌∙◌, append_assoc, append-nil, add-one, arith, length-set, length-append, length-take, take-append-drop, drop-drop, drop-set-lt, take-suc-set}
use Rattle.lines.specs.Text.{Put}

-- nothing put is an empty text
pub put_none : (out : List ℕ) (at : ℕ) → Put out at [] out at
put_none out at =
    record { behind = omega arith; holds = sym (append-nil (take at out)); beyond = refl; same = refl }

-- a byte stored is a text of that byte
pub put_byte : (out : List ℕ) (at byte : ℕ) → at < length out → Put out at (byte ∷ []) (set out at byte) (at + 1)
put_byte out at byte h =
    record {
      behind = refl;
      holds = rw add-one (take-suc-set out at byte h);
      beyond = drop-set-lt (at + 1) out at byte (omega arith);
      same = length-set out at byte;
    }

-- what stands from a later place on is the same too
later : (one other : List ℕ) (from to : ℕ) → from ≤ to → drop from one ≡ drop from other → drop to one ≡ drop to other
later one other from to h e =
    let n : from + (to - from) ≡ to = omega arith in
    rw (← n, ← drop-drop (to - from) from one, ← drop-drop (to - from) from other, e)

-- two texts, one behind the other, are one text
pub put_then : {out after next : List ℕ} {at end last : ℕ} {text more : List ℕ} → Put out at text after end
    → Put after end more next last → Put out at (text ++ more) next last
put_then {out} {after} {next} {at} {end} {last} {text} {more} p q =
    record {
      behind = omega (arith, p.behind, q.behind, length-append text more);
      holds = q.holds ∙ ap (λ (front : List ℕ). front ++ more) p.holds ∙ append_assoc (take at out) text more;
      beyond = q.beyond ∙ later after out end last (omega (arith, q.behind)) p.beyond;
      same = q.same ∙ p.same;
    }

-- a text put from the start is within the buffer
pub put_within : (out text after : List ℕ) (end : ℕ) → Put out 0 text after end → end ≤ length after
put_within out text after end p = omega (arith, p.behind, length-take end after, ap length p.holds)

-- a text from a place on can be put in one way: its end and the whole buffer are the same
pub put_determined : {out text one other : List ℕ} {at end last : ℕ} → Put out at text one end
    → Put out at text other last → (end ≡ last) × (one ≡ other)
put_determined {out} {text} {one} {other} {at} {end} {last} p q =
    let e : end ≡ last = p.behind ∙ sym q.behind in
    let t : take end one ≡ take last other = p.holds ∙ sym q.holds in
    let d : drop end one ≡ drop last other = p.beyond ∙ ap (λ (n : ℕ). drop n out) e ∙ sym q.beyond in
    (e, sym (take-append-drop end one) ∙ ap₂ ◌++◌ t d ∙ take-append-drop last other)
