-- What each kind of line makes of a script's state.
-- Assumes nothing.
use mathlib.Core.Path.{◌≡◌, sym}
use mathlib.Core.List.{List, [], ◌∷◌, ◌++◌}
use Prim.Native.Nat.{ℕ, ◌≤◌, ◌<◌}
use native.Mathlib.Omega.{arith}
use mathlib.Core.Bool.{true, false}
use Rattle.std.specs.Prelude.{Option, None, Some}
use lib.Dec.{eqb}
use Rattle.std.proofs.lemmas.Bool.{eqb-false}
use lib.ListN.{length}
use borrow.Author.Tests.{eqb-true, lt-ltb}
use Rattle.lines.specs.declared.Line.{Line}
use Rattle.lines.specs.declared.Script.{Script}
use Rattle.lines.specs.declared.Stepped.{Stepped}
use Rattle.lines.specs.Line.{line_of}
use Rattle.lines.specs.Rules.{Rules}
use Rattle.lines.specs.Step.{script_state, bad_step, row_step, step_by, Gives}

abbrev pub stepped : {R : Type 0} → Script R → ℕ → Stepped R
stepped s written = record { next = s; written = written }

module _ {R : Type 0} (s : Script R) (r : Stepped R) (out : List ℕ) where
  pub row_refused : (share largest : ℕ) → true ≡ eqb (length s.shares.items) 65
      → ((lengths handles : List ℕ) → Gives r lengths handles out (bad_step (script_state s lengths handles)))
      → (lengths handles : List ℕ)
      → Gives r lengths handles out (row_step (script_state s lengths handles) share largest)
  unfolding row_step
  row_refused share largest h g lengths handles = rw (eqb-true (length s.shares.items) 65 (sym h)) (g lengths handles)

module _ {R : Type 0} (s next : Script R) (out : List ℕ) where
  pub row_taken : (share largest : ℕ) → false ≡ eqb (length s.shares.items) 65 → length s.shares.items ≤ 65
      → next.held ≡ s.held
      → next.shares.items ≡ s.shares.items ++ share ∷ [] → next.largest.items ≡ s.largest.items ++ largest ∷ []
      → (lengths handles : List ℕ)
      → Gives (stepped next 0) lengths handles out (row_step (script_state s lengths handles) share largest)
  unfolding row_step
  row_taken share largest h l e a b lengths handles =
      let few : length s.shares.items < 65 =
      omega (arith, l, eqb-false (length s.shares.items) 65 (sym h)) in
      record {
        within = omega arith;
        short = omega arith;
        exact = rw (lt-ltb (length s.shares.items) 65 few, e, a, b);
      }

-- a line that says a row adds it and a bad line changes nothing, whatever the memories hold
module _ {R : Type 0} (rules : Rules R) (s : Script R) (line : List ℕ) (call : Option Line) (r : Stepped R)
    (out : List ℕ) (e : call ≡ line_of line) (lengths handles : List ℕ) where
  pub step_row : (share largest : ℕ) → call ≡ Some (Line.Row share largest)
      → ((lengths handles : List ℕ)
      → Gives r lengths handles out (row_step (script_state s lengths handles) share largest))
      → Gives r lengths handles out (step_by rules (script_state s lengths handles) line)
  unfolding step_by
  step_row share largest q g = rw (← e, q) (g lengths handles)

  pub step_bad : call ≡ None
      → ((lengths handles : List ℕ) → Gives r lengths handles out (bad_step (script_state s lengths handles)))
      → Gives r lengths handles out (step_by rules (script_state s lengths handles) line)
  unfolding step_by
  step_bad q g = rw (← e, q) (g lengths handles)
