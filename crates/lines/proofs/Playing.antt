-- The runs of a whole script, and what has been written of its output.
-- Assumes nothing.
use Rattle.std.proofs.Common.{◌≡◌, sym, ap, ◌∙◌, subst, List, [], ◌++◌, ℕ, ◌≤◌, Option, length, take, drop, arith}
use Rattle.std.proofs.Common.{append_assoc, append-nil}
use Rattle.std.specs.Io.KnownBytes.{Appends}
use Rattle.std.proofs.KnownBytes.{Appends-nil, Appends-trans}
use Rattle.lines.specs.declared.Ran.{Ran}
use Rattle.lines.specs.Rules.{Rules}
use Rattle.lines.specs.Step.{ScriptStateOf, script_state, start_by}
use Rattle.lines.specs.Whole.{lines_of, output_by, run_by, Runs}
use Rattle.lines.specs.Running.{joined_by, run_output_by, output_none}

-- the lines up to `at` have been run and their output is written: with that of the lines that are left, it is what the
-- whole script writes
pub record Played {R : Type 0} (rules : Rules R) (old new : Option (List ℕ)) (input : List ℕ) (s : ScriptStateOf R)
    (at : ℕ) (out : List ℕ) : Type 0 where
  pub room : 160 ≤ length out
  pub text : List ℕ
  pub went : Appends old new text
  pub exact : text ++ output_by rules s (lines_of (drop at input)) ≡ output_by rules (start_by rules) (lines_of input)

module _ {R : Type 0} (rules : Rules R) (old : Option (List ℕ)) (input : List ℕ) where
  pub played_none : (s : ScriptStateOf R) (out : List ℕ) → s ≡ start_by rules → 160 ≤ length out
      → Played rules old old input s 0 out
  played_none s out e h = record { room = h; text = []; went = Appends-nil old; exact = rw e }

  module _ (new : Option (List ℕ)) (s : ScriptStateOf R) (at : ℕ) (out : List ℕ)
      (p : Played rules old new input s at out) where
    -- a run's output is written, and the lines from where it ended on are left
    pub played_more : (next : Option (List ℕ)) (r : Ran R) (lengths handles out' : List ℕ)
        → Runs r lengths handles out out' (run_by rules (length out) s input at) → length out' ≡ length out
        → Appends new next (take r.written out')
        → Played rules old next input (script_state r.next lengths handles) r.at out'
    played_more next r lengths handles out' g l w =
        record {
          room = omega (arith, p.room);
          text = p.text ++ take r.written out';
          went = Appends-trans old new next p.text (take r.written out') p.went w;
          exact =
              append_assoc p.text (take r.written out') _
              ∙ ap (λ e. p.text ++ joined_by rules input e) g.exact
              ∙ ap (λ o. p.text ++ o) (sym (run_output_by rules (length out) s input at))
              ∙ p.exact;
        }

    pub played_all : length input ≤ at → Appends old new (output_by rules (start_by rules) (lines_of input))
    played_all h =
        subst (Appends old new)
        (sym (append-nil p.text) ∙ ap (λ o. p.text ++ o) (sym (output_none rules s input at h)) ∙ p.exact) p.went
