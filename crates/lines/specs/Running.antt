-- Laws of a run of lines, by any engine's rules: it moves on, it leaves to later runs just what it has not written, and
-- the script program's loop over it writes what document 01 says.
-- Assumes nothing.
use Rattle.std.specs.Prelude.{◌≡◌, refl, Bool, true, false, cond, List, [], ◌∷◌, ◌++◌, ℕ, zero, suc, ◌+◌, ◌-◌, ◌≤◌, ◌<◌, ltb, length, take, drop}
use Rattle.std.proofs.Common.{sym, ap, append_assoc, arith, ltb-true, ltb-false, lt-ltb, le-ltb}
use Rattle.uplink.specs.declared.Record.{Record}
use Rattle.lines.specs.declared.Ran.{Ran}
use Rattle.lines.specs.Text.{line_feed, end_from}
use Rattle.lines.specs.Rules.{Rules, first_rules}
use Rattle.lines.specs.Step.{ScriptStateOf, ScriptState, step_by, script_step, start_by, first_state}
use Rattle.lines.specs.Whole.{lines_of, output_by, output_from, program_by, program_output}
use Rattle.lines.specs.Whole.{EndedOf, Ended, ended, after}
use Rattle.lines.specs.Whole.{lines_by, run_lines, run_by, run_from}
use Rattle.lines.specs.Whole.{Runs, loop_by, loop_output}
use Rattle.lines.specs.Places.{line_at, lines_next, no_line, lines_behind}

module _ {R : Type 0} (rules : Rules R) where
  -- with no room for a line none is run
  pub run_full_by : (room : ℕ) (s : ScriptStateOf R) (at : ℕ) (lines : List (List ℕ)) → room < 160
      → lines_by rules room s at lines ≡ ended s at []
  unfolding lines_by
  run_full_by room s at [] h = refl
  run_full_by room s at (line ∷ lines) h = rw (lt-ltb room 160 h)

  pub run_none_by : (room : ℕ) (s : ScriptStateOf R) (at : ℕ) → lines_by rules room s at [] ≡ ended s at []
  unfolding lines_by
  run_none_by room s at = refl

  -- the run of the lines behind a line
  abbrev pub run_behind_by : ℕ → ScriptStateOf R → ℕ → List ℕ → List (List ℕ) → EndedOf R
  run_behind_by room s at line lines =
      lines_by rules (room - length (step_by rules s line).output) (step_by rules s line).next
      (at + length line + 1) lines

  -- with room for it the first line is run, and then the others
  pub run_line_by : (room : ℕ) (s : ScriptStateOf R) (at : ℕ) (line : List ℕ) (lines : List (List ℕ)) → 160 ≤ room
      → lines_by rules room s at (line ∷ lines)
      ≡ after (step_by rules s line).output (run_behind_by room s at line lines)
  unfolding lines_by
  run_line_by room s at line lines h = rw (le-ltb room 160 h)

  -- the place never moves back
  run_moves : (room : ℕ) (s : ScriptStateOf R) (at : ℕ) (lines : List (List ℕ))
      → at ≤ (lines_by rules room s at lines).at
  unfolding lines_by
  run_moves room s at [] = omega arith
  run_moves room s at (line ∷ lines) =
      go (ltb room 160) (run_moves (room - length (step_by rules s line).output) (step_by rules s line).next
      (at + length line + 1) lines)
    where
      go : (full : Bool) → at + length line + 1 ≤ (run_behind_by room s at line lines).at
          → at
          ≤ (cond full (ended s at []) (after (step_by rules s line).output (run_behind_by room s at line lines))).at
      go true h = omega arith
      go false h = omega arith

  -- with room for a line, and one to run, the place moves on
  pub run_onward_by : (room : ℕ) (s : ScriptStateOf R) (input : List ℕ) (at : ℕ) → 160 ≤ room → at < length input
      → at < (run_by rules room s input at).at
  run_onward_by room s input at h l = let end = end_from line_feed input at in
      let line = line_at input at end in
      rw (lines_next input at end refl l, run_line_by room s at line (lines_of (drop (end + 1) input)) h)
      (omega (
        arith,
        run_moves (room - length (step_by rules s line).output) (step_by rules s line).next
            (at + length line + 1) (lines_of (drop (end + 1) input)),
      ))

  -- the same of a run that gives what the rule says
  pub runs_onward_by : (r : Ran R) (lengths handles entry exit : List ℕ) (s : ScriptStateOf R) (input : List ℕ)
      (from : ℕ) → Runs r lengths handles entry exit (run_by rules (length entry) s input from) → 160 ≤ length entry
      → from < length input → from < r.at
  runs_onward_by r lengths handles entry exit s input from g h l =
      rw (ap (λ (e : EndedOf R). e.at) g.exact) (run_onward_by (length entry) s input from h l)

  -- what a run has written, and behind it what the lines from where it ended on write
  abbrev pub joined_by : List ℕ → EndedOf R → List ℕ
  joined_by input end = end.output ++ output_by rules end.next (lines_of (drop end.at input))

  run_splits : (input : List ℕ) (room : ℕ) (s : ScriptStateOf R) (at : ℕ) (lines : List (List ℕ))
      → lines ≡ lines_of (drop at input) → output_by rules s lines ≡ joined_by input (lines_by rules room s at lines)
  unfolding output_by lines_by
  run_splits input room s at [] e = rw (← e)
  run_splits input room s at (line ∷ lines) e =
      go (ltb room 160) (run_splits input (room - length (step_by rules s line).output) (step_by rules s line).next
      (at + length line + 1) lines (lines_behind input at line lines e))
    where
      go : (full : Bool)
          → output_by rules (step_by rules s line).next lines
          ≡ joined_by input (run_behind_by room s at line lines)
          → output_by rules s (line ∷ lines)
          ≡ joined_by input
          (cond full (ended s at []) (after (step_by rules s line).output (run_behind_by room s at line lines)))
      go true on = rw (← e)
      go false on =
          rw on (sym (append_assoc (step_by rules s line).output (run_behind_by room s at line lines).output _))

  -- this is what all the lines write
  pub run_output_by : (room : ℕ) (s : ScriptStateOf R) (input : List ℕ) (at : ℕ)
      → output_by rules s (lines_of (drop at input)) ≡ joined_by input (run_by rules room s input at)
  run_output_by room s input at = run_splits input room s at (lines_of (drop at input)) refl

  -- where the input is used up no line writes
  pub output_none : (s : ScriptStateOf R) (input : List ℕ) (at : ℕ) → length input ≤ at
      → output_by rules s (lines_of (drop at input)) ≡ []
  unfolding output_by
  output_none s input at h = rw (no_line input at h)

  -- each run moves on, so as many runs as there are bytes left write all
  loop_writes : (room : ℕ) → 160 ≤ room → (runs : ℕ) (s : ScriptStateOf R) (input : List ℕ) (at : ℕ)
      → length input ≤ at + runs → loop_by rules runs room s input at ≡ output_by rules s (lines_of (drop at input))
  unfolding loop_by
  loop_writes room h zero s input at l = sym (output_none s input at (omega arith))
  loop_writes room h (suc runs) s input at l =
      go (ltb at (length input)) refl (λ next place. loop_writes room h runs next input place)
    where
      go : (b : Bool) → ltb at (length input) ≡ b
          → ((next : ScriptStateOf R) (place : ℕ) → length input ≤ place + runs
          → loop_by rules runs room next input place ≡ output_by rules next (lines_of (drop place input)))
          → cond b
          ((run_by rules room s input at).output
          ++ loop_by rules runs room (run_by rules room s input at).next input (run_by rules room s input at).at)
          []
          ≡ output_by rules s (lines_of (drop at input))
      go true t on = rw (on (run_by rules room s input at).next (run_by rules room s input at).at
          (omega (arith, run_onward_by room s input at h (ltb-true _ _ t))))
          (sym (run_output_by room s input at))
      go false t on = sym (output_none s input at (ltb-false _ _ t))

  -- with a buffer that has room for a line, the loop writes what all lines of the input write
  pub program_written_by : (input : List ℕ) (room : ℕ) → 160 ≤ room
      → loop_by rules (length (take 65536 input)) room (start_by rules) (take 65536 input) 0 ≡ program_by rules input
  program_written_by input room h =
      loop_writes room h (length (take 65536 input)) (start_by rules) (take 65536 input) 0 (omega arith)

-- the same by the first engine's rules
abbrev pub run_behind : ℕ → ScriptState → ℕ → List ℕ → List (List ℕ) → Ended
run_behind = run_behind_by first_rules

abbrev pub joined_output : List ℕ → Ended → List ℕ
joined_output = joined_by first_rules

pub run_full : (room : ℕ) (s : ScriptState) (at : ℕ) (lines : List (List ℕ)) → room < 160
    → run_lines room s at lines ≡ ended s at []
run_full = run_full_by first_rules

pub run_none : (room : ℕ) (s : ScriptState) (at : ℕ) → run_lines room s at [] ≡ ended s at []
run_none = run_none_by first_rules

pub run_line : (room : ℕ) (s : ScriptState) (at : ℕ) (line : List ℕ) (lines : List (List ℕ)) → 160 ≤ room
    → run_lines room s at (line ∷ lines) ≡ after (script_step s line).output (run_behind room s at line lines)
run_line = run_line_by first_rules

pub run_onward : (room : ℕ) (s : ScriptState) (input : List ℕ) (at : ℕ) → 160 ≤ room → at < length input
    → at < (run_from room s input at).at
run_onward = run_onward_by first_rules

pub runs_onward : (r : Ran Record) (lengths handles entry exit : List ℕ) (s : ScriptState) (input : List ℕ) (from : ℕ)
    → Runs r lengths handles entry exit (run_from (length entry) s input from) → 160 ≤ length entry
    → from < length input → from < r.at
runs_onward = runs_onward_by first_rules

pub run_output : (room : ℕ) (s : ScriptState) (input : List ℕ) (at : ℕ)
    → output_from s (lines_of (drop at input)) ≡ joined_output input (run_from room s input at)
run_output = run_output_by first_rules

-- with a buffer that has room for a line, the script program's loop writes the program's output
pub program_written : (input : List ℕ) (room : ℕ) → 160 ≤ room
    → loop_output (length (take 65536 input)) room first_state (take 65536 input) 0 ≡ program_output input
program_written = program_written_by first_rules
