-- What the whole program writes for its input, and what a run of some lines makes: document 01, "The script program".
-- Each is said for any engine's rules, and named for the first engine's.
-- Assumes nothing.
use Rattle.std.specs.Prelude.{◌≡◌, cond, List, [], ◌∷◌, ◌++◌, ℕ, zero, suc, ◌+◌, ◌-◌, ◌≤◌, ltb, length, take, drop}
use Rattle.uplink.specs.declared.Record.{Record}
use Rattle.lines.specs.declared.Ran.{Ran}
use Rattle.lines.specs.Text.{line_feed, parts_of}
use Rattle.lines.specs.Rules.{Rules, first_rules}
use Rattle.lines.specs.Step.{ScriptStateOf, ScriptState, script_state, step_by, start_by}

-- "an empty rest after the last line feed is no line"
unfoldable pub no_empty_rest : List (List ℕ) → List (List ℕ)
no_empty_rest [] = []
no_empty_rest ([] ∷ []) = []
no_empty_rest ((byte ∷ bytes) ∷ []) = (byte ∷ bytes) ∷ []
no_empty_rest (line ∷ other ∷ lines) = line ∷ no_empty_rest (other ∷ lines)

-- "A line ends at a line feed, the last one also at the end of input"
abbrev pub lines_of : List ℕ → List (List ℕ)
lines_of input = no_empty_rest (parts_of line_feed input)

-- the output lines, one behind the other
unfoldable pub output_by : {R : Type 0} → Rules R → ScriptStateOf R → List (List ℕ) → List ℕ
output_by rules s [] = []
output_by rules s (line ∷ lines) = (step_by rules s line).output ++ output_by rules (step_by rules s line).next lines

-- "It reads the first 65,536 bytes of standard input."
abbrev pub program_by : {R : Type 0} → Rules R → List ℕ → List ℕ
program_by rules input = output_by rules (start_by rules) (lines_of (take 65536 input))

-- where a run of lines ends: the next state, the place in the input that comes next, and the output lines
pub record EndedOf (R : Type 0) : Type 0 where
  pub next : ScriptStateOf R
  pub at : ℕ
  pub output : List ℕ

-- that of the first engine
abbrev pub Ended : Type 0
Ended = EndedOf Record

abbrev pub ended : {R : Type 0} → ScriptStateOf R → ℕ → List ℕ → EndedOf R
ended next at output = record { next = next; at = at; output = output }

-- the same end with this output in front
abbrev pub after : {R : Type 0} → List ℕ → EndedOf R → EndedOf R
after output e = ended e.next e.at (output ++ e.output)

-- the lines, of which the first starts at place `at`, one after the other; a line is run where there is room for 160
-- bytes, and no output line is longer
unfoldable pub lines_by : {R : Type 0} → Rules R → ℕ → ScriptStateOf R → ℕ → List (List ℕ) → EndedOf R
lines_by rules room s at [] = ended s at []
lines_by rules room s at (line ∷ lines) =
    cond (ltb room 160)
    (ended s at [])
    (after (step_by rules s line).output
    (lines_by rules (room - length (step_by rules s line).output) (step_by rules s line).next
    (at + length line + 1) lines))

-- the lines of an input from place `from` on
abbrev pub run_by : {R : Type 0} → Rules R → ℕ → ScriptStateOf R → List ℕ → ℕ → EndedOf R
run_by rules room s input from = lines_by rules room s from (lines_of (drop from input))

-- a run gives what the rule says: the state, the place, and the first `written` places of the buffer; the buffer's
-- other places are as they were
pub record Runs {R : Type 0} (r : Ran R) (lengths handles entry exit : List ℕ) (rule : EndedOf R) : Type 0 where
  pub within : r.written ≤ length exit
  pub exact : ended (script_state r.next lengths handles) r.at (take r.written exit) ≡ rule
  pub beyond : drop r.written exit ≡ drop r.written entry

-- the loop of the script program: a run, its output, and so on from where it ended, until the input is used up; at
-- most so many runs
unfoldable pub loop_by : {R : Type 0} → Rules R → ℕ → ℕ → ScriptStateOf R → List ℕ → ℕ → List ℕ
loop_by rules zero room s input at = []
loop_by rules (suc runs) room s input at =
    cond (ltb at (length input))
    ((run_by rules room s input at).output
    ++ loop_by rules runs room (run_by rules room s input at).next input (run_by rules room s input at).at)
    []

-- the same by the first engine's rules
abbrev pub output_from : ScriptState → List (List ℕ) → List ℕ
output_from = output_by first_rules

abbrev pub program_output : List ℕ → List ℕ
program_output = program_by first_rules

abbrev pub run_lines : ℕ → ScriptState → ℕ → List (List ℕ) → Ended
run_lines = lines_by first_rules

abbrev pub run_from : ℕ → ScriptState → List ℕ → ℕ → Ended
run_from = run_by first_rules

abbrev pub loop_output : ℕ → ℕ → ScriptState → List ℕ → ℕ → List ℕ
loop_output = loop_by first_rules
