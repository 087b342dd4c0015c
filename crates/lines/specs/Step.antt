-- The state of a script, and what a line makes of it: document 01, "The script program". Each is said for any engine's
-- rules, and named for the first engine's.
-- Assumes nothing.
use Rattle.std.specs.Prelude.{◌≡◌, cond, List, [], ◌∷◌, ◌++◌, ℕ, ◌≤◌, Option, None, Some, ltb, length, take, replicate}
use Rattle.reply.specs.Reply.{Reply}
use Rattle.reply.specs.State.{StateOf, OutcomeOf, state}
use Rattle.uplink.specs.declared.Record.{Record}
use Rattle.lines.specs.declared.Line.{Line}
use Rattle.lines.specs.declared.Script.{Script}
use Rattle.lines.specs.declared.Stepped.{Stepped}
use Rattle.lines.specs.Line.{line_of}
use Rattle.lines.specs.Output.{bad_line, opening_line, arrival_line, pick_line}
use Rattle.lines.specs.Rules.{Rules, first_rules}

-- the table's rows so far, in two lists of one length, and the record with both memories
pub record ScriptStateOf (R : Type 0) : Type 0 where
  pub shares : List ℕ
  pub largest : List ℕ
  pub held : StateOf R

-- the next state and the output line
pub record MadeOf (R : Type 0) : Type 0 where
  pub next : ScriptStateOf R
  pub output : List ℕ

-- those of the first engine
abbrev pub ScriptState : Type 0
ScriptState = ScriptStateOf Record

abbrev pub Made : Type 0
Made = MadeOf Record

abbrev pub made : {R : Type 0} → List ℕ → List ℕ → StateOf R → List ℕ → MadeOf R
made shares largest held output =
    record { next = record { shares = shares; largest = largest; held = held }; output = output }

-- the line changes nothing and writes `bad`
abbrev pub bad_step : {R : Type 0} → ScriptStateOf R → MadeOf R
bad_step s = record { next = s; output = bad_line }

-- "adds a table row"; "A taken `f` line writes nothing"; "an `f` line after the 65th, writes `bad`"
unfoldable pub row_step : {R : Type 0} → ScriptStateOf R → ℕ → ℕ → MadeOf R
row_step s share largest =
    cond (ltb (length s.shares) 65)
    (made (s.shares ++ share ∷ []) (s.largest ++ largest ∷ []) s.held [])
    (bad_step s)

-- a call gives the next record and memories, and its reply is written; the rows stay
abbrev pub called : {R : Type 0} → ScriptStateOf R → OutcomeOf R → (Reply → List ℕ) → MadeOf R
called s o line = made s.shares s.largest o.state (line o.reply)

-- "`o` opens": the rows so far are the table; "The script opens with 0" for the header
unfoldable pub opening_by : {R : Type 0} → Rules R → ScriptStateOf R → MadeOf R
opening_by rules s = called s (rules.opening s.shares s.largest 0 s.held.lengths s.held.handles) opening_line

unfoldable pub arrival_by : {R : Type 0} → Rules R → ScriptStateOf R → ℕ → ℕ → ℕ → MadeOf R
arrival_by rules s flow length handle = called s (rules.arrival s.held flow length handle) arrival_line

unfoldable pub pick_by : {R : Type 0} → Rules R → ScriptStateOf R → MadeOf R
pick_by rules s = called s (rules.pick s.held) pick_line

-- what a line that says this makes
abbrev pub line_by : {R : Type 0} → Rules R → ScriptStateOf R → Option Line → MadeOf R
line_by rules s (Some (Line.Row share largest)) = row_step s share largest
line_by rules s (Some Line.Opening) = opening_by rules s
line_by rules s (Some (Line.Arrival flow length handle)) = arrival_by rules s flow length handle
line_by rules s (Some Line.Pick) = pick_by rules s
line_by rules s None = bad_step s

unfoldable pub step_by : {R : Type 0} → Rules R → ScriptStateOf R → List ℕ → MadeOf R
step_by rules s line = line_by rules s (line_of line)

-- "Before an opening the record is blank.", and there are no rows; both memories are zeros
abbrev pub start_by : {R : Type 0} → Rules R → ScriptStateOf R
start_by rules =
    record { shares = []; largest = []; held = state rules.blank (replicate 4096 0) (replicate 4096 0) }

-- the same by the first engine's rules
abbrev pub opening_step : ScriptState → Made
opening_step = opening_by first_rules

abbrev pub arrival_step : ScriptState → ℕ → ℕ → ℕ → Made
arrival_step = arrival_by first_rules

abbrev pub pick_step : ScriptState → Made
pick_step = pick_by first_rules

abbrev pub line_step : ScriptState → Option Line → Made
line_step = line_by first_rules

abbrev pub script_step : ScriptState → List ℕ → Made
script_step = step_by first_rules

abbrev pub first_state : ScriptState
first_state = start_by first_rules

-- the state that a script and the lent memories stand for
abbrev pub script_state : {R : Type 0} → Script R → List ℕ → List ℕ → ScriptStateOf R
script_state s lengths handles =
    record {
      shares = s.shares.items;
      largest = s.largest.items;
      held = state s.held lengths handles;
    }

-- what a step leaves: the next state and the first `written` places of the buffer
abbrev pub left : {R : Type 0} → Stepped R → List ℕ → List ℕ → List ℕ → MadeOf R
left r lengths handles out = record { next = script_state r.next lengths handles; output = take r.written out }

-- a step gives what the rule says, and so many bytes are there, at most 160
pub record Gives {R : Type 0} (r : Stepped R) (lengths handles out : List ℕ) (rule : MadeOf R) : Type 0 where
  pub within : r.written ≤ length out
  pub short : r.written ≤ 160
  pub exact : left r lengths handles out ≡ rule
