-- What the functions of `src/lib.rt` give: a call's outcome, and beside it the entries that the call logs.
-- Assumes nothing.
use Rattle.std.specs.Prelude.{List}
use Rattle.uplink.specs.State.{State, Outcome}
use Rattle.uplink.specs.Calls.{Call, after_call}
use Rattle.entries.specs.declared.Entry.{Entry}
use Rattle.cardlog.specs.Logged.{logged}

pub record Noting : Type 0 where
  pub outcome : Outcome
  pub entries : List Entry

abbrev pub noting : Outcome → List Entry → Noting
noting outcome entries = record { outcome = outcome; entries = entries }

-- a call and what it logs
abbrev pub note_rule : State → Call → Noting
note_rule s call = noting (after_call s call) (logged call (after_call s call))
