-- The three calls of the plain engine as one: what a call gives on a record and two memories.
-- Assumes nothing.
use Rattle.std.specs.Prelude.{replicate}
use Rattle.reply.specs.State.{state}
use Rattle.uplink.specs.Calls.{Call, opening, arrival, pick}
use Rattle.backward.specs.Record.{blank}
use Rattle.backward.specs.State.{State, Outcome}
use Rattle.backward.specs.Opening.{opening_rule}
use Rattle.backward.specs.Arrival.{arrival_rule}
use Rattle.backward.specs.Pick.{pick_rule}

-- before an opening the record is blank
abbrev pub start : State
start = state blank (replicate 4096 0) (replicate 4096 0)

-- what a call gives: an opening takes the memories and no record
abbrev pub after_call : State → Call → Outcome
after_call s (opening shares largest header) = opening_rule shares largest header s.lengths s.handles
after_call s (arrival flow length handle) = arrival_rule s flow length handle
after_call s pick = pick_rule s
