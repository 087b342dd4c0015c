-- When the plain engine's record is well formed: document 02 c), "with that added to clock and tags, its record is
-- judged by 01's form".
-- Assumes nothing.
use Rattle.std.specs.Prelude.{Bool, List, ℕ}
use Rattle.queues.specs.Checked.{checked_by}
use Rattle.uplink.specs.Form as first
use Rattle.backward.specs.Raised.{raised_record}
use Rattle.backward.specs.State.{State, Outcome}
use Rattle.backward.specs.declared.Record.{Record}

-- well formed, with this memory of lengths
abbrev pub formed : Record → List ℕ → Bool
formed r lengths = first.formed (raised_record r) lengths

-- refusals 1 and 2, with which every call on a record begins; then the call goes on
abbrev pub checked : State → Outcome → Outcome
checked s on = checked_by (formed s.held s.lengths) s on
