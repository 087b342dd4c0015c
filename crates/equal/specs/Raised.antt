-- A state and an outcome of the plain engine with the sum added to clock and tags. That these are the first engine's is
-- what this crate shows.
-- Assumes nothing.
use Rattle.std.specs.Prelude.{List, ℕ, ◌+◌, get_or, set}
use Rattle.reply.specs.Reply.{Reply, idle, done, refused}
use Rattle.reply.specs.State.{state}
use Rattle.uplink.specs.State as first
use Rattle.backward.specs.Raised.{raised_record}
use Rattle.backward.specs.State.{State, Outcome}

-- record raised, both memories as they are
abbrev pub raised_state : State → first.State
raised_state s = state (raised_record s.held) s.lengths s.handles

-- "flow, length, handle, T, leapt or not, clock": T and clock with the sum added; an arrival's and an opening's reply
-- have no values
abbrev pub raised_values : ℕ → List ℕ → List ℕ
raised_values sum values = set (set values 3 (get_or values 3 0 + sum)) 5 (get_or values 5 0 + sum)

abbrev pub raised_reply : ℕ → Reply → Reply
raised_reply sum idle = idle
raised_reply sum (done values) = done (raised_values sum values)
raised_reply sum (refused number flow) = refused number flow

-- what a call gave, with the sum after the call
abbrev pub raised_outcome : Outcome → first.Outcome
raised_outcome o =
    record { reply = raised_reply o.state.held.sum.0 o.reply; state = raised_state o.state }
