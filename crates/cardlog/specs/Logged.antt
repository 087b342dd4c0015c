-- From calls to entries, document 02 d): "An entry's first byte says its kind: 1 arrival, 2 pick without leap, 3 pick
-- with leap, 4 Idle; then flow, length (2), handle (4), clock after the call (8)."
-- Assumes nothing.
use Rattle.std.specs.Prelude.{List, [], ◌∷◌, ◌++◌, ℕ, ◌+◌, get_or}
use Rattle.reply.specs.Reply.{Reply, idle, done, refused}
use Rattle.uplink.specs.State.{State, Outcome}
use Rattle.uplink.specs.Calls.{Call, opening, arrival, pick, after_call}
use Rattle.entries.specs.Entry.{entry}
use Rattle.entries.specs.declared.Entry.{Entry}

-- "4 Idle .. Idle has zeros in all these."
abbrev pub idle_entry : Entry
idle_entry = entry 4 0 0 0 0

-- a pick by the values of its reply, "flow, length, handle, T, leapt or not, clock": "2 pick without leap, 3 pick with
-- leap"
abbrev pub pick_entry : List ℕ → ℕ → Entry
pick_entry values clock = entry (2 + get_or values 4 0) (get_or values 0 0) (get_or values 1 0) (get_or values 2 0) clock

-- by a call, its reply and the clock after it: one entry or none; "Refused calls are not logged", and an opening is no
-- kind of entry
abbrev pub logged_reply : Call → Reply → ℕ → List Entry
logged_reply (opening shares largest header) reply clock = []
logged_reply (arrival flow length handle) (done values) clock = entry 1 flow length handle clock ∷ []
logged_reply (arrival flow length handle) idle clock = []
logged_reply (arrival flow length handle) (refused number of) clock = []
logged_reply pick (done values) clock = pick_entry values clock ∷ []
logged_reply pick idle clock = idle_entry ∷ []
logged_reply pick (refused number of) clock = []

-- what a call logs: "clock after the call" is that of the record after it
abbrev pub logged : Call → Outcome → List Entry
logged call o = logged_reply call o.reply o.state.held.clock.0

-- what a list of calls logs from a state on
abbrev pub entries_of : State → List Call → List Entry
entries_of s [] = []
entries_of s (call ∷ calls) = let o = after_call s call in logged call o ++ entries_of o.state calls
