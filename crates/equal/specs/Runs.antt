-- A run of the plain engine, and what is read off it in its own words: each call with what it gave, record and both
-- memories going on unaltered. W and S are charges, as in demand 3.
-- Assumes nothing.
use Rattle.std.specs.Prelude.{◌≡◌, List, [], ◌∷◌, ℕ, ◌+◌, ◌*◌, ◌<◌}
use Rattle.queues.specs.Queue.{cost_to}
use Rattle.reply.specs.Reply.{Reply, idle, done}
use Rattle.uplink.specs.Calls.{Call, opening, pick}
use Rattle.shares.specs.Runs as first
use Rattle.shares.specs.Runs.{Plain, charge_told, charge_told_for, pick_in, value_in}
use Rattle.backward.specs.Record.{queue_of, waiting_of}
use Rattle.backward.specs.State.{State, Outcome}
use Rattle.backward.specs.Calls.{after_call}
use Rattle.equal.specs.Raised.{raised_outcome}

-- a call and what it gave
pub record Event : Type 0 where
  pub call : Call
  pub outcome : Outcome

abbrev pub run_of : State → List Call → List Event
run_of s [] = []
run_of s (call ∷ calls) = record { call = call; outcome = after_call s call } ∷ run_of (after_call s call).state calls

-- the state at its end
abbrev pub end_of : State → List Call → State
end_of s [] = s
end_of s (call ∷ calls) = end_of (after_call s call).state calls

-- the run with the sum after each call added
abbrev pub raised_run : List Event → List first.Event
raised_run [] = []
raised_run (x ∷ xs) = record { call = x.call; outcome = raised_outcome x.outcome } ∷ raised_run xs

-- the states of a run from an accepted opening on, with no new opening
pub data Carried : State → Type 0 where
  opened : (s : State) (shares largest : List ℕ) (header : ℕ)
      → (after_call s (opening shares largest header)).reply ≡ done []
      → Carried (after_call s (opening shares largest header)).state
  next : (s : State) (call : Call) → Carried s → Plain call → Carried (after_call s call).state

-- a figure by header and reply, added up over a run
abbrev pub total : (ℕ → Reply → ℕ) → List Event → ℕ
total figure [] = 0
total figure (x ∷ xs) = figure x.outcome.state.held.header x.outcome.reply + total figure xs

-- W: the charges of all packets picked
abbrev pub picked : List Event → ℕ
picked = total charge_told

-- S: the charges of the packets picked of flow f
abbrev pub picked_of : ℕ → List Event → ℕ
picked_of f = total (charge_told_for f)

-- what a byte costs flow f, and its figure, "bytes charged times own cost" (document 02 b)
abbrev pub cost_in : State → ℕ → ℕ
cost_in s f = cost_to (queue_of s.held f)

abbrev pub figure_of : ℕ → State → List Event → ℕ
figure_of f s run = picked_of f run * cost_in s f

-- the number of leaps, and of picks that were not refused
abbrev pub leaps_of : List Event → ℕ
leaps_of = total (λ header reply. value_in 4 reply)

abbrev pub picks_of : List Event → ℕ
picks_of = total (λ header reply. pick_in reply)

-- flow f has a packet waiting at every pick
abbrev pub WaitsAtPicks : ℕ → State → List Call → Type 0
WaitsAtPicks f s [] = Unit {0}
WaitsAtPicks f s (call ∷ calls) =
    (call ≡ pick → 0 < waiting_of s.held f) × WaitsAtPicks f (after_call s call).state calls

-- the states in which the clocks start: after an accepted opening, and after an Idle
pub data Restarted : State → Type 0 where
  opened : (s : State) (shares largest : List ℕ) (header : ℕ)
      → (after_call s (opening shares largest header)).reply ≡ done []
      → Restarted (after_call s (opening shares largest header)).state
  idled : (s : State) → Carried s → (after_call s pick).reply ≡ idle → Restarted (after_call s pick).state

-- no reply is Idle
abbrev pub NeverIdle : List Event → Type 0
NeverIdle [] = Unit {0}
NeverIdle (x ∷ xs) = (x.outcome.reply ≡ idle → ⊥) × NeverIdle xs
