-- What a run is, and what is read off it. A call is an opening, an arrival or a pick with any arguments;
-- record and both memories go on unaltered from one call to the next, refused calls and Idle picks included.
-- A pick may take any flow of smallest tag: document 01's pick is one of these (`Rule`).
-- "W and S of demand 3 count charges" (document 02 a): what a pick is charged is read off its outcome.
-- Assumes nothing.
use Rattle.std.specs.Prelude.{◌≡◌, Bool, true, cond, List, [], ◌∷◌, ℕ, ◌+◌, ◌-◌, ◌*◌, max, ◌<◌, eqb, ltb, get_or}
use Rattle.cost.specs.Charge.{charge_of, charge_ticks}
use Rattle.reply.specs.Reply.{Reply, idle, done, refused}
use Rattle.tags.specs.Choice.{Smallest}
use Rattle.uplink.specs.Flow.{flow_cost}
use Rattle.uplink.specs.Record.{flow_at, tag_of, waiting_of}
use Rattle.reply.specs.State.{demand}
use Rattle.uplink.specs.State.{State, Outcome}
use Rattle.uplink.specs.Form.{checked}
use Rattle.uplink.specs.Opening.{opening_rule}
use Rattle.uplink.specs.Arrival.{arrival_rule}
use Rattle.uplink.specs.Pick.{clock_limit, lead_of, front_charge, serve_rule, idle_rule}
use Rattle.uplink.specs.Calls.{Call, opening, arrival, pick, after_call}

-- something waits
abbrev pub something_waits : State → Bool
something_waits s = (lead_of s.held).waits

-- document 01's pick, but that flow f is taken, whoever leads
unfoldable pub take_rule : State → ℕ → Outcome
take_rule s f =
    checked s (cond (something_waits s) (demand (ltb s.held.clock.0 clock_limit) 10 s (serve_rule s f)) (idle_rule s))

-- a pick that takes a flow of smallest tag
pub record Taken (s : State) (o : Outcome) : Type 0 where
  pub flow : ℕ
  pub smallest : something_waits s ≡ true → Smallest (tag_of s.held) (waiting_of s.held) s.held.flows flow
  pub taken : o ≡ take_rule s flow

-- what a call may give, whatever the tie rule
abbrev pub Gives : State → Call → Outcome → Type 0
Gives s (opening shares largest header) o = o ≡ opening_rule shares largest header s.lengths s.handles
Gives s (arrival flow length handle) o = o ≡ arrival_rule s flow length handle
Gives s pick o = Taken s o

-- a call that is no opening
abbrev pub Plain : Call → Type 0
Plain (opening shares largest header) = ⊥
Plain (arrival flow length handle) = Unit {0}
Plain pick = Unit {0}

-- a list of such calls
abbrev pub NoOpening : List Call → Type 0
NoOpening [] = Unit {0}
NoOpening (call ∷ calls) = Plain call × NoOpening calls

-- a call and what it gave
pub record Event : Type 0 where
  pub call : Call
  pub outcome : Outcome

-- a stretch of a run, from state s on: no opening is in it
abbrev pub Stretch : State → List Event → Type 0
Stretch s [] = Unit {0}
Stretch s (x ∷ xs) = Plain x.call × Gives s x.call x.outcome × Stretch x.outcome.state xs

-- the state at its end
abbrev pub end_of : State → List Event → State
end_of s [] = s
end_of s (x ∷ xs) = end_of x.outcome.state xs

-- the run of document 01's rule
abbrev pub run_of : State → List Call → List Event
run_of s [] = []
run_of s (call ∷ calls) = record { call = call; outcome = after_call s call } ∷ run_of (after_call s call).state calls

-- an opening in state s, whatever came before: of the state it takes the memories alone
abbrev pub opening_in : State → List ℕ → List ℕ → ℕ → Outcome
opening_in s shares largest header = after_call s (opening shares largest header)

-- the states of a run from an accepted opening on, with no new opening
pub data Carried : State → Type 0 where
  opened : (s : State) (shares largest : List ℕ) (header : ℕ) → (opening_in s shares largest header).reply ≡ done []
      → Carried (opening_in s shares largest header).state
  next : (s : State) (x : Event) → Carried s → Plain x.call → Gives s x.call x.outcome
      → Carried x.outcome.state

-- the states in which the clocks start: after an accepted opening, and after an Idle
pub data Restarted : State → Type 0 where
  opened : (s : State) (shares largest : List ℕ) (header : ℕ) → (opening_in s shares largest header).reply ≡ done []
      → Restarted (opening_in s shares largest header).state
  idled : (s : State) (o : Outcome) → Carried s → Taken s o → o.reply ≡ idle → Restarted o.state

-- a figure of the packet that a reply tells, by its flow and the values behind that; 0 where no packet is told
abbrev pub of_packet : (ℕ → List ℕ → ℕ) → Reply → ℕ
of_packet figure idle = 0
of_packet figure (refused number flow) = 0
of_packet figure (done []) = 0
of_packet figure (done (flow ∷ rest)) = figure flow rest

-- the charge of what was picked: the length that the reply tells, plus the header that the record keeps
abbrev pub charge_told : ℕ → Reply → ℕ
charge_told header reply = of_packet (λ flow rest. charge_of header (get_or rest 0 0)) reply

abbrev pub charge_in : Outcome → ℕ
charge_in o = charge_told o.state.held.header o.reply

-- and its charge where it is of flow f
abbrev pub charge_told_for : ℕ → ℕ → Reply → ℕ
charge_told_for f header reply = of_packet (λ flow rest. cond (eqb flow f) (charge_told header reply) 0) reply

abbrev pub charge_for : ℕ → Outcome → ℕ
charge_for f o = charge_told_for f o.state.held.header o.reply

-- the k-th value of a reply that is done: of a pick's, 1 is the length, 3 the tag, 4 is 1 where it leapt, 5 the clock
abbrev pub value_in : ℕ → Reply → ℕ
value_in k idle = 0
value_in k (refused number flow) = 0
value_in k (done values) = get_or values k 0

-- a figure added up over the outcomes
abbrev pub total : (Outcome → ℕ) → List Event → ℕ
total figure [] = 0
total figure (x ∷ xs) = figure x.outcome + total figure xs

-- W: the charges of all packets picked
abbrev pub picked : List Event → ℕ
picked = total charge_in

-- S: the charges of the packets picked of flow f
abbrev pub picked_of : ℕ → List Event → ℕ
picked_of f = total (charge_for f)

-- the figure of flow f, "bytes charged times own cost" (document 02 b), with the costs of state s
abbrev pub figure_of : ℕ → State → List Event → ℕ
figure_of f s stretch = picked_of f stretch * flow_cost (flow_at s.held f)

-- the number of leaps
abbrev pub leaps_of : List Event → ℕ
leaps_of = total (λ o. value_in 4 o.reply)

-- the tag of flow f's last packet picked: the one that a reply tells, where it is of flow f, and else the one before
abbrev pub tag_after : ℕ → ℕ → Reply → ℕ
tag_after f before idle = before
tag_after f before (refused number flow) = before
tag_after f before (done []) = before
tag_after f before (done (flow ∷ rest)) = cond (eqb flow f) (get_or rest 2 0) before

abbrev pub last_tag_from : ℕ → ℕ → List Event → ℕ
last_tag_from f before [] = before
last_tag_from f before (x ∷ xs) = last_tag_from f (tag_after f before x.outcome.reply) xs

-- the same, "or 0"
abbrev pub last_tag : ℕ → List Event → ℕ
last_tag f = last_tag_from f 0

-- 1 where a pick was not refused: it is Idle or tells a packet
abbrev pub pick_in : Reply → ℕ
pick_in idle = 1
pick_in (refused number flow) = 0
pick_in (done []) = 0
pick_in (done (flow ∷ rest)) = 1

-- the number of picks that were not refused
abbrev pub picks_of : List Event → ℕ
picks_of = total (λ o. pick_in o.reply)

-- the charge of flow f's front packet, and 0 where nothing waits
unfoldable pub waiting_charge : State → ℕ → ℕ
waiting_charge s f = cond (eqb (waiting_of s.held f) 0) 0 (front_charge s f)

-- the start of flow f: its tag less its front packet's charge × cost, or the larger of tag and clock where none waits
unfoldable pub start_of : State → ℕ → ℕ
start_of s f =
    cond (eqb (waiting_of s.held f) 0) (max (tag_of s.held f) s.held.clock.0)
    (tag_of s.held f - charge_ticks (flow_cost (flow_at s.held f)) (front_charge s f))

-- flow f has a packet waiting at every pick
abbrev pub WaitsAtPicks : ℕ → State → List Event → Type 0
WaitsAtPicks f s [] = Unit {0}
WaitsAtPicks f s (x ∷ xs) =
    (x.call ≡ pick → 0 < waiting_of s.held f) × WaitsAtPicks f x.outcome.state xs

-- no reply is Idle
abbrev pub NeverIdle : List Event → Type 0
NeverIdle [] = Unit {0}
NeverIdle (x ∷ xs) = (x.outcome.reply ≡ idle → ⊥) × NeverIdle xs
