-- The stand-ins that document 01 wants rejected ("What the checker has to be told"), each written as a definition
-- of the type of the rule it imitates, and a named state at which it differs from that rule.
-- Assumes nothing.
use Rattle.std.specs.Prelude.{◌≡◌, refl, cond, List, ℕ, ◌+◌, eqb, get_or}
use Rattle.below.specs.Truth.{apart}
use Rattle.reply.specs.Reply.{Reply, idle, done, refused}
use Rattle.uplink.specs.declared.Record.{Record}
use Rattle.uplink.specs.Record.{blank, waiting_of, moved}
use Rattle.reply.specs.State.{outcome}
use Rattle.uplink.specs.State.{State, Outcome}
use Rattle.uplink.specs.Opening.{opening_rule}
use Rattle.uplink.specs.Arrival.{arrival_rule}
use Rattle.uplink.specs.Pick.{leapt, serve_rule, pick_rule}
use Rattle.uplink.specs.Calls.{every_rule, start}
use Rattle.rows.specs.Examples.{pair, both_wait, flow1_waits, before_leap, flow1_leads}
use Rattle.rows.specs.Altered.{leaping, when_done, when_picked}

-- 1 where a reply is a refusal
abbrev refusals : Reply → ℕ
refusals idle = 0
refusals (done values) = 0
refusals (refused number flow) = 1

-- the flow that a pick's reply tells
abbrev pub flow_told : Reply → ℕ
flow_told idle = 0
flow_told (done values) = get_or values 0 0
flow_told (refused number flow) = 0

-- the clock of a record
abbrev clock_of : Record → ℕ
clock_of r = r.clock.0

-- "a scheduler that refuses everything", with whatever number and flow
abbrev pub refuses_opening : ℕ → ℕ → List ℕ → List ℕ → ℕ → List ℕ → List ℕ → Outcome
refuses_opening number flow shares largest header lengths handles = outcome (refused number flow) blank lengths handles

abbrev pub refuses_arrival : ℕ → ℕ → State → ℕ → ℕ → ℕ → Outcome
refuses_arrival number flow s f n handle = record { reply = refused number flow; state = s }

abbrev pub refuses_pick : ℕ → ℕ → State → Outcome
refuses_pick number flow s = record { reply = refused number flow; state = s }

-- it does not open P10's shares
pub refuses_opening_differs : (number flow : ℕ) →
    refuses_opening number flow (pair 600 400) (pair 100 100) 0 start.lengths start.handles
    ≡ opening_rule (pair 600 400) (pair 100 100) 0 start.lengths start.handles → ⊥
unfolding every_rule
refuses_opening_differs number flow = apart (λ o. refusals o.reply) _ _ refl

-- it does not take 100 bytes more at flow 0
pub refuses_arrival_differs : (number flow : ℕ) →
    refuses_arrival number flow both_wait 0 100 9 ≡ arrival_rule both_wait 0 100 9 → ⊥
unfolding both_wait
refuses_arrival_differs number flow = apart (λ o. refusals o.reply) _ _ refl

-- it does not make P2's pick
pub refuses_pick_differs : (number flow : ℕ) → refuses_pick number flow both_wait ≡ pick_rule both_wait → ⊥
unfolding both_wait
refuses_pick_differs number flow = apart (λ o. refusals o.reply) _ _ refl

-- "one that always picks flow 0": at a state where both wait and flow 1 has the smaller tag
abbrev pub picks_flow0 : State → Outcome
picks_flow0 = when_picked (λ s f. serve_rule s 0)

pub picks_flow_0_differs : picks_flow0 flow1_leads ≡ pick_rule flow1_leads → ⊥
unfolding flow1_leads
picks_flow_0_differs = apart (λ o. flow_told o.reply) _ _ refl

-- "one that returns the record it got", with the right reply and the right memories
abbrev pub keeps_record : State → Outcome → Outcome
keeps_record s o = outcome o.reply s.held o.state.lengths o.state.handles

abbrev pub keeps_record_arrival : State → ℕ → ℕ → ℕ → Outcome
keeps_record_arrival s f n handle = keeps_record s (arrival_rule s f n handle)

abbrev pub keeps_record_pick : State → Outcome
keeps_record_pick s = keeps_record s (pick_rule s)

-- two packets wait in flow 0 after the arrival, and it says one
pub keeps_record_arrival_differs : keeps_record_arrival both_wait 0 100 9 ≡ arrival_rule both_wait 0 100 9 → ⊥
unfolding both_wait
keeps_record_arrival_differs = apart (λ o. waiting_of o.state.held 0) _ _ refl

-- the clock is 72,000 after P2's pick, and it says 0
pub keeps_record_pick_differs : keeps_record_pick both_wait ≡ pick_rule both_wait → ⊥
unfolding both_wait
keeps_record_pick_differs = apart (λ o. clock_of o.state.held) _ _ refl

-- "one that does its bookkeeping on the first pick and afterwards only reports": while link time is 0 it is the rule,
-- and afterwards its reply is the rule's, and the record and both memories stay as they came
abbrev pub books_first : State → Outcome
books_first s = cond (eqb s.held.link.0 0) (pick_rule s) (record { reply = (pick_rule s).reply; state = s })

-- it does P2's pick, the first, in full
pub books_first_pick : books_first both_wait ≡ pick_rule both_wait
unfolding both_wait
books_first_pick = refl

-- it replies to P3's pick, the second, as the rule does
pub books_first_reply : (books_first flow1_waits).reply ≡ (pick_rule flow1_waits).reply
unfolding flow1_waits
books_first_reply = refl

-- and there differs in the record: the clock is 144,000, and it says 72,000
pub books_first_record_differs : (books_first flow1_waits).state.held ≡ (pick_rule flow1_waits).state.held → ⊥
unfolding flow1_waits
books_first_record_differs = apart clock_of _ _ refl

-- and in both memories: flow 1's front place, 64, is freed, and it leaves the packet there
pub books_first_lengths_differ : (books_first flow1_waits).state.lengths ≡ (pick_rule flow1_waits).state.lengths → ⊥
unfolding flow1_waits
books_first_lengths_differ = apart (λ lengths. get_or lengths 64 0) _ _ refl

pub books_first_handles_differ : (books_first flow1_waits).state.handles ≡ (pick_rule flow1_waits).state.handles → ⊥
unfolding flow1_waits
books_first_handles_differ = apart (λ handles. get_or handles 64 0) _ _ refl

-- "one that invents leaps": before every packet the clock goes on by Δ, and so at P2's pick
abbrev pub invents_leaps : State → Outcome
invents_leaps = when_picked (λ s f. serve_rule (leaping s) f)

pub invents_leaps_differs : invents_leaps both_wait ≡ pick_rule both_wait → ⊥
unfolding both_wait
invents_leaps_differs = apart (λ o. clock_of o.state.held) _ _ refl

-- "or link time": a leap adds Δ to link time too, and so at P6's pick
abbrev pub invents_link_time : State → Outcome
invents_link_time =
    when_picked
    (λ s f.
    when_done (λ r. moved r r.clock.0 (r.link.0 + cond (leapt s.held f) r.width 0)) (serve_rule s f))

pub invents_link_time_differs : invents_link_time before_leap ≡ pick_rule before_leap → ⊥
unfolding before_leap
invents_link_time_differs = apart (λ o. o.state.held.link.0) _ _ refl
