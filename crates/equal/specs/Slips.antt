-- The report says "active flows", and "all 64 go down" (document 02 c). Here is an engine that lowers only the tags of
-- flows that wait, written as a definition, and the named runs in which it changes a tag less clock and a pick.
-- Assumes nothing.
use Rattle.std.specs.Prelude.{◌≡◌, refl, false, cond, List, [], ◌∷◌, ℕ, ◌+◌, eqb, ◌-ℤ◌, pos, nat_abs}
use Rattle.below.specs.Listed.{listed}
use Rattle.reply.specs.Reply.{Reply, idle, packet}
use Rattle.reply.specs.State.{state}
use Rattle.tags.specs.Ticks.{ticks}
use Rattle.signs.specs.Tags as signs
use Rattle.uplink.specs.Calls.{Call, opening, arrival, pick}
use Rattle.backward.specs.Record.{tag_of, waiting_of, with, signed_tags, lowered}
use Rattle.backward.specs.State.{State, Outcome}
use Rattle.backward.specs.Arrival.{store_rule}
use Rattle.backward.specs.Pick.{lead_of, leapt, chosen_record, served_rule, idle_rule}
use Rattle.backward.specs.Calls.{start, after_call}
use Rattle.backward.specs.declared.Record.{Record}
use Rattle.equal.specs.Rows.{every_step, four_picked}

-- the tags of the flows that wait go down, and the others stay
abbrev lowers_waiting : Record → Record
lowers_waiting r =
    with r (ticks (r.sum.0 + r.width)) r.clock r.link
    (signed_tags (listed (λ f. cond (eqb (waiting_of r f) 0) (tag_of r f) (signs.lowered r.width (tag_of r f))) 0 64))
    r.queues r.turn

-- the steps of a call with this leap, whatever the form says: with it a flow beyond the number of flows has a tag
abbrev served : (Record → Record) → State → ℕ → Outcome
served lower s f =
    let chosen = chosen_record s.held f in
    let r = cond (leapt s.held f) (lower chosen) chosen in
    let gone = served_rule (state r s.lengths s.handles) f in
    record {
      reply = packet f gone.length gone.handle (signs.natural (tag_of r f)) (leapt s.held f)
          gone.state.held.clock.0;
      state = gone.state;
    }

abbrev stepped : (Record → Record) → State → Call → Outcome
stepped lower s (opening shares largest header) = after_call s (opening shares largest header)
stepped lower s (arrival flow length handle) = store_rule s flow length handle
stepped lower s pick =
    let lead = lead_of s.held in cond lead.waits (served lower s lead.flow) (idle_rule s)

-- the last reply of a run with this leap, and the state that it leaves
abbrev last_of : (Record → Record) → State → Reply → List Call → Outcome
last_of lower s reply [] = record { reply = reply; state = s }
last_of lower s reply (call ∷ calls) = let o = stepped lower s call in last_of lower o.state o.reply calls

abbrev after : (Record → Record) → List Call → Outcome
after lower = last_of lower start idle

-- how far flow f's tag is from the clock
abbrev distance : State → ℕ → ℕ
distance s f = nat_abs (tag_of s.held f -ℤ pos s.held.clock.0)

-- At P6 flow 1 has nothing waiting. With all tags lowered its tag is 432,000 behind the clock, as the first engine's
-- is,
pub all_lowered_distance : distance (after lowered four_picked).state 1 ≡ 432000
unfolding every_step
all_lowered_distance = refl

-- and with only the waiting flows' tags lowered 288,000.
pub only_waiting_distance : distance (after lowers_waiting four_picked).state 1 ≡ 288000
unfolding every_step
only_waiting_distance = refl

-- Two flows of share 100 and largest packet 100, cost 7,200, Δ 720,000. Packets of 100, 100, 50 and 50 at flow 0, two
-- picks, 100 at flow 1, a pick of it, a pick of flow 0 that leaps while flow 1's tag stands above the clock, 100 at flow
-- 1 again, and a pick.
abbrev flow_one_again : List Call
flow_one_again =
    opening (100 ∷ 100 ∷ []) (100 ∷ 100 ∷ []) 0
    ∷ arrival 0 100 1 ∷ arrival 0 100 2 ∷ arrival 0 50 3 ∷ arrival 0 50 4 ∷ pick ∷ pick
    ∷ arrival 1 100 5 ∷ pick ∷ pick ∷ arrival 1 100 6 ∷ pick ∷ []

-- The last pick takes flow 1,
pub all_lowered : (after lowered flow_one_again).reply ≡ packet 1 100 6 972000 false 324000
unfolding every_step
all_lowered = refl

-- and with only the waiting flows' tags lowered it takes flow 0.
pub only_waiting_picks : (after lowers_waiting flow_one_again).reply ≡ packet 0 50 4 1440000 false 288000
unfolding every_step
only_waiting_picks = refl
