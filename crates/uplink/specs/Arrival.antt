-- The rule of an arrival: document 01, "The three calls" and the order of refusals 1, 2, 7, 8, 9.
-- Assumes nothing.
use Rattle.std.specs.Prelude.{List, [], ℕ, set}
use Rattle.cost.specs.Charge.{charge_of}
use Rattle.reply.specs.Reply.{Reply, done}
use Rattle.queues.specs.Queue.{place_of}
use Rattle.queues.specs.Places.{join_reply}
use Rattle.queues.specs.Checked.{formed_reply}
use Rattle.uplink.specs.Flow.{joined_flow, flow_cost}
use Rattle.uplink.specs.Record.{flow_at, put}
use Rattle.reply.specs.State.{outcome, unless_refused}
use Rattle.uplink.specs.State.{State, Outcome}
use Rattle.uplink.specs.Form.{formed, checked}
use Rattle.uplink.specs.declared.Record.{Record}

-- "The packet goes behind the flow's last one."
abbrev pub last_place : State → ℕ → ℕ
last_place s f = let w = (flow_at s.held f).queue in place_of f w.first w.waiting

-- the packet of length n is taken at flow f: stored by its length, tagged by its charge (02 a)
unfoldable pub store_rule : State → ℕ → ℕ → ℕ → Outcome
store_rule s f n handle =
    let r = s.held in
    let w = flow_at r f in
    outcome (done [])
    (put r f (joined_flow w r.clock (flow_cost w) (charge_of r.header n)))
    (set s.lengths (last_place s f) n)
    (set s.handles (last_place s f) handle)

-- 7, 8 and 9 at flow f
abbrev pub joining : State → ℕ → ℕ → Reply
joining s f n = let w = (flow_at s.held f).queue in join_reply s.held.flows f n w.largest w.waiting

unfoldable pub join_rule : State → ℕ → ℕ → ℕ → Outcome
join_rule s f n handle = unless_refused (joining s f n) s (store_rule s f n handle)

-- what they and the check before them refuse, in memories of 4,096 places: 2, 7, 8, 9
abbrev pub admit_reply : Record → List ℕ → ℕ → ℕ → Reply
admit_reply r lengths f n = let w = (flow_at r f).queue in
    formed_reply (formed r lengths) (join_reply r.flows f n w.largest w.waiting)

-- 1, 2, 7, 8, 9
abbrev pub arrival_rule : State → ℕ → ℕ → ℕ → Outcome
arrival_rule s f n handle = checked s (join_rule s f n handle)
