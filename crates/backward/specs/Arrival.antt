-- The rule of an arrival: document 01, "The three calls" and the order of refusals 1, 2, 7, 8, 9.
-- Assumes nothing.
use Rattle.std.specs.Prelude.{cond, List, [], ℕ, eqb, set}
use Rattle.cost.specs.Charge.{charge_of}
use Rattle.reply.specs.Reply.{Reply, done}
use Rattle.reply.specs.State.{outcome, unless_refused}
use Rattle.queues.specs.Queue.{place_of, cost_to, joined}
use Rattle.queues.specs.Places.{join_reply}
use Rattle.queues.specs.Checked.{formed_reply}
use Rattle.signs.specs.Tags.{front_tag}
use Rattle.backward.specs.Record.{tag_of, queue_of, put}
use Rattle.backward.specs.State.{State, Outcome}
use Rattle.backward.specs.Form.{formed, checked}
use Rattle.backward.specs.declared.Record.{Record}

-- the packet of length n is taken at flow f: "If the flow was empty, its tag becomes the larger of tag and clock, plus
-- n × cost .. Otherwise no tag changes."
unfoldable pub store_rule : State → ℕ → ℕ → ℕ → Outcome
store_rule s f n handle =
    let r = s.held in
    let q = queue_of r f in
    let place = place_of f q.first q.waiting in
    let next = front_tag (tag_of r f) r.clock.0 (cost_to q) (charge_of r.header n) in
    outcome (done []) (put r f (cond (eqb q.waiting 0) next (tag_of r f)) (joined q))
    (set s.lengths place n) (set s.handles place handle)

-- 7, 8 and 9 at flow f
abbrev pub joining : State → ℕ → ℕ → Reply
joining s f n = let q = queue_of s.held f in join_reply s.held.flows f n q.largest q.waiting

-- what they and the check before them refuse, in memories of 4,096 places: 2, 7, 8, 9
abbrev pub admit_reply : Record → List ℕ → ℕ → ℕ → Reply
admit_reply r lengths f n = let q = queue_of r f in
    formed_reply (formed r lengths) (join_reply r.flows f n q.largest q.waiting)

-- 1, 2, 7, 8, 9
unfoldable pub arrival_rule : State → ℕ → ℕ → ℕ → Outcome
arrival_rule s f n handle = checked s (unless_refused (joining s f n) s (store_rule s f n handle))
