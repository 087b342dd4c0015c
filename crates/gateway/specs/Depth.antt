-- The rule of a depth, how many packets wait in a flow: include/uplink.h, `uplink_depth`.
-- Assumes nothing.
use Rattle.std.specs.Prelude.{cond, ◌&&◌, List, [], ◌∷◌, ℕ, ltb, Result, Ok, Err}
use Rattle.reply.specs.Reply.{Reply, done, refused, refusal}
use Rattle.reply.specs.declared.Refusal.{Refusal}
use Rattle.queues.specs.Form.{counts}
use Rattle.uplink.specs.Flow.{Flow}
use Rattle.uplink.specs.Record.{flow_at}
use Rattle.uplink.specs.State.{State, Outcome}
use Rattle.uplink.specs.declared.Record.{Record}

-- "the number of packets that wait in the flow, its share, its largest packet and its tag, in this order"
abbrev pub depth_of : Flow → Reply
depth_of w = done (w.queue.waiting ∷ w.queue.share ∷ w.queue.largest ∷ w.tag.0 ∷ [])

-- 7: "the flow number is not below the number of flows"; "A flow of 64 or more is no such flow"
abbrev pub depth_reply : Record → ℕ → Reply
depth_reply r f = cond (counts r.flows f && ltb f 64) (depth_of (flow_at r f)) (refused 7 0)

-- the values, or why there are none
abbrev pub values_reply : Result (List ℕ) Refusal → Reply
values_reply (Ok values) = done values
values_reply (Err why) = refusal why

-- "The record is only looked at"
abbrev pub depth_rule : State → ℕ → Outcome
depth_rule s f = record { reply = depth_reply s.held f; state = s }
