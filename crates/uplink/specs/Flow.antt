-- One flow, as the rules speak of it: its tag and its queue; and the flow after an arrival, after a pick and at Idle.
-- Document 01, "The record" and "The three calls".
-- Assumes nothing.
use Rattle.std.specs.Prelude.{Bool, cond, ◌&&◌, ℕ, ltb, eqb}
use Rattle.queues.specs.Queue.{Queue, no_queue, cost_to, joined, left}
use Rattle.queues.specs.Form.{spare_queue}
use Rattle.tags.specs.Ticks.{ticks, front_tag}
use Rattle.tags.specs.declared.ServerTicks.{ServerTicks}

-- "The tag of a flow that waits belongs to its front packet. The tag of a flow with nothing waiting is that of its last
-- packet picked, or 0."
pub record Flow : Type 0 where
  pub tag : ServerTicks
  pub queue : Queue

abbrev pub flow_of : ℕ → Queue → Flow
flow_of tag queue = record { tag = ticks tag; queue = queue }

-- a flow that is not in the table: all fields are 0
abbrev pub no_flow : Flow
no_flow = flow_of 0 no_queue

-- what a byte costs a flow
abbrev pub flow_cost : Flow → ℕ
flow_cost w = cost_to w.queue

-- "all fields .. are 0"
unfoldable pub spare_flow : Flow → Bool
spare_flow w = eqb w.tag.0 0 && spare_queue w.queue

-- Arrival: "If the flow was empty, its tag becomes .. Otherwise no tag changes.", by the packet's charge
unfoldable pub joined_flow : Flow → ServerTicks → ℕ → ℕ → Flow
joined_flow w clock cost charge =
    flow_of (cond (eqb w.queue.waiting 0) (front_tag w.tag.0 clock.0 cost charge) w.tag.0)
    (joined w.queue)

-- Pick, step 5: "If the flow still waits, its tag becomes .. Otherwise its tag stays T.", by the next packet's charge
unfoldable pub served_flow : Flow → ServerTicks → ℕ → ℕ → Flow
served_flow w clock cost charge =
    flow_of (cond (ltb 1 w.queue.waiting) (front_tag w.tag.0 clock.0 cost charge) w.tag.0)
    (left w.queue)

-- Pick, step 1: all tags become 0
abbrev pub untagged : Flow → Flow
untagged w = flow_of 0 w.queue
