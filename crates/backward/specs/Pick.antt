-- The rule of a pick: document 01, Pick, steps 1 to 5, and the order of its refusals: 1, 2, Idle, 10; step 3 as
-- document 02 c) has it. Two steps of ours: choose and leap (01's 2 and 3), then advance and free (01's 4 and 5).
-- Assumes nothing.
use Rattle.std.specs.Prelude.{Bool, cond, ℕ, ◌+◌, ltb, set}
use Rattle.cost.specs.Charge.{charge_of, link_ticks}
use Rattle.reply.specs.Reply.{idle, packet}
use Rattle.reply.specs.State.{state, outcome, demand}
use Rattle.queues.specs.Queue.{place_of, cost_to, left}
use Rattle.queues.specs.Places.{freed_of}
use Rattle.tags.specs.Ticks.{leaps}
use Rattle.tags.specs.Choice.{lead_by, turn_after}
use Rattle.tags.specs.Choice.{Lead}
use Rattle.signs.specs.Tags.{natural, front_tag}
use Rattle.uplink.specs.Pick.{clock_limit}
use Rattle.backward.specs.Record.{tag_of, queue_of, waiting_of, put, moved, turned, lowered, rested}
use Rattle.backward.specs.State.{State, Outcome}
use Rattle.backward.specs.Form.{checked}
use Rattle.backward.specs.declared.Record.{Record}

-- step 2: who leads among the flows that count, of equal tags by the turn (02 e). The tag of a flow that waits is no
-- less than the clock, so it is a natural number
abbrev pub lead_of : Record → Lead
lead_of r = lead_by r.turn (λ f. natural (tag_of r f)) (waiting_of r) r.flows

-- step 3, at flow f: "If T is greater than clock + 2Δ"
abbrev pub leapt : Record → ℕ → Bool
leapt r f = leaps r.clock.0 r.width (natural (tag_of r f))

-- choose and leap: the record with flow f chosen, the turn being "one past the last flow picked" (02 e), and after the
-- leap or without one
abbrev pub chosen_record : Record → ℕ → Record
chosen_record r f = turned r (turn_after f)

abbrev pub leapt_record : Record → ℕ → Record
leapt_record r f = cond (leapt r f) (lowered (chosen_record r f)) (chosen_record r f)

-- the packet that goes, and what is left when it has gone
pub record Served : Type 0 where
  pub length : ℕ
  pub handle : ℕ
  pub state : State

abbrev pub served : ℕ → ℕ → State → Served
served length handle state = record { length = length; handle = handle; state = state }

-- advance and free, at flow f: "Add 720 × n to clock and link time", "The freed place becomes 0 in both memories; first
-- goes on by one", "If the flow still waits, its tag becomes the larger of T and clock, plus next length × cost, with
-- the clock after step 4. Otherwise its tag stays T."
unfoldable pub served_rule : State → ℕ → Served
served_rule s f =
    let r = s.held in
    let q = queue_of r f in
    let place = place_of f q.first 0 in
    let gone = freed_of f q.first s.lengths s.handles in
    let sent = link_ticks (charge_of r.header gone.length) in
    let clock = r.clock.0 + sent in
    let next = front_tag (tag_of r f) clock (cost_to q) (charge_of r.header gone.behind) in
    served gone.length gone.handle
    (state (put (moved r clock (r.link.0 + sent)) f (cond (ltb 1 q.waiting) next (tag_of r f)) (left q))
    (set s.lengths place 0) (set s.handles place 0))

-- steps 3 to 5 at flow f; the tag is told as it is after the leap
unfoldable pub serve_rule : State → ℕ → Outcome
serve_rule s f =
    let r = leapt_record s.held f in
    let gone = served_rule (state r s.lengths s.handles) f in
    record {
      reply = packet f gone.length gone.handle (natural (tag_of r f)) (leapt s.held f)
          gone.state.held.clock.0;
      state = gone.state;
    }

-- step 1: nothing waits
unfoldable pub idle_rule : State → Outcome
idle_rule s = outcome idle (rested s.held) s.lengths s.handles

-- Idle and 10, by clock and sum together; then step 2
unfoldable pub choose_rule : State → Outcome
choose_rule s =
    let lead = lead_of s.held in
    let clock = s.held.clock.0 + s.held.sum.0 in
    cond lead.waits (demand (ltb clock clock_limit) 10 s (serve_rule s lead.flow)) (idle_rule s)

-- 1, 2, Idle, 10
unfoldable pub pick_rule : State → Outcome
pick_rule s = checked s (choose_rule s)
