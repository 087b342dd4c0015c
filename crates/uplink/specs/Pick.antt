-- The rule of a pick: document 01, Pick, steps 1 to 5, and the order of its refusals: 1, 2, Idle, 10.
-- It has two steps of ours: choose and leap (01's 2 and 3), then advance and free (01's 4 and 5).
-- Assumes nothing.
use Rattle.std.specs.Prelude.{Bool, cond, ℕ, ◌+◌, ◌^◌, ltb, get_or, set}
use Rattle.cost.specs.Charge.{charge_of, link_ticks}
use Rattle.reply.specs.Reply.{idle, packet}
use Rattle.queues.specs.Queue.{place_of}
use Rattle.tags.specs.Ticks.{ticks, leaps, leap_clock}
use Rattle.tags.specs.Choice.{lead_by, turn_after}
use Rattle.tags.specs.Choice.{Lead}
use Rattle.uplink.specs.Flow.{served_flow, flow_cost}
use Rattle.uplink.specs.Record.{flow_at, tag_of, waiting_of, moved, turned, put, rested}
use Rattle.reply.specs.State.{state, outcome, demand}
use Rattle.uplink.specs.State.{State, Outcome}
use Rattle.uplink.specs.Form.{checked}
use Rattle.uplink.specs.declared.Record.{Record}

-- 10: "something waits and the clock is 2^62 or more"
abbrev pub clock_limit : ℕ
clock_limit = 2 ^ 62

-- step 2: who leads among the flows that count, of equal tags by the turn (02 e)
abbrev pub lead_of : Record → Lead
lead_of r = lead_by r.turn (tag_of r) (waiting_of r) r.flows

-- step 3, at flow f: whether the clock leaps, and the clock after a leap, or as it was
abbrev pub leapt : Record → ℕ → Bool
leapt r f = leaps r.clock.0 r.width (tag_of r f)

abbrev pub clock_leapt : Record → ℕ → ℕ
clock_leapt r f = leap_clock r.clock.0 r.width (tag_of r f)

-- choose and leap: the state with flow f chosen; the turn is "one past the last flow picked" (02 e)
abbrev pub leapt_state : State → ℕ → State
leapt_state s f =
    state (turned (moved s.held (clock_leapt s.held f) s.held.link.0) (turn_after f)) s.lengths
    s.handles

-- the place, length and handle of flow f's front packet, and the length of the one behind it
abbrev pub front_place : State → ℕ → ℕ
front_place s f = place_of f (flow_at s.held f).queue.first 0

abbrev pub front_length : State → ℕ → ℕ
front_length s f = get_or s.lengths (front_place s f) 0

abbrev pub front_handle : State → ℕ → ℕ
front_handle s f = get_or s.handles (front_place s f) 0

abbrev pub behind_length : State → ℕ → ℕ
behind_length s f = get_or s.lengths (place_of f (flow_at s.held f).queue.first 1) 0

-- what the two are charged
abbrev pub front_charge : State → ℕ → ℕ
front_charge s f = charge_of s.held.header (front_length s f)

abbrev pub behind_charge : State → ℕ → ℕ
behind_charge s f = charge_of s.held.header (behind_length s f)

-- step 4: "Add 720 × n to clock and link time", n being the packet's charge (02 a)
abbrev pub clock_on : State → ℕ → ℕ
clock_on s f = s.held.clock.0 + link_ticks (front_charge s f)

abbrev pub link_on : State → ℕ → ℕ
link_on s f = s.held.link.0 + link_ticks (front_charge s f)

-- advance and free: the state after flow f's front packet; "The freed place becomes 0 in both memories"
abbrev pub advanced_state : State → ℕ → State
advanced_state s f =
    let w = flow_at s.held f in
    state
    (put (moved s.held (clock_on s f) (link_on s f)) f
    (served_flow w (ticks (clock_on s f)) (flow_cost w) (behind_charge s f)))
    (set s.lengths (front_place s f) 0)
    (set s.handles (front_place s f) 0)

-- the clock after the pick of flow f
abbrev pub clock_after : State → ℕ → ℕ
clock_after s f = clock_on (leapt_state s f) f

-- steps 3 to 5 at flow f
unfoldable pub serve_rule : State → ℕ → Outcome
serve_rule s f =
    record {
      reply = packet f (front_length s f) (front_handle s f) (tag_of s.held f) (leapt s.held f) (clock_after s f);
      state = advanced_state (leapt_state s f) f;
    }

-- step 1: nothing waits
unfoldable pub idle_rule : State → Outcome
idle_rule s = outcome idle (rested s.held) s.lengths s.handles

-- Idle and 10, then step 2
unfoldable pub choose_rule : State → Outcome
choose_rule s =
    let lead = lead_of s.held in
    cond lead.waits (demand (ltb s.held.clock.0 clock_limit) 10 s (serve_rule s lead.flow)) (idle_rule s)

-- 1, 2, Idle, 10
abbrev pub pick_rule : State → Outcome
pick_rule s = checked s (choose_rule s)
