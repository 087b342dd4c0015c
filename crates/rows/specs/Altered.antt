-- The rules' own outcomes, altered in one thing: a wrong scheduler is the rule but for what it does wrong. Nothing of a
-- rule is said again here.
-- Assumes nothing.
use Rattle.std.specs.Prelude.{List, ℕ, ◌+◌, get_or}
use Rattle.reply.specs.Reply.{Reply, idle, done, refused}
use Rattle.uplink.specs.declared.Record.{Record}
use Rattle.uplink.specs.Flow.{flow_of}
use Rattle.uplink.specs.Record.{flow_at, put, moved, record_of}
use Rattle.reply.specs.State.{outcome, state}
use Rattle.uplink.specs.State.{State, Outcome}
use Rattle.uplink.specs.Pick.{pick_rule}

-- by what a reply is: Idle, done with values, or refused
abbrev by_reply : {A : Type 0} → Reply → A → (List ℕ → A) → A → A
by_reply idle when_idle when_done when_refused = when_idle
by_reply (done values) when_idle when_done when_refused = when_done values
by_reply (refused number flow) when_idle when_done when_refused = when_refused

-- the outcome with another record
abbrev holding : (Record → Record) → Outcome → Outcome
holding alter o = outcome o.reply (alter o.state.held) o.state.lengths o.state.handles

-- the outcome with another record where it is done
abbrev pub when_done : (Record → Record) → Outcome → Outcome
when_done alter o = by_reply o.reply o (λ values. holding alter o) o

-- the outcome with another record where it is Idle
abbrev pub when_idle : (Record → Record) → Outcome → Outcome
when_idle alter o = by_reply o.reply (holding alter o) (λ values. o) o

-- the rule's pick, but that where it takes a flow, the first value of its reply, another step is made there
abbrev pub when_picked : (State → ℕ → Outcome) → State → Outcome
when_picked step s = by_reply (pick_rule s).reply (pick_rule s) (λ values. step s (get_or values 0 0)) (pick_rule s)

-- the record with another tag at flow f
abbrev pub retagged : ℕ → ℕ → Record → Record
retagged f tag r = put r f (flow_of tag (flow_at r f).queue)

-- the record with another leap width
abbrev pub widened : Record → ℕ → Record
widened r width =
    record_of r.flows r.header width r.clock.0 r.link.0 r.tags.0 r.queues.share
    r.queues.largest r.queues.first r.queues.waiting r.turn

-- the state with another record
abbrev pub reheld : State → Record → State
reheld s r = state r s.lengths s.handles

-- the state with the clock Δ further on
abbrev pub leaping : State → State
leaping s = let r = s.held in reheld s (moved r (r.clock.0 + r.width) r.link.0)
