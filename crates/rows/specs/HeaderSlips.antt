-- Wrong ways to count document 02 a)'s header, each the rule's own outcome with one thing altered, and a named input at
-- which it leaves the rule: document 01's table of two flows with a header of 12.
-- Assumes nothing.
use Rattle.std.specs.Prelude.{◌≡◌, refl, cond, List, ◌++◌, ℕ, ◌-◌, ltb, eqb}
use Rattle.below.specs.Truth.{apart}
use Rattle.cost.specs.Charge.{charge_of, link_ticks}
use Rattle.reply.specs.Reply.{reply_number}
use Rattle.queues.specs.Queues.{width_of}
use Rattle.tags.specs.Ticks.{front_tag}
use Rattle.uplink.specs.Flow.{flow_cost}
use Rattle.uplink.specs.Record.{flow_at, tag_of, waiting_of, moved}
use Rattle.reply.specs.State.{kept}
use Rattle.uplink.specs.State.{State, Outcome}
use Rattle.uplink.specs.Opening.{opening_rule}
use Rattle.uplink.specs.Arrival.{arrival_rule}
use Rattle.uplink.specs.Pick.{serve_rule, pick_rule}
use Rattle.uplink.specs.Calls.{start, every_rule}
use Rattle.rows.specs.Script.{run}
use Rattle.rows.specs.Examples.{pair, opened_with, one_each}
use Rattle.rows.specs.Altered.{retagged, widened, when_done, when_picked}

-- two flows of share 500 and largest packet 100, with a header of 12: nothing waits, and one packet each
unfoldable pub headed : State
unfolding run
headed = run start (opened_with 12)

unfoldable pub headed_wait : State
unfolding run
headed_wait = run start (opened_with 12 ++ one_each)

-- charged in the tag but not in the clock: both clocks of the record go on by 720 × the packet's own bytes
abbrev pub clock_without_header : State → Outcome
clock_without_header =
    when_picked
    (λ s f. let unpaid = link_ticks s.held.header in
    when_done (λ r. moved r (r.clock.0 - unpaid) (r.link.0 - unpaid)) (serve_rule s f))

-- the clock is 80,640 after the first pick, and it says 72,000
pub clock_without_header_differs : clock_without_header headed_wait ≡ pick_rule headed_wait → ⊥
unfolding headed_wait
clock_without_header_differs = apart (λ o. o.state.held.clock.0) _ _ refl

-- charged in both but left out of Δ
abbrev pub width_without_header : List ℕ → List ℕ → ℕ → List ℕ → List ℕ → Outcome
width_without_header shares largest header lengths handles =
    when_done (λ r. widened r (width_of 0 r.queues r.flows)) (opening_rule shares largest header lengths handles)

-- Δ is 161,280, and it says 144,000
pub width_without_header_differs :
    width_without_header (pair 500 500) (pair 100 100) 12 start.lengths start.handles
    ≡ opening_rule (pair 500 500) (pair 100 100) 12 start.lengths start.handles → ⊥
unfolding every_rule
width_without_header_differs = apart (λ o. o.state.held.width) _ _ refl

-- charged twice: the tag of a packet at an empty flow counts the header of a packet that has one already
abbrev pub charged_twice : State → ℕ → ℕ → ℕ → Outcome
charged_twice s f n handle =
    let r = s.held in
    let twice = charge_of r.header (charge_of r.header n) in
    cond (eqb (waiting_of r f) 0)
    (when_done (retagged f (front_tag (tag_of r f) r.clock.0 (flow_cost (flow_at r f)) twice)) (arrival_rule s f n handle))
    (arrival_rule s f n handle)

-- the tag of 100 bytes is 112 × 1,440, and it says 124 × 1,440
pub charged_twice_differs : charged_twice headed 0 100 7 ≡ arrival_rule headed 0 100 7 → ⊥
unfolding headed
charged_twice_differs = apart (λ o. tag_of o.state.held 0) _ _ refl

-- counted against the flow's largest packet: 8 where the charge is over it
abbrev pub charge_against_largest : State → ℕ → ℕ → ℕ → Outcome
charge_against_largest s f n handle =
    cond (ltb (flow_at s.held f).queue.largest (charge_of s.held.header n)) (kept 8 s) (arrival_rule s f n handle)

-- 100 bytes are taken, and it refuses them
pub charge_against_largest_differs : charge_against_largest headed 0 100 7 ≡ arrival_rule headed 0 100 7 → ⊥
unfolding headed
charge_against_largest_differs = apart (λ o. reply_number o.reply) _ _ refl
