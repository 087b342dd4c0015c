-- "Slips we have seen" of document 01, each written as a definition, and a named input at which it leaves the rule.
-- Assumes nothing.
use Rattle.std.specs.Prelude.{◌≡◌, refl, Bool, true, false, cond, ℕ, ◌+◌, ◌*◌, ◌/◌, min, ◌≤◌, eqb}
use Rattle.std.proofs.Common.{arith, le-ltb}
use Rattle.std.proofs.lemmas.Bool.{eqb-false}
use Rattle.below.specs.Truth.{apart}
use Rattle.cost.specs.Cost.{cost_of}
use Rattle.cost.specs.Charge.{charge_of}
use Rattle.tags.specs.Ticks.{leaps, leap_clock, front_tag}
use Rattle.uplink.specs.Flow.{flow_cost}
use Rattle.uplink.specs.Record.{flow_at, tag_of, waiting_of, moved, with}
use Rattle.uplink.specs.State.{State, Outcome}
use Rattle.uplink.specs.Arrival.{arrival_rule}
use Rattle.uplink.specs.Pick.{serve_rule, pick_rule}
use Rattle.rows.specs.Examples.{both_wait, none_waits, at_equality, after_leap}
use Rattle.rows.specs.Altered.{leaping, reheld, retagged, when_done, when_idle, when_picked}

-- "Clamping .. a cost", to 16 bits: P9's share of 10
abbrev pub clamped_cost : ℕ → ℕ
clamped_cost q = min (cost_of q) 65535

pub clamped_cost_differs : clamped_cost 10 ≡ cost_of 10 → ⊥
unfolding cost_of
clamped_cost_differs = eqb-false _ _ refl

-- "or rounding down a cost": P9's share of 11
abbrev pub rounded_down_cost : ℕ → ℕ
rounded_down_cost q = 720000 / q

pub rounded_down_cost_differs : rounded_down_cost 11 ≡ cost_of 11 → ⊥
unfolding cost_of
rounded_down_cost_differs = eqb-false _ _ refl

-- "Leaping again until T is close enough": here twice. At clock 0 and Δ 100, T of 301 is far enough for it.
abbrev pub leaps_again : ℕ → ℕ → ℕ → ℕ
leaps_again clock width T = leap_clock (leap_clock clock width T) width T

pub leaps_again_differs : leaps_again 0 100 301 ≡ leap_clock 0 100 301 → ⊥
leaps_again_differs = eqb-false _ _ refl

-- no pick shows this slip: in a well formed record T is at most clock + 3Δ, and one leap is then enough
pub one_leap_enough : (clock width T : ℕ) → T ≤ clock + 3 * width →
    leaps_again clock width T ≡ leap_clock clock width T
one_leap_enough clock width T near = go (leaps clock width T) refl
  where
    go : (far : Bool) → leaps clock width T ≡ far → leaps_again clock width T ≡ leap_clock clock width T
    go true e = rw (e, le-ltb (clock + width + 2 * width) T (omega arith))
    go false e = rw (e, e)

-- "or leaping at equality": at P5's pick
abbrev pub leaps_at_equality : State → Outcome
leaps_at_equality =
    when_picked
    (λ s f. let r = s.held in serve_rule (cond (eqb (tag_of r f) (r.clock.0 + 2 * r.width)) (leaping s) s) f)

pub leaps_at_equality_differs : leaps_at_equality at_equality ≡ pick_rule at_equality → ⊥
unfolding at_equality
leaps_at_equality_differs = apart (λ o. o.state.held.clock.0) _ _ refl

-- "Leaping before looking for nothing waiting, so that Idle keeps a clock": at P4's pick
abbrev pub idle_keeps_clock : State → Outcome
idle_keeps_clock s = when_idle (λ r. moved r s.held.clock.0 0) (pick_rule s)

pub idle_keeps_clock_differs : idle_keeps_clock none_waits ≡ pick_rule none_waits → ⊥
unfolding none_waits
idle_keeps_clock_differs = apart (λ o. o.state.held.clock.0) _ _ refl

-- "Leaving the tags at Idle while the clock goes to 0": at P4's pick
abbrev pub idle_keeps_tags : State → Outcome
idle_keeps_tags s = when_idle (λ r. with r r.clock r.link s.held.tags r.queues r.turn) (pick_rule s)

pub idle_keeps_tags_differs : idle_keeps_tags none_waits ≡ pick_rule none_waits → ⊥
unfolding none_waits
idle_keeps_tags_differs = apart (λ o. tag_of o.state.held 0) _ _ refl

-- "Tagging on arrival behind a waiting packet": a second packet of 100 bytes at flow 0, after P1
abbrev pub tags_behind : State → ℕ → ℕ → ℕ → Outcome
tags_behind s f n handle =
    when_done (retagged f (front_tag (tag_of s.held f) s.held.clock.0 (flow_cost (flow_at s.held f))
    (charge_of s.held.header n)))
    (arrival_rule s f n handle)

pub tags_behind_differs : tags_behind both_wait 0 100 9 ≡ arrival_rule both_wait 0 100 9 → ⊥
unfolding both_wait
tags_behind_differs = apart (λ o. tag_of o.state.held 0) _ _ refl

-- "Restarting an empty flow at the clock and forgetting its higher tag": 100 bytes at flow 0 after P6, as at P8
abbrev pub restarts_at_clock : State → ℕ → ℕ → ℕ → Outcome
restarts_at_clock s f n handle =
    cond (eqb (waiting_of s.held f) 0)
    (arrival_rule (reheld s (retagged f 0 s.held)) f n handle)
    (arrival_rule s f n handle)

pub restarts_at_clock_differs : restarts_at_clock after_leap 0 100 7 ≡ arrival_rule after_leap 0 100 7 → ⊥
unfolding after_leap
restarts_at_clock_differs = apart (λ o. tag_of o.state.held 0) _ _ refl
