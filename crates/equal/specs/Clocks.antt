-- The plain engine's clock and sum: since the opening or the last Idle the clock is what the link has sent, and the sum
-- is Δ × the number of leaps.
-- Assumes nothing.
use Rattle.std.specs.Prelude.{◌≡◌, refl, List, [], ◌∷◌, ℕ, ◌+◌, ◌*◌, get_or, set}
use Rattle.std.proofs.Common.{sym, ap, ◌∙◌, subst, arith, get_or-set_other}
use Rattle.reply.specs.Reply.{Reply, idle, done, refused}
use Rattle.reply.specs.Replies.{idle_done}
use Rattle.uplink.specs.State as first
use Rattle.uplink.specs.Pick as first_pick
use Rattle.uplink.specs.Calls.{Call, pick}
use Rattle.shares.specs.Runs as first_runs
use Rattle.shares.specs.Runs.{NoOpening, charge_told, value_in}
use Rattle.shares.specs.Rule.{rule_taken, rule_clocks}
use Rattle.backward.specs.State.{State}
use Rattle.backward.specs.Calls.{after_call}
use Rattle.equal.specs.Raised.{raised_state, raised_reply}
use Rattle.equal.specs.Same.{same_opening, same_call}
use Rattle.equal.specs.Sound.{Sound, sound_opening, sound_call}
use Rattle.equal.specs.Runs.{Event, run_of, end_of, raised_run, Restarted, picked, leaps_of, NeverIdle}
use Rattle.equal.specs.Equal.{same_run, sound_end, raised_end}
use Rattle.equal.specs.Promises.{carried_sound, carried_raised, opened_raised, told_stays, total_raised}

-- the sum makes no reply Idle
idle_of : (sum : ℕ) (reply : Reply) → raised_reply sum reply ≡ idle → reply ≡ idle
idle_of sum idle e = refl
idle_of sum (done values) e = idle_done (sym e)
idle_of sum (refused number flow) e = e

never_raised : (xs : List Event) → NeverIdle xs → first_runs.NeverIdle (raised_run xs)
never_raised [] never = tt
never_raised (x ∷ xs) never =
    (λ e. never.0 (idle_of x.outcome.state.held.sum.0 x.outcome.reply e), never_raised xs never.1)

-- nor a leap
leap_stays : (header sum : ℕ) (reply : Reply) → value_in 4 (raised_reply sum reply) ≡ value_in 4 reply
leap_stays header sum idle = refl
leap_stays header sum (refused number flow) = refl
leap_stays header sum (done values) =
    get_or-set_other (set values 3 (get_or values 3 0 + sum)) 5 4 (get_or values 5 0 + sum) 0 (λ e. omega arith)
    ∙ get_or-set_other values 3 4 (get_or values 3 0 + sum) 0 (λ e. omega arith)

-- where the plain clocks start the first engine's do
restarted_sound : {s : State} → Restarted s → Sound s.held
restarted_sound (Restarted.opened s shares largest header e) = sound_opening s shares largest header
restarted_sound (Restarted.idled s c e) = sound_call s (carried_sound c) pick

restarted_raised : {s : State} → Restarted s → first_runs.Restarted (raised_state s)
restarted_raised (Restarted.opened s shares largest header e) =
    subst (λ (o : first.Outcome). first_runs.Restarted o.state) (same_opening s shares largest header)
    (first_runs.Restarted.opened (raised_state s) shares largest header (opened_raised s shares largest header e))
restarted_raised (Restarted.idled s c e) =
    let same = same_call s (carried_sound c).wide pick in
    let sum = (after_call s pick).state.held.sum.0 in
    subst (λ (o : first.Outcome). first_runs.Restarted o.state) same
    (first_runs.Restarted.idled (raised_state s) (first_pick.pick_rule (raised_state s)) (carried_raised c)
    (rule_taken (raised_state s)) (ap (λ (o : first.Outcome). o.reply) same ∙ ap (raised_reply sum) e))

-- The clock is 720 × the charges picked, and the sum Δ × the number of leaps.
pub plain_clocks : {s : State} → Restarted s → (calls : List Call) → NoOpening calls → NeverIdle (run_of s calls)
    → let r = (end_of s calls).held in
    (r.clock.0 ≡ 720 * picked (run_of s calls)) × (r.sum.0 ≡ s.held.width * leaps_of (run_of s calls))
plain_clocks {s} start calls plain never =
    let S = restarted_sound start in
    let same = same_run s S calls in
    let clocks = rule_clocks (restarted_raised start) calls plain
    (subst first_runs.NeverIdle (sym same) (never_raised (run_of s calls) never)) in
    let end = ap (first_runs.end_of (raised_state s)) same ∙ raised_end s calls in
    let W = ap first_runs.picked same ∙ total_raised charge_told told_stays (run_of s calls) in
    let leaps = ap first_runs.leaps_of same
    ∙ total_raised (λ header reply. value_in 4 reply) leap_stays (run_of s calls) in
    omega (
      arith,
      clocks,
      W,
      ap (λ n. s.held.width * n) leaps,
      ap (λ (t : first.State). t.held.clock.0) end,
      ap (λ (t : first.State). t.held.link.0) end,
      (sound_end s S calls).even,
    )
