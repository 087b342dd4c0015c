-- Demand 3, the shares, and what stands with it: for every run from an accepted opening (`Carried`), whichever flow of
-- smallest tag a pick takes (`Gives`). `Rule` says the same of document 01's own pick. All words are those of `Runs`:
-- W is `picked`, S is `picked_of f`, Δ is `width`. W and S count charges, each packet's length plus the header (02 a).
-- Assumes nothing.
use Rattle.std.specs.Prelude.{◌≡◌, refl, true, List, [], ◌∷◌, ℕ, ◌+◌, ◌*◌, ◌≤◌, ◌<◌}
use Rattle.std.proofs.Common.{ap, arith}
use Rattle.reply.specs.Reply.{done, refused, reply_number}
use Rattle.uplink.specs.Flow.{flow_cost}
use Rattle.uplink.specs.Record.{flow_at, tag_of, waiting_of}
use Rattle.uplink.specs.State.{State, Outcome}
use Rattle.uplink.specs.Pick.{clock_limit}
use Rattle.uplink.specs.Calls.{Call, pick}
use Rattle.shares.specs.Runs.{something_waits, Gives, Event, Stretch, end_of, Carried, Restarted, picked}
use Rattle.shares.specs.Runs.{picked_of, leaps_of, waiting_charge, last_tag, WaitsAtPicks, NeverIdle}
use Rattle.shares.specs.Bridge.{table_of}
use Rattle.shares.specs.Calls.{any_late, call_refused}
use Rattle.shares.specs.Stretches.{carried_steady, share_stretch, fits_stretch, restarted_zeroed, clocks_stretch}
use Rattle.shares.specs.Stretches.{last_stretch}

-- The form is never lost: no carried call is refused with 1 or 2.
pub form_kept : {s : State} → Carried s → (call : Call) (o : Outcome) → Gives s call o
    → (flow : ℕ) → (o.reply ≡ refused 1 flow → ⊥) × (o.reply ≡ refused 2 flow → ⊥)
form_kept {s} c call o gives flow = let late = any_late s (carried_steady c) call o gives in
    (λ e. late.0 (ap reply_number e), λ e. late.1 (ap reply_number e))

-- A carried pick is refused with 10 alone, and that where something waits and the clock is 2^62 or more.
pub refused_ten : {s : State} → Carried s → (o : Outcome) → Gives s pick o → (number flow : ℕ)
    → o.reply ≡ refused number flow → (number ≡ 10) × (something_waits s ≡ true) × (clock_limit ≤ s.held.clock.0)
refused_ten {s} c o gives = call_refused s (carried_steady c) pick o tt gives refl

-- No picked packet leaves the server clock above its tag.
abbrev pub ClockInTime : State → Type 0
ClockInTime s = (o : Outcome) → Gives s pick o → (flow length handle tag leapt clock : ℕ)
    → o.reply ≡ done (flow ∷ length ∷ handle ∷ tag ∷ leapt ∷ clock ∷ []) → clock ≤ tag

-- Demand 3, sharper, over every stretch at whose every pick flow f has a packet waiting. n is the charge of its front
-- packet at the end, 0 where none waits: 720 × (W + n) ≤ (S + n) × cost + 2Δ, and so ≤ S × cost + 3Δ.
-- Of the other flows nothing is asked.
pub share_with_front : {s : State} → Carried s → (f : ℕ) → f < s.held.flows
    → (stretch : List Event) → Stretch s stretch → WaitsAtPicks f s stretch
    → let n = waiting_charge (end_of s stretch) f in
    let cost = flow_cost (flow_at s.held f) in
    (720 * (picked stretch + n) ≤ (picked_of f stretch + n) * cost + 2 * s.held.width)
    × (720 * (picked stretch + n) ≤ picked_of f stretch * cost + 3 * s.held.width)
share_with_front {s} c f l stretch run waits = let S = carried_steady c in
    omega (
      arith,
      share_stretch (table_of s) f l s stretch S refl run waits,
      fits_stretch (table_of s) f l s stretch S refl run,
    )

-- Demand 3: 720 × W ≤ S × cost + 3Δ, over every stretch at whose every pick flow f has a packet waiting.
-- Of the other flows nothing is asked.
abbrev pub Share : State → Type 0
Share s = (f : ℕ) → f < s.held.flows
    → (stretch : List Event) → Stretch s stretch → WaitsAtPicks f s stretch
    → 720 * picked stretch ≤ picked_of f stretch * flow_cost (flow_at s.held f) + 3 * s.held.width

-- The clocks, since the opening or the last Idle:
-- clock = link time + Δ × number of leaps, and link time = 720 × the charges picked.
pub clocks : {s : State} → Restarted s → (stretch : List Event) → Stretch s stretch → NeverIdle stretch
    → let r = (end_of s stretch).held in
    (r.clock.0 ≡ r.link.0 + s.held.width * leaps_of stretch) × (r.link.0 ≡ 720 * picked stretch)
clocks {s} r stretch run never = let start = restarted_zeroed r in
    omega (arith, start.1.clock, start.1.link, clocks_stretch s stretch start.0 run never)

-- "The tag of a flow with nothing waiting is that of its last packet picked, or 0": since the opening or the last Idle.
pub last_tag_lem : {s : State} → Restarted s → (stretch : List Event) → Stretch s stretch → NeverIdle stretch
    → let r = (end_of s stretch).held in (f : ℕ) → waiting_of r f ≡ 0 → tag_of r f ≡ last_tag f stretch
last_tag_lem {s} r stretch run never = let start = restarted_zeroed r in
    last_stretch s stretch start.0 run never (λ f. 0) (λ f _. start.1.tags f)
