-- Document 02 b): "Two groups that both wait", and what stands behind it, for every run from an accepted opening
-- (`Carried`), whichever flow of smallest tag a pick takes (`Gives`). `Rule` says the same of document 01's own pick.
-- All words are those of `Runs`: `figure_of` is a flow's charges picked × its own cost, `start_of` its start.
-- Assumes nothing.
use Rattle.std.specs.Prelude.{◌≡◌, refl, Bool, true, false, cond, List, [], ◌∷◌, ℕ, ◌+◌, ◌-◌, ◌*◌, ◌/◌, max, ◌≤◌, ◌<◌, eqb}
use Rattle.std.proofs.Common.{ap, arith, eq-eqb, ne_eqb}
use Rattle.std.proofs.Math.Decide.{ℕ_discrete}
use Rattle.reply.specs.Reply.{Reply, idle, done, refused}
use Rattle.uplink.specs.Flow.{flow_cost}
use Rattle.uplink.specs.Record.{flow_at, waiting_of}
use Rattle.uplink.specs.State.{State, Outcome}
use Rattle.uplink.specs.Calls.{pick}
use Rattle.shares.specs.Runs.{Gives, Event, Stretch, end_of, Carried, charge_in, charge_for, picked_of, picks_of}
use Rattle.shares.specs.Runs.{of_packet, figure_of, waiting_charge, start_of, WaitsAtPicks}
use Rattle.shares.specs.Keep.{Table, in_time, level_all}
use Rattle.shares.specs.Bridge.{Steady, clock_of, table_of, view_of, charge_idle, charge_waits, charge_some}
use Rattle.shares.specs.Bridge.{waits_charge, table_sound}
use Rattle.shares.specs.Calls.{call_counts, call_clocks}
use Rattle.shares.specs.Stretches.{carried_steady, kept_stretch, overdraw_stretch, still_stretch, busy_stretch}
use Rattle.shares.specs.Stretches.{fits_stretch, clocks_stretch}
use Rattle.shares.specs.Shares.{share_with_front}

-- a start in the words of the view: no tag that waits is below the clock
start_is : (s : State) → Steady s → (f : ℕ) → f < s.held.flows
    → start_of s f ≡ max ((view_of s).tag f) (clock_of s) - (view_of s).charge f * (table_of s).cost f
unfolding start_of
start_is s S f l = elim (ℕ_discrete (waiting_of s.held f) 0)
    as (λ _. start_of s f ≡ max ((view_of s).tag f) (clock_of s) - (view_of s).charge f * (table_of s).cost f) [
      | yes q ↦ rw (eq-eqb _ 0 q, charge_idle s f q) (omega arith)
      | no q ↦ let w : 0 < waiting_of s.held f = omega arith in
          let some = charge_some s f (S.form.each f l).queue w in
          rw (ne_eqb (waiting_of s.held f) 0 q, ← (charge_waits s f w))
          (omega (arith, in_time (table_sound s S.form) (clock_of s) f S.good l some))
    ]

-- Nobody is far ahead: the start of flow f ≤ the start of flow g + 2Δ, for any two flows.
pub nobody_ahead : {s : State} → Carried s → (f g : ℕ) → f < s.held.flows → g < s.held.flows
    → start_of s f ≤ start_of s g + 2 * s.held.width
nobody_ahead {s} c f g l m = let S = carried_steady c in
    omega (arith, start_is s S f l, start_is s S g m, level_all (clock_of s) S.good f g l m)

module _ {s : State} (c : Carried s) (f g : ℕ) (l : f < s.held.flows) (m : g < s.held.flows)
    (stretch : List Event) (run : Stretch s stretch) (waits : WaitsAtPicks f s stretch) where
  -- Nobody overdraws, over every stretch at whose every pick flow f has a packet waiting, whatever flow g does.
  -- n is the charge of flow f's front packet at the end, 0 where none waits: the figure of flow g is at most that of
  -- flow f + n × flow f's cost + 2Δ, and so at most that of flow f + 3Δ.
  pub nobody_overdraws : let n = waiting_charge (end_of s stretch) f in
      (figure_of g s stretch ≤ figure_of f s stretch + n * flow_cost (flow_at s.held f) + 2 * s.held.width)
      × (figure_of g s stretch ≤ figure_of f s stretch + 3 * s.held.width)
  nobody_overdraws = let S = carried_steady c in
      omega (
        arith,
        overdraw_stretch (table_of s) f l g m s stretch S refl run waits,
        fits_stretch (table_of s) f l s stretch S refl run,
      )

-- "For two flows that both have a packet waiting at every pick of a stretch ... the two figures ... differ by at most
-- 6Δ", and in fact by at most 3Δ, either way.
pub both_wait_lem : {s : State} → Carried s → (f g : ℕ) → f < s.held.flows → g < s.held.flows
    → (stretch : List Event) → Stretch s stretch → WaitsAtPicks f s stretch → WaitsAtPicks g s stretch
    → let F = figure_of f s stretch in
    let G = figure_of g s stretch in
    let Δ = s.held.width in
    ((F ≤ G + 6 * Δ) × (G ≤ F + 6 * Δ)) × ((F ≤ G + 3 * Δ) × (G ≤ F + 3 * Δ))
both_wait_lem c f g l m stretch run here there =
    omega (arith, nobody_overdraws c f g l m stretch run here, nobody_overdraws c g f m l stretch run there)

-- where a packet of flow f is told, its charge is the charge of what was picked
told_for : (f all : ℕ) (reply : Reply) → let own = of_packet (λ flow rest. cond (eqb flow f) all 0) reply in
    0 < own → own ≡ all
told_for f all idle some = absurd (omega arith)
told_for f all (refused number flow) some = absurd (omega arith)
told_for f all (done []) some = absurd (omega arith)
told_for f all (done (flow ∷ rest)) some = go (eqb flow f) some
  where
    go : (b : Bool) → 0 < cond b all 0 → cond b all 0 ≡ all
    go true some = refl
    go false some = absurd (omega arith)

-- A front packet leaves in time. In s flow f has a packet waiting: s is the state after the call that brought its front
-- packet there, an arrival at the empty flow or the pick of the packet before it, or any later one with it in front.
module _ {s : State} (c : Carried s) (f : ℕ) (l : f < s.held.flows) (waits : 0 < waiting_of s.held f)
    (stretch : List Event) (run : Stretch s stretch) where
  -- as long as nothing of flow f is picked it waits at every pick, and at the end
  front_still : picked_of f stretch ≡ 0 → WaitsAtPicks f s stretch × (0 < waiting_charge (end_of s stretch) f)
  front_still = let S = carried_steady c in
      still_stretch (table_of s) f l s stretch S refl run (charge_some s f (S.form.each f l).queue waits)

  -- While it still waits, link time and the ticks of its own charge n have grown by at most n × cost + 2Δ, so by 3Δ.
  pub front_waits : picked_of f stretch ≡ 0 → let n = waiting_charge (end_of s stretch) f in
      let grown = (end_of s stretch).held.link.0 + 720 * n in
      (grown ≤ s.held.link.0 + n * flow_cost (flow_at s.held f) + 2 * s.held.width)
      × (grown ≤ s.held.link.0 + 3 * s.held.width)
  front_waits none = let S = carried_steady c in
      let still = (front_still none).0 in
      let busy = busy_stretch (table_of s) f l s stretch S refl run still in
      omega (
        arith,
        ap (λ (b : ℕ). b * flow_cost (flow_at s.held f)) none,
        share_with_front c f l stretch run still,
        clocks_stretch s stretch S run busy.0,
      )

  -- When it has left, link time has grown by at most 3Δ, its own charge included.
  pub front_leaves : picked_of f stretch ≡ 0 → (o : Outcome) → Gives (end_of s stretch) pick o → 0 < charge_for f o
      → o.state.held.link.0 ≤ s.held.link.0 + 3 * s.held.width
  front_leaves none o gives left =
      let end = end_of s stretch in
      let kept = kept_stretch s stretch (carried_steady c) run in
      let here : f < end.held.flows = rw (ap (λ (Y : Table). Y.size) kept.1) l in
      let still = waits_charge end f (front_still none).1 in
      let counts = call_counts end kept.0 pick o tt gives f here (λ _. still) in
      omega (
        arith,
        front_waits none,
        (counts.moves f).had,
        told_for f (charge_in o) o.reply left,
        (call_clocks end kept.0 pick o tt gives counts.busy).link,
      )

  -- It has left after at most 3Δ / 720 picks that were not refused.
  pub front_turns : 3 * s.held.width / 720 ≤ picks_of stretch → 0 < picked_of f stretch
  front_turns many = elim (ℕ_discrete (picked_of f stretch) 0) as (λ _. 0 < picked_of f stretch) [
    | yes none ↦ let still = front_still none in
        let busy = busy_stretch (table_of s) f l s stretch (carried_steady c) refl run still.0 in
        absurd (omega (
          arith,
          ap (λ (b : ℕ). b * flow_cost (flow_at s.held f)) none,
          (share_with_front c f l stretch run still.0).1,
          still.1,
          busy.1,
        ))
    | no some ↦ omega arith
  ]
