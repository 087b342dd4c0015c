-- Over a stretch: what one call keeps and counts, added up.
-- Assumes nothing.
use Rattle.std.specs.Prelude.{◌≡◌, refl, List, [], ◌∷◌, ℕ, ◌+◌, ◌-◌, ◌*◌, max, ◌≤◌, ◌<◌}
use Rattle.std.proofs.Common.{ap, ◌∙◌, mul-le-mul_right, arith}
use Rattle.std.proofs.Math.Decide.{dec_le}
use Rattle.uplink.specs.State.{State}
use Rattle.uplink.specs.Calls.{pick}
use Rattle.shares.specs.Keep.{Table, Good, in_time, level_all}
use Rattle.shares.specs.Start.{Low, behind, behind_more}
use Rattle.shares.specs.Bridge.{flow_of, clock_of, table_of, view_of, IdleTags, Zeroed, Steady, waits_charge}
use Rattle.shares.specs.Bridge.{table_sound}
use Rattle.shares.specs.Opened.{accepted_steady, accepted_zeroed}
use Rattle.shares.specs.Runs.{Gives, Plain, Event, Stretch, end_of, Carried, opened, next, Restarted, idled}
use Rattle.shares.specs.Runs.{charge_for, picked, picked_of, leaps_of, picks_of, waiting_charge, tag_after, last_tag_from}
use Rattle.shares.specs.Runs.{WaitsAtPicks, NeverIdle}
use Rattle.shares.specs.Calls.{Counts, call_keeps, call_counts, call_clocks, call_last, call_idle}

-- every carried state is steady
pub carried_steady : {s : State} → Carried s → Steady s
carried_steady (opened s shares largest header e) = accepted_steady s shares largest header e
carried_steady (next s x c plain gives) = (call_keeps s (carried_steady c) x.call x.outcome plain gives).0

-- a stretch from a carried state ends in one
pub carried_on : {s : State} → Carried s → (xs : List Event) → Stretch s xs → Carried (end_of s xs)
carried_on c [] run = c
carried_on {s} c (x ∷ xs) run = carried_on (next s x c run.0 run.1) xs run.2

-- what is steady stays so over a stretch, and the table stays
pub kept_stretch : (s : State) (xs : List Event) → Steady s → Stretch s xs
    → Steady (end_of s xs) × (table_of (end_of s xs) ≡ table_of s)
kept_stretch s [] S run = (S, refl)
kept_stretch s (x ∷ xs) S run =
    let kept = call_keeps s S x.call x.outcome run.0 run.1 in
    let rest = kept_stretch x.outcome.state xs kept.0 run.2 in (rest.0, rest.1 ∙ kept.1)

module _ (X : Table) (f : ℕ) (l : f < X.size) where
  -- flow f, the backlog and one call, in the numbers of a table that stays
  module _ (s : State) (S : Steady s) (e : table_of s ≡ X) where
    in_table : f < s.held.flows
    in_table = rw (ap (λ (Y : Table). Y.size) e) l

    good_table : Good X (clock_of s) (view_of s)
    good_table = rw e at S.good

    -- one call, where flow f waits if it is a pick: steady and table stay, and what it has to do with the flows
    step_table : (x : Event) → Plain x.call → Gives s x.call x.outcome
        → (x.call ≡ pick → 0 < (flow_of s f).queue.waiting)
        → Steady x.outcome.state × (table_of x.outcome.state ≡ X) × Counts X f s x.outcome
    step_table x plain gives waits =
        let kept = call_keeps s S x.call x.outcome plain gives in
        (kept.0, kept.1 ∙ e, rw e at (call_counts s S x.call x.outcome plain gives f in_table waits))

    -- the start of flow f is at most R
    abbrev LowTable : ℕ → Type 0
    LowTable R = Low R (X.cost f) (clock_of s) ((view_of s).tag f) ((view_of s).charge f)

    -- then the link has room for its front packet by then
    room_table : (R : ℕ) → LowTable R → clock_of s + 720 * waiting_charge s f ≤ R + waiting_charge s f * X.cost f
    room_table R low = elim (dec_le 1 (waiting_charge s f))
        as (λ _. clock_of s + 720 * waiting_charge s f ≤ R + waiting_charge s f * X.cost f) [
          | yes w ↦ omega (arith, in_time (table_sound s S.form) (clock_of s) f S.good in_table w)
          | no w ↦ omega arith
        ]

  -- as far as the start of flow f comes where it is at most R, its front packet at the end counted as picked
  abbrev reach_of : ℕ → State → List Event → ℕ
  reach_of R s xs = R + (picked_of f xs + waiting_charge (end_of s xs) f) * X.cost f

  -- neither the clock at the end, with the front packet's link ticks, nor flow f's tag now is past that
  reach_stretch : (R : ℕ) (s : State) (xs : List Event) (S : Steady s) (e : table_of s ≡ X) → Stretch s xs
      → WaitsAtPicks f s xs → LowTable s S e R
      → (clock_of s + 720 * (picked xs + waiting_charge (end_of s xs) f) ≤ reach_of R s xs)
      × ((view_of s).tag f ≤ reach_of R s xs)
  reach_stretch R s [] S e run waits low = omega (arith, room_table s S e R low)
  reach_stretch R s (x ∷ xs) S e run waits low =
      let step = step_table s S e x run.0 run.1 waits.0 in
      let moves = step.2.moves f in
      let rest = reach_stretch (R + charge_for f x.outcome * X.cost f) x.outcome.state xs step.0 step.1
      run.2 waits.1 (moves.low R (omega (arith, step.2.before)) low) in
      omega (arith, step.2.clock, rest, moves.lifts, mul-le-mul_right (X.cost f) moves.stays)

  -- demand 3, flow f's front packet at the end counted as picked: a start is at most 2Δ ahead of the clock
  pub share_stretch : (s : State) (xs : List Event) → Steady s → table_of s ≡ X → Stretch s xs → WaitsAtPicks f s xs
      → 720 * (picked xs + waiting_charge (end_of s xs) f)
      ≤ (picked_of f xs + waiting_charge (end_of s xs) f) * X.cost f + 2 * X.width
  share_stretch s xs S e run waits = let near = (good_table s S e).near f l in
      omega (arith, reach_stretch (clock_of s + 2 * X.width) s xs S e run waits (omega arith))

  -- that front packet is charged no more than Δ
  pub fits_stretch : (s : State) (xs : List Event) → Steady s → table_of s ≡ X → Stretch s xs
      → waiting_charge (end_of s xs) f * X.cost f ≤ X.width
  fits_stretch s xs S e run = let kept = kept_stretch s xs S run in
      (good_table (end_of s xs) kept.0 (kept.1 ∙ e)).fits f l

  -- a flow that waits and is not picked waits at every pick, and at the end
  pub still_stretch : (s : State) (xs : List Event) → Steady s → table_of s ≡ X → Stretch s xs → 0 < waiting_charge s f
      → picked_of f xs ≡ 0 → WaitsAtPicks f s xs × (0 < waiting_charge (end_of s xs) f)
  still_stretch s [] S e run some none = (tt, some)
  still_stretch s (x ∷ xs) S e run some none =
      let waits = waits_charge s f some in
      let step = step_table s S e x run.0 run.1 (λ _. waits) in
      let rest = still_stretch x.outcome.state xs step.0 step.1 run.2
      (omega (arith, (step.2.moves f).stays)) (omega arith) in
      ((λ _. waits, rest.0), rest.1)

  -- while a flow waits at every pick no reply is Idle, and a pick that was not refused charges a byte or more
  pub busy_stretch : (s : State) (xs : List Event) → Steady s → table_of s ≡ X → Stretch s xs → WaitsAtPicks f s xs
      → NeverIdle xs × (picks_of xs ≤ picked xs)
  busy_stretch s [] S e run waits = (tt, omega arith)
  busy_stretch s (x ∷ xs) S e run waits =
      let step = step_table s S e x run.0 run.1 waits.0 in
      let rest = busy_stretch x.outcome.state xs step.0 step.1 run.2 waits.1 in
      ((step.2.busy, rest.0), omega (arith, step.2.byte, rest.1))

  module _ (g : ℕ) (m : g < X.size) where
    -- what is picked of flow g from now on is no more than its start is behind the reach of flow f
    draw_stretch : (R : ℕ) (s : State) (xs : List Event) (S : Steady s) (e : table_of s ≡ X) → Stretch s xs
        → WaitsAtPicks f s xs → LowTable s S e R
        → picked_of g xs * X.cost g
        ≤ behind (reach_of R s xs) (X.cost g) (clock_of s) ((view_of s).tag g) ((view_of s).charge g)
    draw_stretch R s [] S e run waits low = omega arith
    draw_stretch R s (x ∷ xs) S e run waits low =
        let step = step_table s S e x run.0 run.1 waits.0 in
        let on = R + charge_for f x.outcome * X.cost f in
        let same : reach_of on x.outcome.state xs ≡ reach_of R s (x ∷ xs) = omega arith in
        let rest = draw_stretch on x.outcome.state xs step.0 step.1 run.2 waits.1
        ((step.2.moves f).low R (omega (arith, step.2.before)) low) in
        behind_more (step.2.moves g) ((view_of s).tag f) (reach_of R s (x ∷ xs)) (picked_of g xs) (step.2.turn g)
        (reach_stretch R s (x ∷ xs) S e run waits low).1 (rw same at rest)

    -- nobody overdraws, flow f's front packet at the end counted as picked: its start is at most 2Δ ahead of flow g's
    pub overdraw_stretch : (s : State) (xs : List Event) → Steady s → table_of s ≡ X → Stretch s xs → WaitsAtPicks f s xs
        → picked_of g xs * X.cost g ≤ (picked_of f xs + waiting_charge (end_of s xs) f) * X.cost f + 2 * X.width
    overdraw_stretch s xs S e run waits =
        let good = good_table s S e in
        let level = level_all (clock_of s) good f g l m in
        let ahead = max ((view_of s).tag g) (clock_of s) + 2 * X.width - (view_of s).charge g * X.cost g in
        omega (arith, good.fits g m, draw_stretch ahead s xs S e run waits (omega arith))

-- where the clocks start they are 0, and so are the tags, and the state is steady
pub restarted_zeroed : {s : State} → Restarted s → Steady s × Zeroed s
restarted_zeroed (Restarted.opened s shares largest header e) =
    (accepted_steady s shares largest header e, accepted_zeroed s shares largest header e)
restarted_zeroed (idled s o c t e) = let S = carried_steady c in
    ((call_keeps s S pick o tt t).0, call_idle s S pick o tt t e)

-- the clocks over a stretch with no Idle in it
pub clocks_stretch : (s : State) (xs : List Event) → Steady s → Stretch s xs → NeverIdle xs
    → ((end_of s xs).held.link.0 ≡ s.held.link.0 + 720 * picked xs)
    × (clock_of (end_of s xs) ≡ clock_of s + 720 * picked xs + s.held.width * leaps_of xs)
clocks_stretch s [] S run never = omega arith
clocks_stretch s (x ∷ xs) S run never =
    let clocks = call_clocks s S x.call x.outcome run.0 run.1 never.0 in
    let kept = call_keeps s S x.call x.outcome run.0 run.1 in
    let rest = clocks_stretch x.outcome.state xs kept.0 run.2 never.1 in
    omega (arith, clocks.link, clocks.clock, rest, ap (λ (w : ℕ). w * leaps_of xs) clocks.width)

-- the tags of the flows with nothing waiting, over a stretch with no Idle in it
pub last_stretch : (s : State) (xs : List Event) → Steady s → Stretch s xs → NeverIdle xs
    → (told : ℕ → ℕ) → IdleTags s told → IdleTags (end_of s xs) (λ f. last_tag_from f (told f) xs)
last_stretch s [] S run never told before = before
last_stretch s (x ∷ xs) S run never told before =
    let kept = call_keeps s S x.call x.outcome run.0 run.1 in
    let last = call_last s S x.call x.outcome run.0 run.1 never.0 told before in
    last_stretch x.outcome.state xs kept.0 run.2 never.1
    (λ f. tag_after f (told f) x.outcome.reply) last
