-- So the plain engine keeps the promises: "the form is never lost", demand 3 and document 02 b), in its own words
-- (`Runs`), as corollaries of the equality and of the first engine's theorems (crate `shares`).
-- Assumes nothing.
use Rattle.std.specs.Prelude.{◌≡◌, refl, List, [], ◌∷◌, ℕ, ◌+◌, ◌*◌, ◌/◌, ◌≤◌, ◌<◌}
use Rattle.std.proofs.Common.{sym, ap, ap₂, ◌∙◌, subst, arith}
use Rattle.reply.specs.Reply.{Reply, idle, done, refused}
use Rattle.uplink.specs.State as first
use Rattle.uplink.specs.Pick as first_pick
use Rattle.uplink.specs.Calls as first_calls
use Rattle.uplink.specs.Calls.{Call, opening, pick}
use Rattle.shares.specs.Runs as first_runs
use Rattle.shares.specs.Runs.{NoOpening, charge_told, charge_told_for, pick_in}
use Rattle.shares.specs.Rule.{rule_gives, rule_form_kept, rule_overdraws, rule_both_wait}
use Rattle.shares.proofs.Rule.{rule_in_time, rule_share}
use Rattle.shares.specs.Rule.{rule_front_waits, rule_front_leaves, rule_front_turns}
use Rattle.backward.specs.Record.{waiting_of}
use Rattle.backward.specs.State.{State}
use Rattle.backward.specs.Pick.{pick_rule}
use Rattle.backward.specs.Calls.{after_call}
use Rattle.equal.specs.Raised.{raised_state, raised_reply, raised_outcome}
use Rattle.equal.specs.Same.{same_opening, same_call}
use Rattle.equal.specs.Sound.{Sound, sound_opening, sound_call}
use Rattle.equal.specs.Runs.{Event, run_of, end_of, raised_run, Carried, total, picked, picked_of, cost_in, figure_of}
use Rattle.equal.specs.Runs.{picks_of, WaitsAtPicks}
use Rattle.equal.specs.Equal.{same_run, sound_end, raised_end}

-- a carried state is sound
pub carried_sound : {s : State} → Carried s → Sound s.held
carried_sound (Carried.opened s shares largest header e) = sound_opening s shares largest header
carried_sound (Carried.next s call c plain) = sound_call s (carried_sound c) call

-- an accepted opening is one of the first engine's
pub opened_raised : (s : State) (shares largest : List ℕ) (header : ℕ)
    → (after_call s (opening shares largest header)).reply ≡ done []
    → (first_runs.opening_in (raised_state s) shares largest header).reply ≡ done []
opened_raised s shares largest header e =
    ap (λ (o : first.Outcome). o.reply) (same_opening s shares largest header)
    ∙ ap (raised_reply (after_call s (opening shares largest header)).state.held.sum.0) e

-- and with the sum added it is a carried state of the first engine
pub carried_raised : {s : State} → Carried s → first_runs.Carried (raised_state s)
carried_raised (Carried.opened s shares largest header e) =
    subst (λ (o : first.Outcome). first_runs.Carried o.state) (same_opening s shares largest header)
    (first_runs.Carried.opened (raised_state s) shares largest header (opened_raised s shares largest header e))
carried_raised (Carried.next s call c plain) =
    let before = carried_raised c in
    let same = same_call s (carried_sound c).wide call in
    subst (λ (o : first.Outcome). first_runs.Carried o.state) same
    (first_runs.Carried.next (raised_state s)
    record { call = call; outcome = first_calls.after_call (raised_state s) call } before plain
    (rule_gives (raised_state s) call))

-- what is charged is read off flow and length, which the sum leaves as they are
pub told_stays : (header sum : ℕ) (reply : Reply) → charge_told header (raised_reply sum reply) ≡ charge_told header reply
told_stays header sum idle = refl
told_stays header sum (refused number flow) = refl
told_stays header sum (done []) = refl
told_stays header sum (done (flow ∷ [])) = refl
told_stays header sum (done (flow ∷ n ∷ rest)) = refl

for_stays : (f header sum : ℕ) (reply : Reply)
    → charge_told_for f header (raised_reply sum reply) ≡ charge_told_for f header reply
for_stays f header sum idle = refl
for_stays f header sum (refused number flow) = refl
for_stays f header sum (done []) = refl
for_stays f header sum (done (flow ∷ [])) = refl
for_stays f header sum (done (flow ∷ n ∷ rest)) = refl

pick_stays : (header sum : ℕ) (reply : Reply) → pick_in (raised_reply sum reply) ≡ pick_in reply
pick_stays header sum idle = refl
pick_stays header sum (refused number flow) = refl
pick_stays header sum (done []) = refl
pick_stays header sum (done (flow ∷ rest)) = refl

-- so a figure over the run is that of the run with the sum added
pub total_raised : (figure : ℕ → Reply → ℕ)
    → ((header sum : ℕ) (reply : Reply) → figure header (raised_reply sum reply) ≡ figure header reply)
    → (xs : List Event)
    → first_runs.total (λ o. figure o.state.held.header o.reply) (raised_run xs) ≡ total figure xs
total_raised figure stays [] = refl
total_raised figure stays (x ∷ xs) =
    ap₂ (λ a b. a + b) (stays x.outcome.state.held.header x.outcome.state.held.sum.0 x.outcome.reply)
    (total_raised figure stays xs)

-- a flow that waits at every pick does so with the sum added
waits_raised : (f : ℕ) (s : State) (calls : List Call) → WaitsAtPicks f s calls
    → first_runs.WaitsAtPicks f (raised_state s) (raised_run (run_of s calls))
waits_raised f s [] waits = tt
waits_raised f s (call ∷ calls) waits = (waits.0, waits_raised f (after_call s call).state calls waits.1)

module _ {s : State} (c : Carried s) where
  -- The form is never lost: no carried call is refused with 1 or 2.
  pub plain_form_kept : (call : Call) (flow : ℕ)
      → ((after_call s call).reply ≡ refused 1 flow → ⊥) × ((after_call s call).reply ≡ refused 2 flow → ⊥)
  plain_form_kept call flow =
      let kept = rule_form_kept (carried_raised c) call flow in
      let same = ap (λ (o : first.Outcome). o.reply) (same_call s (carried_sound c).wide call) in
      let sum = (after_call s call).state.held.sum.0 in
      (λ e. kept.0 (same ∙ ap (raised_reply sum) e), λ e. kept.1 (same ∙ ap (raised_reply sum) e))

  -- No picked packet leaves the server clock above its tag.
  pub plain_in_time : (flow length handle tag leapt clock : ℕ)
      → (pick_rule s).reply ≡ done (flow ∷ length ∷ handle ∷ tag ∷ leapt ∷ clock ∷ []) → clock ≤ tag
  plain_in_time flow length handle tag leapt clock e =
      let sum = (pick_rule s).state.held.sum.0 in
      let same = ap (λ (o : first.Outcome). o.reply) (same_call s (carried_sound c).wide pick) in
      let late = rule_in_time (carried_raised c) flow length handle (tag + sum) leapt (clock + sum)
      (same ∙ ap (raised_reply sum) e) in
      omega (arith, late)

  -- the promises over a list of calls with no opening in it
  module _ (calls : List Call) (plain : NoOpening calls) where
    abbrev run : List Event
    run = run_of s calls

    abbrev Δ : ℕ
    Δ = s.held.width

    same : first_runs.run_of (raised_state s) calls ≡ raised_run run
    same = same_run s (carried_sound c) calls

    -- W, S and the figures are the first engine's
    same_picked : first_runs.picked (first_runs.run_of (raised_state s) calls) ≡ picked run
    same_picked = ap first_runs.picked same ∙ total_raised charge_told told_stays run

    same_of : (f : ℕ) → first_runs.picked_of f (first_runs.run_of (raised_state s) calls) ≡ picked_of f run
    same_of f = ap (first_runs.picked_of f) same ∙ total_raised (charge_told_for f) (for_stays f) run

    same_picks : first_runs.picks_of (first_runs.run_of (raised_state s) calls) ≡ picks_of run
    same_picks = ap first_runs.picks_of same ∙ total_raised (λ header reply. pick_in reply) pick_stays run

    same_end : first_runs.end_of (raised_state s) (first_runs.run_of (raised_state s) calls) ≡ raised_state (end_of s calls)
    same_end = ap (first_runs.end_of (raised_state s)) same ∙ raised_end s calls

    waiting : (f : ℕ) → WaitsAtPicks f s calls
        → first_runs.WaitsAtPicks f (raised_state s) (first_runs.run_of (raised_state s) calls)
    waiting f waits = subst (first_runs.WaitsAtPicks f (raised_state s)) (sym same) (waits_raised f s calls waits)

    -- Demand 3: 720 × W ≤ S × cost + 3Δ where flow f has a packet waiting at every pick.
    pub plain_share : (f : ℕ) → f < s.held.flows → WaitsAtPicks f s calls
        → 720 * picked run ≤ picked_of f run * cost_in s f + 3 * Δ
    plain_share f l waits =
        rw (← same_picked, ← same_of f) (rule_share (carried_raised c) f l calls plain (waiting f waits))

    module _ (f g : ℕ) (l : f < s.held.flows) (m : g < s.held.flows) (waits : WaitsAtPicks f s calls) where
      -- Nobody overdraws.
      pub plain_overdraws : figure_of g s run ≤ figure_of f s run + 3 * Δ
      plain_overdraws =
          rw (← same_of f, ← same_of g) (rule_overdraws (carried_raised c) calls plain f g l m (waiting f waits))

      -- Two flows that both wait.
      pub plain_both_wait : WaitsAtPicks g s calls
          → (figure_of f s run ≤ figure_of g s run + 6 * Δ) × (figure_of g s run ≤ figure_of f s run + 6 * Δ)
      plain_both_wait there =
          rw (← same_of f, ← same_of g)
          (rule_both_wait (carried_raised c) calls plain f g l m (waiting f waits) (waiting g there))

    -- A front packet leaves in time:
    module _ (f : ℕ) (l : f < s.held.flows) (waits : 0 < waiting_of s.held f) where
      -- while it still waits,
      pub plain_front_waits : picked_of f run ≡ 0 → (end_of s calls).held.link.0 ≤ s.held.link.0 + 3 * Δ
      plain_front_waits none =
          omega (
            arith,
            ap (λ (t : first.State). t.held.link.0) same_end,
            rule_front_waits (carried_raised c) calls plain f l waits (same_of f ∙ none),
          )

      -- when it has left,
      pub plain_front_leaves : picked_of f run ≡ 0 → let o = pick_rule (end_of s calls) in
          0 < charge_told_for f o.state.held.header o.reply → o.state.held.link.0 ≤ s.held.link.0 + 3 * Δ
      plain_front_leaves none left =
          let end = end_of s calls in
          let o = pick_rule end in
          let goes : first_pick.pick_rule (first_runs.end_of (raised_state s) (first_runs.run_of (raised_state s) calls))
          ≡ raised_outcome o =
          ap first_pick.pick_rule same_end ∙ same_call end (sound_end s (carried_sound c) calls).wide pick in
          let told = for_stays f o.state.held.header o.state.held.sum.0 o.reply in
          rw goes at (rule_front_leaves (carried_raised c) calls plain f l waits (same_of f ∙ none)
          (rw goes (omega (arith, left, told))))

      -- and after how many picks.
      pub plain_front_turns : 3 * Δ / 720 ≤ picks_of run → 0 < picked_of f run
      plain_front_turns many =
          rw (← same_of f) (rule_front_turns (carried_raised c) calls plain f l waits (rw same_picks many))
