-- Document 01's pick takes a flow of smallest tag, so what holds whatever the tie rule holds of it.
-- Assumes nothing.
use Rattle.std.specs.Prelude.{◌≡◌, refl, List, [], ◌∷◌, ℕ, ◌+◌, ◌*◌, ◌/◌, ◌≤◌, ◌<◌}
use Rattle.reply.specs.Reply.{refused}
use Rattle.uplink.specs.Record.{tag_of, waiting_of}
use Rattle.uplink.specs.State.{State}
use Rattle.uplink.specs.Pick.{lead_of, pick_rule, choose_rule}
use Rattle.uplink.specs.Leading.{lead_smallest}
use Rattle.uplink.specs.Calls.{Call, opening, arrival, pick, after_call}
use Rattle.shares.specs.Runs.{take_rule, Taken, Gives, NoOpening, Event, Stretch, end_of, run_of, Carried, Restarted}
use Rattle.shares.specs.Runs.{charge_for, picked, picked_of, picks_of, leaps_of, last_tag, waiting_charge, WaitsAtPicks}
use Rattle.shares.specs.Runs.{figure_of, NeverIdle}
use Rattle.shares.specs.Stretches.{carried_on}
use Rattle.shares.specs.Shares.{form_kept, clocks, last_tag_lem}
use Rattle.shares.specs.Groups.{nobody_overdraws, both_wait_lem, front_waits, front_leaves, front_turns}

-- document 01's pick is one of those that take a flow of smallest tag
pub rule_taken : (s : State) → Taken s (pick_rule s)
unfolding choose_rule take_rule
rule_taken s =
    record {
      flow = (lead_of s.held).flow;
      smallest = lead_smallest s.held;
      taken = refl;
    }

-- and what a call gives by document 01 is one of those that it may give
pub rule_gives : (s : State) (call : Call) → Gives s call (after_call s call)
rule_gives s (opening shares largest header) = refl
rule_gives s (arrival flow length handle) = refl
rule_gives s pick = rule_taken s

-- calls without an opening make a stretch
pub rule_stretch : (s : State) (calls : List Call) → NoOpening calls → Stretch s (run_of s calls)
rule_stretch s [] plain = tt
rule_stretch s (call ∷ calls) plain =
    (plain.0, rule_gives s call, rule_stretch (after_call s call).state calls plain.1)

-- and carry a state on
pub rule_carried : {s : State} → Carried s → (calls : List Call) → NoOpening calls → Carried (end_of s (run_of s calls))
rule_carried {s} c calls plain = carried_on c (run_of s calls) (rule_stretch s calls plain)

module _ {s : State} (c : Carried s) where
  -- no carried call is refused with 1 or 2
  pub rule_form_kept : (call : Call) (flow : ℕ)
      → ((after_call s call).reply ≡ refused 1 flow → ⊥) × ((after_call s call).reply ≡ refused 2 flow → ⊥)
  rule_form_kept call = form_kept c call (after_call s call) (rule_gives s call)

-- document 02 b), for a list of calls with no opening in it
module _ {s : State} (c : Carried s) (calls : List Call) (plain : NoOpening calls) where
  -- the run of the calls, a stretch, and Δ
  abbrev run : List Event
  run = run_of s calls

  stretch : Stretch s run
  stretch = rule_stretch s calls plain

  abbrev Δ : ℕ
  Δ = s.held.width

  module _ (f g : ℕ) (l : f < s.held.flows) (m : g < s.held.flows) (waits : WaitsAtPicks f s run) where
    -- nobody overdraws
    pub rule_overdraws : figure_of g s run ≤ figure_of f s run + 3 * Δ
    rule_overdraws = (nobody_overdraws c f g l m run stretch waits).1

    -- two flows that both wait
    pub rule_both_wait : WaitsAtPicks g s run
        → (figure_of f s run ≤ figure_of g s run + 6 * Δ) × (figure_of g s run ≤ figure_of f s run + 6 * Δ)
    rule_both_wait there = (both_wait_lem c f g l m run stretch waits there).0

  module _ (f : ℕ) (l : f < s.held.flows) (waits : 0 < waiting_of s.held f) where
    -- a front packet leaves in time: while it still waits,
    pub rule_front_waits : picked_of f run ≡ 0
        → (end_of s run).held.link.0 + 720 * waiting_charge (end_of s run) f ≤ s.held.link.0 + 3 * Δ
    rule_front_waits none = (front_waits c f l waits run stretch none).1

    -- when it has left,
    pub rule_front_leaves : picked_of f run ≡ 0 → let o = pick_rule (end_of s run) in
        0 < charge_for f o → o.state.held.link.0 ≤ s.held.link.0 + 3 * Δ
    rule_front_leaves none = let end = end_of s run in
        front_leaves c f l waits run stretch none (pick_rule end) (rule_taken end)

    -- and after how many picks
    pub rule_front_turns : 3 * Δ / 720 ≤ picks_of run → 0 < picked_of f run
    rule_front_turns = front_turns c f l waits run stretch

-- the clocks
pub rule_clocks : {s : State} → Restarted s → (calls : List Call) → NoOpening calls → NeverIdle (run_of s calls)
    → let r = (end_of s (run_of s calls)).held in
    (r.clock.0 ≡ r.link.0 + s.held.width * leaps_of (run_of s calls))
    × (r.link.0 ≡ 720 * picked (run_of s calls))
rule_clocks {s} r calls plain = clocks r (run_of s calls) (rule_stretch s calls plain)

-- the tag of a flow with nothing waiting
pub rule_last_tag : {s : State} → Restarted s → (calls : List Call) → NoOpening calls → NeverIdle (run_of s calls)
    → let r = (end_of s (run_of s calls)).held in (f : ℕ) → waiting_of r f ≡ 0 → tag_of r f ≡ last_tag f (run_of s calls)
rule_last_tag {s} r calls plain = last_tag_lem r (run_of s calls) (rule_stretch s calls plain)
