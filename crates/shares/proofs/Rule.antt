-- Demand 3 and the clock for document 01's own pick, which takes a flow of smallest tag.
-- Assumes nothing.
use Rattle.std.specs.Prelude.{◌≡◌, List, [], ◌∷◌, ℕ, ◌+◌, ◌*◌, ◌≤◌, ◌<◌}
use Rattle.reply.specs.Reply.{done}
use Rattle.uplink.specs.Flow.{flow_cost}
use Rattle.uplink.specs.Record.{flow_at}
use Rattle.uplink.specs.State.{State}
use Rattle.uplink.specs.Pick.{pick_rule}
use Rattle.uplink.specs.Calls.{Call}
use Rattle.shares.specs.Runs.{NoOpening, run_of, Carried, picked, picked_of, WaitsAtPicks}
use Rattle.shares.specs.Rule.{rule_taken, rule_stretch}
use Rattle.shares.proofs.Shares.{clock_in_time, share}

module _ {s : State} (c : Carried s) where
  -- no picked packet leaves the server clock above its tag
  pub rule_in_time : (flow length handle tag leapt clock : ℕ)
      → (pick_rule s).reply ≡ done (flow ∷ length ∷ handle ∷ tag ∷ leapt ∷ clock ∷ []) → clock ≤ tag
  rule_in_time = clock_in_time c (pick_rule s) (rule_taken s)

  -- demand 3, for a list of calls with no opening in it
  pub rule_share : (f : ℕ) → f < s.held.flows
      → (calls : List Call) → NoOpening calls → WaitsAtPicks f s (run_of s calls)
      → 720 * picked (run_of s calls) ≤ picked_of f (run_of s calls) * flow_cost (flow_at s.held f) + 3 * s.held.width
  rule_share f l calls plain = share c f l (run_of s calls) (rule_stretch s calls plain)
