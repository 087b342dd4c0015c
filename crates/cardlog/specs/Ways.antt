-- The ways that a call may go on any state at all: refused, stored, Idle or served; past refusals 1 and 2 the record is
-- well formed. What holds whichever way it goes holds of the call.
-- Assumes nothing.
use Rattle.std.specs.Prelude.{◌≡◌, refl, Bool, true, false, cond, ℕ, ◌<◌, ltb}
use Rattle.std.proofs.Common.{ltb-true}
use Rattle.reply.specs.State.{demand, kept, unless_refused}
use Rattle.queues.specs.Laws.{Joinable, join_cases}
use Rattle.queues.specs.Places.{lent}
use Rattle.tags.specs.Choice.{Smallest}
use Rattle.uplink.specs.Record.{flow_at, tag_of, waiting_of}
use Rattle.uplink.specs.State.{State, Outcome}
use Rattle.uplink.specs.Form.{formed, checked}
use Rattle.uplink.specs.Formed.{Formed, formed_out}
use Rattle.uplink.specs.Arrival.{store_rule, join_rule, arrival_rule}
use Rattle.uplink.specs.Pick.{clock_limit, lead_of, serve_rule, idle_rule, choose_rule, pick_rule}
use Rattle.uplink.specs.Leading.{lead_smallest}

-- a test that the call goes on with, or is refused by
tested : {A : Type 0} (P : A → Type 0) (test : Bool) (on stop : A) → P stop → (test ≡ true → P on)
    → P (cond test on stop)
tested P true on stop out go = go refl
tested P false on stop out go = out

module _ (s : State) (P : Outcome → Type 0) (refuses : (number : ℕ) → P (kept number s)) where
  -- 1 and 2
  checked_ways : (on : Outcome) → (Formed s.held s.lengths → P on) → P (checked s on)
  unfolding checked
  checked_ways on goes =
      tested P (lent s.lengths s.handles) (demand (formed s.held s.lengths) 2 s on) (kept 1 s) (refuses 1)
      λ _. tested P (formed s.held s.lengths) on (kept 2 s) (refuses 2)
      λ e. goes (formed_out s.held s.lengths e)

  -- an arrival is refused or stored
  pub arrival_ways : (f n handle : ℕ)
      → (Formed s.held s.lengths
      → Joinable s.held.flows f n (flow_at s.held f).queue.largest (waiting_of s.held f)
      → P (store_rule s f n handle))
      → P (arrival_rule s f n handle)
  unfolding join_rule
  arrival_ways f n handle stores = checked_ways (join_rule s f n handle) λ F.
      join_cases s.held.flows f n (flow_at s.held f).queue.largest (waiting_of s.held f)
      (λ reply. P (unless_refused reply s (store_rule s f n handle))) (stores F) (λ number low high. refuses number)

  -- a pick is refused, Idle, or serves a flow of smallest tag
  pub pick_ways : P (idle_rule s)
      → ((f : ℕ) → Formed s.held s.lengths
      → Smallest (tag_of s.held) (waiting_of s.held) s.held.flows f → s.held.clock.0 < clock_limit
      → P (serve_rule s f))
      → P (pick_rule s)
  unfolding choose_rule
  pick_ways rests serves = checked_ways (choose_rule s) λ F.
      tested P (lead_of s.held).waits
      (demand (ltb s.held.clock.0 clock_limit) 10 s (serve_rule s (lead_of s.held).flow)) (idle_rule s) rests
      λ w. tested P (ltb s.held.clock.0 clock_limit) (serve_rule s (lead_of s.held).flow) (kept 10 s) (refuses 10)
      λ c. serves (lead_of s.held).flow F (lead_smallest s.held w) (ltb-true s.held.clock.0 clock_limit c)
