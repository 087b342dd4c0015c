-- From the record and the memories to the table and the view of the share argument.
-- Assumes nothing.
use Rattle.std.specs.Prelude.{◌≡◌, true, ℕ, ◌≤◌, ◌<◌, length}
use Rattle.std.proofs.Math.Nat.{mul-le-mul_right}
use Rattle.std.proofs.Math.Decide.{ℕ_discrete}
use native.Mathlib.Omega.{arith}
use Rattle.std.proofs.Common.{eq-eqb, ne_eqb}
use Rattle.below.specs.Below.{most_below_least}
use Rattle.cost.specs.Cost.{cost_of, cost_covers}
use Rattle.cost.specs.Charge.{charge_of, charge_ticks}
use Rattle.queues.specs.Queue.{booked_ticks}
use Rattle.queues.specs.Queues.{shares_of, width_of}
use Rattle.queues.specs.Form.{queue_formed}
use Rattle.queues.specs.Laws.{ranged_out, queue_at_lem}
use Rattle.tags.specs.Form.{tag_formed}
use Rattle.tags.specs.Laws.{tag_idle_in, tag_waiting_in}
use Rattle.uplink.specs.Flow.{Flow, flow_cost}
use Rattle.uplink.specs.Record.{flow_at, Rows}
use Rattle.uplink.specs.State.{State}
use Rattle.uplink.specs.Formed.{Formed}
use Rattle.uplink.specs.Pick.{front_charge}
use Rattle.shares.specs.Keep.{Table, Sound, View, Good, in_time}
use Rattle.shares.specs.Runs.{waiting_charge}

-- a table: the costs are those of the shares
abbrev pub table_with : ℕ → ℕ → (ℕ → ℕ) → Table
table_with size width share = record { size = size; width = width; share = share; cost = λ f. cost_of (share f) }

-- flow f, the clock and the table of a state
abbrev pub flow_of : State → ℕ → Flow
flow_of s f = flow_at s.held f

abbrev pub clock_of : State → ℕ
clock_of s = s.held.clock.0

abbrev pub table_of : State → Table
table_of s = table_with s.held.flows s.held.width (λ f. (flow_of s f).queue.share)

-- each flow's tag and the charge that waits in front
abbrev pub view_of : State → View
view_of s = record { tag = λ f. (flow_of s f).tag.0; charge = waiting_charge s }

-- the tag of each flow with nothing waiting is the one told
abbrev pub IdleTags : State → (ℕ → ℕ) → Type 0
IdleTags s told = (f : ℕ) → (flow_of s f).queue.waiting ≡ 0 → (flow_of s f).tag.0 ≡ told f

-- clock, link time and all tags are 0
pub record Zeroed (s : State) : Type 0 where
  pub clock : clock_of s ≡ 0
  pub link : s.held.link.0 ≡ 0
  pub tags : (f : ℕ) → (flow_of s f).tag.0 ≡ 0

-- what holds of record and memories from an accepted opening on
pub record Steady (s : State) : Type 0 where
  -- the record has its 64 rows, and each memory its 4,096 places
  pub rows : Rows s.held
  pub lengths_lent : length s.lengths ≡ 4096
  pub handles_lent : length s.handles ≡ 4096
  -- the record is well formed
  pub form : Formed s.held s.lengths
  -- the backlog and the bounds on the tags
  pub good : Good (table_of s) (clock_of s) (view_of s)

-- a flow that does not wait has no charge, one that waits its front packet's
pub charge_idle : (s : State) (f : ℕ) → (flow_of s f).queue.waiting ≡ 0 → waiting_charge s f ≡ 0
unfolding waiting_charge
charge_idle s f e = rw (eq-eqb _ 0 e)

pub charge_waits : (s : State) (f : ℕ) → 0 < (flow_of s f).queue.waiting → waiting_charge s f ≡ front_charge s f
unfolding waiting_charge
charge_waits s f h = rw (ne_eqb (flow_of s f).queue.waiting 0 (λ e. omega arith))

-- a flow with a charge waits
pub waits_charge : (s : State) (f : ℕ) → 0 < waiting_charge s f → 0 < (flow_of s f).queue.waiting
waits_charge s f h = elim (ℕ_discrete (flow_of s f).queue.waiting 0) as (λ _. 0 < (flow_of s f).queue.waiting) [
  | yes q ↦ absurd (omega (arith, charge_idle s f q))
  | no q ↦ omega arith
]

-- and one that waits has a charge
pub charge_some : (s : State) (f : ℕ) → queue_formed f s.lengths (flow_of s f).queue ≡ true
    → 0 < (flow_of s f).queue.waiting → 0 < waiting_charge s f
charge_some s f queue w = omega (arith, charge_waits s f w, queue_at_lem f s.lengths (flow_of s f).queue queue 0 w)

module _ (s : State) (F : Formed s.held s.lengths) where
  -- the shares of a well-formed record pay for their bytes
  pub table_sound : Sound (table_of s)
  unfolding shares_of
  table_sound =
      record {
        total = F.shares;
        covers = λ j l. let R = ranged_out (flow_of s j).queue (F.each j l).range in
            cost_covers (flow_of s j).queue.share R.share_low R.share_high;
      }

  -- no packet that a flow may send is charged more than Δ
  pub packet_fits : (f n : ℕ) → f < s.held.flows → n ≤ (flow_of s f).queue.largest
      → charge_ticks (flow_cost (flow_of s f)) (charge_of s.held.header n) ≤ s.held.width
  unfolding width_of
  packet_fits f n l h =
      omega (
        arith,
        F.width,
        mul-le-mul_right (flow_cost (flow_of s f)) h,
        most_below_least (λ j. booked_ticks s.held.header (flow_of s j).queue.share (flow_of s j).queue.largest)
            s.held.flows f l,
      )

-- the backlog and the bounds keep the tags in form
pub tags_formed_lem : (s : State) → Sound (table_of s) → Good (table_of s) (clock_of s) (view_of s)
    → (f : ℕ) → f < s.held.flows → queue_formed f s.lengths (flow_of s f).queue ≡ true
    → tag_formed (clock_of s) s.held.width (flow_of s f).tag.0 (flow_of s f).queue.waiting ≡ true
tags_formed_lem s sound g f l queue =
    let c = clock_of s in
    let width = s.held.width in
    let tag = (flow_of s f).tag.0 in
    let waiting = (flow_of s f).queue.waiting in
    elim (ℕ_discrete waiting 0) as (λ _. tag_formed c width tag waiting ≡ true) [
      | yes q ↦ tag_idle_in c width tag waiting q (omega (arith, rw (charge_idle s f q) at (g.near f l)))
      | no q ↦ tag_waiting_in c width tag waiting (omega arith)
          (omega (arith, in_time sound c f g l (charge_some s f queue (omega arith))))
          (omega (arith, g.near f l, g.fits f l))
    ]
