-- That flow and length of a call that is done fit their fields of an entry.
-- Assumes nothing.
use mathlib.Core.Path.{◌≡◌, sym, ap, ◌∙◌}
use mathlib.Core.List.{List, []}
use Prim.Native.Nat.{ℕ, ◌^◌, ◌≤◌, ◌<◌}
use native.Mathlib.Omega.{arith}
use Rattle.std.specs.Prelude.{Option, Some, Result, Ok}
use lib.ListN.{get_or}
use Rattle.reply.specs.Reply.{Reply, idle, done, refused, done_reply}
use Rattle.reply.specs.Replies.{refused_done}
use Rattle.reply.specs.State.{state, outcome}
use Rattle.reply.specs.declared.Refusal.{Refusal}
use Rattle.queues.specs.Laws.{ranged_out}
use Rattle.uplink.specs.Record.{flow_at}
use Rattle.uplink.specs.State.{State, Outcome}
use Rattle.uplink.specs.Arrival.{store_rule, arrival_rule}
use Rattle.uplink.specs.Pick.{serve_rule, idle_rule, pick_rule}
use Rattle.uplink.specs.PickReply.{pick_reply}
use Rattle.uplink.specs.declared.Packet.{Packet}
use Rattle.uplink.specs.declared.Record.{Record}
use Rattle.cardlog.specs.Ways.{arrival_ways, pick_ways}

-- the values of a reply that is done, and none of any other
abbrev values_of : Reply → List ℕ
values_of (done values) = values
values_of idle = []
values_of (refused number flow) = []

module _ (held next : Record) (lengths handles lengths' handles' : List ℕ) where
  abbrev before : State
  before = state held lengths handles

  abbrev given : Reply → Outcome
  given reply = outcome reply next lengths' handles'

  module _ (f n handle : ℕ) (reply : Result (Unit {0}) Refusal)
      (e : given (done_reply reply) ≡ arrival_rule before f n handle) (u : Unit {0}) (d : reply ≡ Ok u) where
    -- an arrival that is done: its flow is one of 64, its length at most 1,500
    arrival_fits : (f < 64) × (n ≤ 1500)
    unfolding store_rule
    arrival_fits =
        arrival_ways before (λ o. o.reply ≡ done [] → (f < 64) × (n ≤ 1500)) (λ number r. refused_done r) f n handle
        (λ F J _. (
          omega (arith, F.few, J.counted),
          omega (arith, J.short, (ranged_out (flow_at held f).queue (F.each f J.counted).range).largest_high),
        ))
        (sym (ap (λ (o : Outcome). o.reply) e) ∙ ap done_reply d)

    -- so they fit their fields
    pub arrival_flow : f < 2 ^ 8
    arrival_flow = omega (arith, arrival_fits)

    pub arrival_length : n < 2 ^ 16
    arrival_length = omega (arith, arrival_fits)

  -- a pick that is done: its flow is one of 64, and so fits its field
  pub pick_flow : (reply : Result (Option Packet) Refusal) → given (pick_reply reply) ≡ pick_rule before
      → (packet : Packet) → reply ≡ Ok (Some packet) → packet.flow < 2 ^ 8
  unfolding serve_rule idle_rule
  pick_flow reply e packet d =
      let first : get_or (values_of (pick_reply reply)) 0 0 ≡ packet.flow =
      ap (λ (p : Result (Option Packet) Refusal). get_or (values_of (pick_reply p)) 0 0) d in
      let rule : get_or (values_of (pick_reply reply)) 0 0 ≡ get_or (values_of (pick_rule before).reply) 0 0 =
      ap (λ (o : Outcome). get_or (values_of o.reply) 0 0) e in
      let low : get_or (values_of (pick_rule before).reply) 0 0 < 64 =
      pick_ways before (λ o. get_or (values_of o.reply) 0 0 < 64) (λ number. omega arith)
      (omega arith) (λ f F small soon. omega (arith, F.few, small.counts)) in
      omega arith
