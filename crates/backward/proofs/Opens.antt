-- The first engine's opening with nothing leapt is this engine's.
-- Assumes nothing.
use mathlib.Core.Path.{◌≡◌, refl, ap, ◌∙◌}
use mathlib.Core.List.{List}
use Prim.Native.Nat.{ℕ}
use Rattle.reply.specs.Reply.{Reply, idle, done, refused}
use Rattle.reply.specs.State.{outcome, opened_by}
use Rattle.queues.specs.Opening.{lists_reply}
use Rattle.uplink.specs.Record as first_record
use Rattle.uplink.specs.State as first_state_lem
use Rattle.uplink.specs.Opening as first
use Rattle.uplink.specs.declared.Record as forward
use Rattle.backward.specs.Record.{unleapt, blank}
use Rattle.backward.specs.State.{Outcome}
use Rattle.backward.specs.Opening.{opening_rule}
use Rattle.backward.specs.declared.Record.{Record}

-- an outcome of the first engine whose record was not yet tagged, as this engine's
abbrev as_unleapt : first_state_lem.Outcome → Outcome
as_unleapt o = outcome o.reply (unleapt o.state.held) o.state.lengths o.state.handles

-- whatever the reply
as_opened : (reply : Reply) (new : forward.Record) (lengths handles : List ℕ)
    → as_unleapt (opened_by reply new first_record.blank lengths handles)
    ≡ opened_by reply (unleapt new) blank lengths handles
as_opened idle new lengths handles = refl
as_opened (done values) new lengths handles = refl
as_opened (refused number flow) new lengths handles = refl

-- so the record that the first engine opens, with nothing leapt, is the one that the rule gives
pub opened : (shares largest : List ℕ) (header : ℕ) (lengths handles ls hs : List ℕ) (reply : Reply)
    (new : forward.Record) (next : Record)
    → outcome reply new ls hs ≡ first.opening_rule shares largest header lengths handles → next ≡ unleapt new
    → outcome reply next ls hs ≡ opening_rule shares largest header lengths handles
unfolding opening_rule first.opening_rule
opened shares largest header lengths handles ls hs reply new next e n =
    rw n (ap as_unleapt e
    ∙ as_opened (lists_reply shares largest header lengths handles) (first.new_record shares largest header)
    lengths handles)
