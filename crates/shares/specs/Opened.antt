-- An accepted opening gives a steady state.
-- Assumes nothing.
use Rattle.std.specs.Prelude.{◌≡◌, refl, Bool, true, false, cond, ℕ, zero, suc, ◌≤◌, leb, length, get_or, replicate}
use Rattle.std.proofs.Math.Path.{sym, ap}
use Rattle.std.proofs.Common.{◌∙◌, arith}
use mathlib.Core.List.{List, []}
use Rattle.cost.specs.Cost.{within}
use Rattle.reply.specs.Reply.{Reply, idle, done, refused, reply_number}
use Rattle.queues.specs.Queues.{shares_of}
use Rattle.queues.specs.Places.{lent}
use Rattle.queues.specs.Opening.{new_queues, paired, fault_from, or_else, table_reply, lists_reply}
use Rattle.queues.specs.Laws.{zeros_at}
use Rattle.queues.specs.Openable.{Openable, openable}
use Rattle.uplink.specs.Record.{blank}
use Rattle.reply.specs.State.{state, opened_by, opened_reply}
use Rattle.uplink.specs.State.{State}
use Rattle.uplink.specs.Opening.{new_record, opening_rule}
use Rattle.uplink.specs.Restarts.{opened_rows, opened_tag, opened_waiting, opened_formed}
use Rattle.uplink.specs.declared.Record.{Record}
use Rattle.shares.specs.Runs.{opening_in}
use Rattle.shares.specs.Keep.{reset_good}
use Rattle.shares.specs.Bridge.{Steady, Zeroed, table_of, charge_idle}

module _ (shares largest : List ℕ) (header : ℕ) where
  -- the record and the state that an accepted opening gives
  abbrev new : Record
  new = new_record shares largest header

  abbrev opened : State
  opened = state new (replicate 4096 0) (replicate 4096 0)

  -- an accepted opening was handed what can be opened, and gives that state
  accepted_out : (lengths handles : List ℕ) → (opening_rule shares largest header lengths handles).reply ≡ done []
      → Openable shares largest header lengths handles
      × ((opening_rule shares largest header lengths handles).state ≡ opened)
  unfolding opening_rule
  accepted_out lengths handles e =
      let reply = lists_reply shares largest header lengths handles in
      let all : reply ≡ done [] = sym (opened_reply reply new blank lengths handles) ∙ e in (
        openable shares largest header lengths handles all,
        ap (λ given. (opened_by given new blank lengths handles).state) all,
      )

  -- which is steady
  opened_steady : (lengths handles : List ℕ) → Openable shares largest header lengths handles → Steady opened
  opened_steady lengths handles o =
      let F = opened_formed shares largest header lengths handles o in
      record {
        rows = opened_rows shares largest header;
        lengths_lent = refl;
        handles_lent = refl;
        form = F;
        good = reset_good (table_of opened)
            (λ f l. opened_tag shares largest header f (omega (arith, F.few)))
            (λ f l. charge_idle opened f (opened_waiting shares largest header f (omega (arith, F.few))));
      }

module _ (s : State) (shares largest : List ℕ) (header : ℕ)
    (accepted : (opening_in s shares largest header).reply ≡ done []) where
  -- an accepted opening gives a steady state
  pub accepted_steady : Steady (opening_in s shares largest header).state
  accepted_steady = let A = accepted_out shares largest header s.lengths s.handles accepted in
      rw A.1 (opened_steady shares largest header _ _ A.0)

  -- with clock, link time and all tags 0
  pub accepted_zeroed : Zeroed (opening_in s shares largest header).state
  unfolding new_record
  accepted_zeroed = rw (accepted_out shares largest header s.lengths s.handles accepted).1
      record { clock = refl; link = refl; tags = zeros_at 64 }

-- a reply that is no refusal with 1 or 2
abbrev pub Late : Reply → Type 0
Late reply = (reply_number reply ≡ 1 → ⊥) × (reply_number reply ≡ 2 → ⊥)

-- a test that is refused with neither 1 nor 2, on the way to a reply that is not
late_on : (test : Bool) (on : Reply) (number flow : ℕ) → 3 ≤ number → Late on
    → Late (cond test on (refused number flow))
late_on true on number flow h late = late
late_on false on number flow h late = omega arith

-- no fault has number 1 or 2
fault_late : (shares largest : List ℕ) (f n : ℕ) → Late (fault_from shares largest f n)
unfolding fault_from
fault_late shares largest f zero = omega arith
fault_late shares largest f (suc n) =
    let rest = fault_from shares largest (suc f) n in
    let most = within 1 1500 (get_or largest f 0) in
    late_on (within 1 1000 (get_or shares f 0)) (cond most rest (refused 5 f)) 4 f (omega arith)
    (late_on most rest 5 f (omega arith) (fault_late shares largest (suc f) n))

-- nor has a table's reply
table_late : (shares largest : List ℕ) → Late (table_reply shares largest)
unfolding table_reply
table_late shares largest =
    go (fault_from shares largest 0 (length shares)) (fault_late shares largest 0 (length shares))
    (leb (shares_of (new_queues shares largest) (length shares)) 1000)
  where
    go : (fault : Reply) → Late fault → (b : Bool) → Late (or_else fault (cond b (done []) (refused 6 0)))
    go idle late b = omega arith
    go (refused number flow) late b = late
    go (done values) late b = late_on b (done []) 6 0 (omega arith) (omega arith)

-- so an opening that is lent memories of 4,096 places is not refused with 1 or 2
pub opening_late : (s : State) (shares largest : List ℕ) (header : ℕ) → lent s.lengths s.handles ≡ true
    → Late (opening_in s shares largest header).reply
unfolding opening_rule lists_reply
opening_late s shares largest header e =
    let reply = lists_reply shares largest header s.lengths s.handles in
    rw (opened_reply reply (new_record shares largest header) blank s.lengths s.handles, e)
    (late_on (paired shares largest header) (table_reply shares largest) 3 0 (omega arith) (table_late shares largest))
