-- Both engines go by the turn ("Both engines follow", document 02 e). So in every run, whatever the calls, refused ones
-- and Idle picks included, the flow picked last loses every tie, and the turn is one past it.
-- Assumes nothing.
use Rattle.std.specs.Prelude.{◌≡◌, refl, Bool, true, false, cond, ◌+◌, ltb}
use Rattle.queues.specs.Places.{join_reply}
use Rattle.queues.specs.Opening.{lists_reply}
use Rattle.signs.specs.Tags.{natural}
use Rattle.uplink.specs.Record as first_record
use Rattle.uplink.specs.Form as first_form
use Rattle.uplink.specs.Formed.{formed_out}
use Rattle.uplink.specs.Opening as first_opening
use Rattle.uplink.specs.Arrival as first_arrival
use Rattle.uplink.specs.Pick as first_pick
use Rattle.uplink.specs.Calls as first
use Rattle.uplink.specs.declared.Record as first_declared
use Rattle.backward.specs.Record as plain_record
use Rattle.backward.specs.Raised.{raised_record}
use Rattle.backward.specs.Form as Plain-Form
use Rattle.backward.specs.Opening as plain_opening_lem
use Rattle.backward.specs.Arrival as plain_arrival_lem
use Rattle.backward.specs.Pick as plain_pick_lem
use Rattle.backward.specs.Calls as plain
use Rattle.backward.specs.declared.Record as plain_declared
use Rattle.turns.specs.Fair.{Engine, ByTurn, Fair, by_turn_fair}
use Rattle.turns.specs.Ways.{opening_turn, arrival_turn, pick_picked}

-- the first engine
abbrev pub first_engine : Engine first_declared.Record
first_engine =
    record {
      after = first.after_call;
      flows = λ r. r.flows;
      tag = first_record.tag_of;
      waiting = first_record.waiting_of;
      turn = λ r. r.turn;
    }

-- it goes by the turn
first_by_turn : ByTurn first_engine
unfolding first_record.put first_form.checked first_opening.new_record first_opening.opening_rule first_arrival.store_rule
    first_arrival.join_rule first_pick.serve_rule first_pick.idle_rule first_pick.choose_rule
first_by_turn =
    record {
      opens = λ s shares largest header.
          opening_turn first_engine (lists_reply shares largest header s.lengths s.handles)
          (first_opening.new_record shares largest header) first_record.blank s.lengths s.handles refl refl;
      arrives = λ s f length handle. arrival_turn first_engine s (first_form.formed s.held s.lengths)
          (first_arrival.joining s f length) (first_arrival.store_rule s f length handle) refl;
      picks = λ s. let r = s.held in
          pick_picked first_engine s (first_form.formed r s.lengths) (ltb r.clock.0 first_pick.clock_limit)
          (first_pick.serve_rule s) (first_pick.idle_rule s) _
          (λ e. let F = formed_out r s.lengths e in (F.turn, F.few)) (λ f. refl) (λ f. refl) refl refl;
    }

-- the plain engine; the tag of a flow that waits is a natural number
abbrev pub plain_engine : Engine plain_declared.Record
plain_engine =
    record {
      after = plain.after_call;
      flows = λ r. r.flows;
      tag = λ r f. natural (plain_record.tag_of r f);
      waiting = plain_record.waiting_of;
      turn = λ r. r.turn;
    }

-- a leap leaves the turn
leapt_turn : (r : plain_declared.Record) (b : Bool) → (cond b (plain_record.lowered r) r).turn ≡ r.turn
unfolding plain_record.lowered
leapt_turn r true = refl
leapt_turn r false = refl

-- it goes by the turn too
plain_by_turn : ByTurn plain_engine
unfolding plain_record.put first_opening.new_record plain_opening_lem.opening_rule plain_arrival_lem.store_rule
    plain_arrival_lem.arrival_rule plain_pick_lem.served_rule plain_pick_lem.serve_rule plain_pick_lem.idle_rule plain_pick_lem.choose_rule
    plain_pick_lem.pick_rule
plain_by_turn =
    record {
      opens = λ s shares largest header.
          opening_turn plain_engine (lists_reply shares largest header s.lengths s.handles)
          (plain_record.unleapt (first_opening.new_record shares largest header)) plain_record.blank
          s.lengths s.handles refl refl;
      arrives = λ s f length handle. let q = plain_record.queue_of s.held f in
          arrival_turn plain_engine s (Plain-Form.formed s.held s.lengths)
          (join_reply s.held.flows f length q.largest q.waiting)
          (plain_arrival_lem.store_rule s f length handle) refl;
      picks = λ s. let r = s.held in
          pick_picked plain_engine s (Plain-Form.formed r s.lengths)
          (ltb (r.clock.0 + r.sum.0) first_pick.clock_limit) (plain_pick_lem.serve_rule s) (plain_pick_lem.idle_rule s) _
          (λ e. let F = formed_out (raised_record r) s.lengths e in (F.turn, F.few)) (λ f. refl)
          (λ f. leapt_turn (plain_pick_lem.chosen_record r f) (plain_pick_lem.leapt r f)) refl refl;
    }

-- Each is fair among equals, from the blank record on.
pub first_engine_fair : Fair first_engine first.start
first_engine_fair = by_turn_fair first_engine first_by_turn first.start refl

pub plain_engine_fair : Fair plain_engine plain.start
plain_engine_fair = by_turn_fair plain_engine plain_by_turn plain.start refl
