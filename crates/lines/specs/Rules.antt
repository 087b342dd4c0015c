-- What a script asks of an engine: the record before an opening and the rules of the three calls. The first engine
-- (`uplink`) and the plain one (`backward`) each have their own.
-- Assumes nothing.
use Rattle.std.specs.Prelude.{List, ℕ}
use Rattle.reply.specs.State.{StateOf, OutcomeOf}
use Rattle.uplink.specs.declared.Record.{Record}
use Rattle.uplink.specs.Record as first
use Rattle.uplink.specs.Opening as first_opening
use Rattle.uplink.specs.Arrival as first_arrival
use Rattle.uplink.specs.Pick as first_pick
use Rattle.backward.specs.declared.Record as plain_record
use Rattle.backward.specs.Record as plain
use Rattle.backward.specs.Opening as plain_opening
use Rattle.backward.specs.Arrival as plain_arrival
use Rattle.backward.specs.Pick as plain_pick

pub record Rules (R : Type 0) : Type 0 where
  -- the record before an opening
  pub blank : R
  -- what an opening of shares, largest packets and a header gives on two memories
  pub opening : List ℕ → List ℕ → ℕ → List ℕ → List ℕ → OutcomeOf R
  -- what an arrival of flow, length and handle gives
  pub arrival : StateOf R → ℕ → ℕ → ℕ → OutcomeOf R
  pub pick : StateOf R → OutcomeOf R

abbrev pub first_rules : Rules Record
first_rules =
    record {
      blank = first.blank;
      opening = first_opening.opening_rule;
      arrival = first_arrival.arrival_rule;
      pick = first_pick.pick_rule;
    }

abbrev pub plain_rules : Rules plain_record.Record
plain_rules =
    record {
      blank = plain.blank;
      opening = plain_opening.opening_rule;
      arrival = plain_arrival.arrival_rule;
      pick = plain_pick.pick_rule;
    }
