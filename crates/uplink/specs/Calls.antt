-- The three calls as one: what a call gives on a record and two memories. Theorems over several calls are about this.
-- Assumes nothing.
use Rattle.std.specs.Prelude.{List, ℕ, replicate}
use Rattle.below.specs.Below.{all_below, sum_below, most_below}
use Rattle.below.specs.Listed.{listed}
use Rattle.cost.specs.Cost.{cost_of}
use Rattle.queues.specs.Queues.{put_queue, shares_of, width_of}
use Rattle.queues.specs.Form.{ranged, lengths_formed, spare_queue, tabled, queues_formed, queues_spare}
use Rattle.queues.specs.Places.{join_reply}
use Rattle.queues.specs.Opening.{field64, new_queues, fault_from, table_reply, lists_reply}
use Rattle.tags.specs.Form.{tag_formed, tags_formed}
use Rattle.tags.specs.Choice.{ahead, lead_on, lead_by}
use Rattle.uplink.specs.Flow.{spare_flow, joined_flow, served_flow}
use Rattle.uplink.specs.Record.{blank, put}
use Rattle.reply.specs.State.{state}
use Rattle.uplink.specs.State.{State, Outcome}
use Rattle.uplink.specs.Form.{clocks_formed, rest_spare, turn_formed, formed, checked}
use Rattle.uplink.specs.Opening.{new_record, opening_rule}
use Rattle.uplink.specs.Arrival.{store_rule, join_rule, arrival_rule}
use Rattle.uplink.specs.Pick.{serve_rule, idle_rule, choose_rule, pick_rule}

-- "There are three calls: opening, arrival, pick."
pub data Call : Type 0 where
  -- a list of shares, a list of largest packets and a header
  opening : List ℕ → List ℕ → ℕ → Call
  -- flow, length, handle
  arrival : ℕ → ℕ → ℕ → Call
  pick : Call

-- "Before an opening the record is blank": with memories of zeros
abbrev pub start : State
start = state blank (replicate 4096 0) (replicate 4096 0)

-- what a call gives: an opening takes the memories and no record
abbrev pub after_call : State → Call → Outcome
after_call s (opening shares largest header) = opening_rule shares largest header s.lengths s.handles
after_call s (arrival flow length handle) = arrival_rule s flow length handle
after_call s pick = pick_rule s

-- a theorem that is computed says `unfolding every_rule`, which opens every rule that the three calls are made of
unfoldable pub every_rule : Unit {0}
unfolding all_below sum_below most_below listed cost_of put_queue shares_of width_of ranged lengths_formed spare_queue tabled
    queues_formed queues_spare join_reply field64 new_queues fault_from table_reply lists_reply tag_formed tags_formed ahead
    lead_on lead_by spare_flow joined_flow served_flow put clocks_formed rest_spare turn_formed formed checked new_record
    opening_rule store_rule join_rule serve_rule idle_rule choose_rule
every_rule = tt
