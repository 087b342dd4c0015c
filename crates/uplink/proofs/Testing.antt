-- The form in the order in which it is tested: the turn, the clocks, the queue's side, the tag's side; and that this is
-- the form.
-- Assumes nothing.
use mathlib.Core.Path.{◌≡◌, refl, sym, ◌∙◌}
use mathlib.Core.Bool.{Bool, true, false, ◌&&◌, ◌||◌}
use mathlib.Core.List.{List}
use Prim.Native.Nat.{ℕ, ◌≤◌, ◌<◌}
use lib.Dec.{ltb, eqb}
use borrow.Author.Tests.{le-leb, lt-leb, lt-ltb, le-ltb}
use Rattle.below.specs.Below.{all_below_same}
use Rattle.below.specs.Truth.{both_true, four_true, and_true}
use Rattle.below.specs.Faults.{both_below, or_both}
use Rattle.cost.specs.Cost.{within, within_bounds}
use Rattle.cost.specs.Charge.{is_header}
use Rattle.queues.specs.Form.{spare_queue, tabled, queues_formed, queues_spare, queue_side}
use Rattle.queues.specs.declared.Queues.{Queues}
use Rattle.tags.specs.Form.{tags_formed, tags_spare}
use Rattle.uplink.specs.Flow.{spare_flow}
use Rattle.uplink.specs.Record.{flow_at, tag_of, waiting_of}
use Rattle.uplink.specs.Form.{clock_end, clocks_formed, rest_spare, turn_formed, formed}
use Rattle.uplink.specs.declared.Record.{Record}

-- the bullets' order and the order of the test
regroup : (clocks table queues tags tag_rest queue_rest : Bool)
    → (table && queues && tags && clocks && (tag_rest && queue_rest))
    ≡ (clocks && (table && queues && queue_rest) && (tags && tag_rest))
regroup false false queues tags tag_rest queue_rest = refl
regroup false true false tags tag_rest queue_rest = refl
regroup false true true false tag_rest queue_rest = refl
regroup false true true true tag_rest queue_rest = refl
regroup true false queues tags tag_rest queue_rest = refl
regroup true true false tags tag_rest queue_rest = refl
regroup true true true false tag_rest true = refl
regroup true true true false tag_rest false = refl
regroup true true true true true true = refl
regroup true true true true true false = refl
regroup true true true true false true = refl
regroup true true true true false false = refl

module _ (r : Record) (lengths : List ℕ) where
  abbrev queue_test : Bool
  queue_test = queue_side r.flows r.header r.width r.queues lengths

  abbrev tag_test : Bool
  tag_test = tags_formed r.flows r.width r.clock.0 (tag_of r) (waiting_of r) && tags_spare r.flows (tag_of r)

  rest_both : rest_spare r ≡ (tags_spare r.flows (tag_of r) && queues_spare r.flows r.queues)
  unfolding rest_spare tags_spare queues_spare spare_flow
  rest_both = sym
      (both_below (λ f. ltb f r.flows || eqb (tag_of r f) 0)
      (λ f. ltb f r.flows || spare_queue (flow_at r f).queue) 64
      ∙ all_below_same _ _ 64 (λ f h. or_both (ltb f r.flows) (eqb (tag_of r f) 0) (spare_queue (flow_at r f).queue)))

  -- the five bullets, and that they are in this order
  abbrev bullets : Bool
  bullets =
      tabled r.flows r.header r.width r.queues
      && queues_formed r.flows r.queues lengths
      && tags_formed r.flows r.width r.clock.0 (tag_of r) (waiting_of r)
      && clocks_formed r
      && rest_spare r

  ordered : bullets ≡ (clocks_formed r && queue_test && tag_test)
  ordered = rw rest_both (regroup (clocks_formed r) (tabled r.flows r.header r.width r.queues)
      (queues_formed r.flows r.queues lengths)
      (tags_formed r.flows r.width r.clock.0 (tag_of r) (waiting_of r)) (tags_spare r.flows (tag_of r))
      (queues_spare r.flows r.queues))

  pub turn_past : 64 ≤ r.turn → false ≡ formed r lengths
  unfolding formed turn_formed
  turn_past h = sym (rw (le-ltb r.turn 64 h) (none bullets))
    where
      none : (a : Bool) → (a && false) ≡ false
      none true = refl
      none false = refl

  module _ (turn : r.turn < 64) where
    tested : formed r lengths ≡ (clocks_formed r && queue_test && tag_test)
    unfolding formed turn_formed
    tested = rw (lt-ltb r.turn 64 turn, and_true bullets) ordered

    pub link_ahead : r.clock.0 < r.link.0 → false ≡ formed r lengths
    unfolding clocks_formed
    link_ahead h = sym (tested ∙ rw (lt-leb r.link.0 r.clock.0 h))

    module _ (low : r.link.0 ≤ r.clock.0) where
      pub clock_ended : clock_end ≤ r.clock.0 → false ≡ formed r lengths
      unfolding clocks_formed
      clock_ended h = sym (tested ∙ rw (le-leb r.link.0 r.clock.0 low, le-ltb r.clock.0 clock_end h))

      module _ (high : r.clock.0 < clock_end) (b : Bool) (e : b ≡ queue_test) where
        pub queues_wrong : b ≡ false → b ≡ formed r lengths
        unfolding clocks_formed
        queues_wrong h = sym (tested ∙
            rw (le-leb r.link.0 r.clock.0 low, lt-ltb r.clock.0 clock_end high, ← e, h))

        pub as_the_tags : (t : Bool) → b ≡ true → t ≡ tag_test → t ≡ formed r lengths
        unfolding clocks_formed
        as_the_tags t h q = q ∙ sym (tested ∙
            rw (le-leb r.link.0 r.clock.0 low, lt-ltb r.clock.0 clock_end high, ← e, h))

-- the queue's side has no more than 64 flows
pub few_flows : (flows header width : ℕ) (q : Queues) (lengths : List ℕ) (b : Bool)
    → b ≡ queue_side flows header width q lengths → b ≡ true → flows ≤ 64
unfolding tabled
few_flows flows header width q lengths b e h =
    let parts = both_true (tabled flows header width q && queues_formed flows q lengths) _ (sym e ∙ h) in
    let table = both_true (tabled flows header width q) _ parts.0 in
    let sizes = (four_true (within 1 64 flows && is_header header) _ _ _ table.0).0 in
    (within_bounds 1 64 flows (both_true (within 1 64 flows) (is_header header) sizes).0).1

-- what each way through the test gives
pub ruleset testing = (turn_past, link_ahead, clock_ended, queues_wrong, as_the_tags, few_flows)
