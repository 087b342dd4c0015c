-- What a well-formed record gives its callers, and what makes one: the form's Bool and its sentences say the same.
-- `Formed` has a field for each sentence; `formed_out` and `formed_in` go between the two.
-- Assumes nothing.
use Rattle.std.specs.Prelude.{◌≡◌, refl, Bool, true, false, ◌&&◌, List, ℕ, ◌+◌, ◌^◌, ◌≤◌, ◌<◌, leb, eqb}
use Rattle.std.proofs.Common.{arith}
use borrow.Author.Tests.{leb-true, ltb-true, eqb-true, le-leb, lt-ltb, eq-eqb, ltb-false, le-ltb}
use Rattle.below.specs.Below.{all_below_at, all_below_of}
use Rattle.below.specs.Truth.{both_true, both_of_lem, four_true, four_of, or_right, or_either}
use Rattle.cost.specs.Cost.{within, within_bounds, within_of}
use Rattle.cost.specs.Charge.{is_header}
use Rattle.queues.specs.Queues.{shares_of, width_of}
use Rattle.queues.specs.Form.{counts, booked, placed, ranged, queue_formed, tabled, queues_formed}
use Rattle.queues.specs.Laws.{ranged_out, width_at_most, spare_out, spare_in}
use Rattle.tags.specs.Form.{tag_formed, tags_formed}
use Rattle.tags.specs.Laws.{tag_at_most}
use Rattle.uplink.specs.Flow.{Flow, no_flow, spare_flow}
use Rattle.uplink.specs.Record.{flow_at, tag_of, waiting_of, blank}
use Rattle.uplink.specs.Form.{clock_end, clocks_formed, rest_spare, turn_formed, formed}
use Rattle.uplink.specs.declared.Record.{Record}

-- flow f of a well-formed record
pub record FlowFormed (r : Record) (lengths : List ℕ) (f : ℕ) : Type 0 where
  pub range : ranged (flow_at r f).queue ≡ true
  pub queue : queue_formed f lengths (flow_at r f).queue ≡ true
  pub tag : tag_formed r.clock.0 r.width (tag_of r f) (waiting_of r f) ≡ true

-- a well-formed record
pub record Formed (r : Record) (lengths : List ℕ) : Type 0 where
  pub some : 1 ≤ r.flows
  pub few : r.flows ≤ 64
  pub header : r.header ≤ 64
  pub shares : shares_of r.queues r.flows ≤ 1000
  pub width : width_of r.header r.queues r.flows ≡ r.width
  pub each : (f : ℕ) → f < r.flows → FlowFormed r lengths f
  pub link : r.link.0 ≤ r.clock.0
  pub clock : r.clock.0 < clock_end
  pub rest : (f : ℕ) → r.flows ≤ f → f < 64 → spare_flow (flow_at r f) ≡ true
  pub turn : r.turn < 64

-- the first three bullets of a record, each a Bool; and the five
module _ (r : Record) (lengths : List ℕ) where
  abbrev table : Bool
  table = tabled r.flows r.header r.width r.queues

  abbrev queues : Bool
  queues = queues_formed r.flows r.queues lengths

  abbrev tags : Bool
  tags = tags_formed r.flows r.width r.clock.0 (tag_of r) (waiting_of r)

  abbrev bullets : Bool
  bullets = table && queues && tags && clocks_formed r && rest_spare r

  pub formed_out : formed r lengths ≡ true → Formed r lengths
  unfolding formed tabled queues_formed tags_formed clocks_formed rest_spare turn_formed ranged
  formed_out e =
      let whole = both_true bullets (turn_formed r) e in
      let parts = both_true (table && queues && tags && clocks_formed r) (rest_spare r) whole.0 in
      let four = four_true table queues tags (clocks_formed r) parts.0 in
      let first = four_true (within 1 64 r.flows && is_header r.header) _ _ _ four.0 in
      let sizes = both_true (within 1 64 r.flows) (is_header r.header) first.0 in
      let size = within_bounds 1 64 r.flows sizes.0 in
      let clocks = both_true (leb r.link.0 r.clock.0) _ four.3 in
      record {
        some = size.0;
        few = size.1;
        header = leb-true _ _ sizes.1;
        shares = leb-true _ _ first.2;
        width = eqb-true _ _ first.3;
        each = λ f h.
            let queue = both_true (placed (flow_at r f).queue) _ (all_below_at _ _ four.1 f h) in
            record {
              range = both_of_lem _ _ (all_below_at _ _ first.1 f h) queue.0;
              queue = queue.1;
              tag = all_below_at _ _ four.2 f h;
            };
        link = leb-true _ _ clocks.0;
        clock = ltb-true _ _ clocks.1;
        rest = λ f h l. or_right (counts r.flows f) _ (all_below_at _ _ parts.1 f l) (le-ltb f r.flows h);
        turn = ltb-true _ _ whole.1;
      }

  pub formed_in : Formed r lengths → formed r lengths ≡ true
  unfolding formed tabled queues_formed tags_formed clocks_formed rest_spare turn_formed ranged
  formed_in F =
      both_of_lem bullets (turn_formed r)
      (both_of_lem (table && queues && tags && clocks_formed r) (rest_spare r)
      (four_of table queues tags (clocks_formed r)
      (four_of (within 1 64 r.flows && is_header r.header) _ _ _
      (both_of_lem _ _ (within_of 1 64 r.flows F.some F.few) (le-leb _ _ F.header))
      (all_below_of _ _ λ f h. (both_true (booked (flow_at r f).queue) _ (F.each f h).range).0)
      (le-leb _ _ F.shares)
      (eq-eqb _ _ F.width))
      (all_below_of _ _ λ f h.
      both_of_lem _ _ (both_true (booked (flow_at r f).queue) _ (F.each f h).range).1 (F.each f h).queue)
      (all_below_of _ _ λ f h. (F.each f h).tag)
      (both_of_lem _ _ (le-leb _ _ F.link) (lt-ltb _ _ F.clock)))
      (all_below_of _ _ λ f l. or_either (counts r.flows f) _ (λ e. F.rest f (ltb-false f r.flows e) l)))
      (lt-ltb _ _ F.turn)

-- the leap width is at most 1,126,080,000
pub width_most : (r : Record) (lengths : List ℕ) → Formed r lengths → r.width ≤ 1126080000
unfolding width_of
width_most r lengths F =
    omega (
      arith,
      F.width,
      width_at_most r.header (λ f. (flow_at r f).queue.share) (λ f. (flow_at r f).queue.largest) r.flows
          F.header λ f h. (ranged_out (flow_at r f).queue (F.each f h).range).largest_high,
    )

-- no tag of a well-formed record is near the end of 64 bits
pub tag_fits : (r : Record) (lengths : List ℕ) → Formed r lengths → (f : ℕ) → f < r.flows
    → tag_of r f < 2 ^ 62 + 2 ^ 33
tag_fits r lengths F f h =
    omega (
      arith,
      F.clock,
      width_most r lengths F,
      tag_at_most r.clock.0 r.width (tag_of r f) (waiting_of r f) (F.each f h).tag,
    )

-- a spare flow has 0 in every field
pub spare_flow_lem : (w : Flow) → spare_flow w ≡ true → w ≡ no_flow
unfolding spare_flow
spare_flow_lem w e = let b = both_true (eqb w.tag.0 0) _ e in
    rw (eqb-true w.tag.0 0 b.0, spare_out w.queue b.1)

-- and the flow with 0 in every field is spare
pub no_flow_spare : spare_flow no_flow ≡ true
unfolding spare_flow
no_flow_spare = spare_in

-- "The blank record .. is not well formed", whatever the memory holds
pub blank_not_formed : (lengths : List ℕ) → formed blank lengths ≡ false
unfolding formed tabled
blank_not_formed lengths = refl
