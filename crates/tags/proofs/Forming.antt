-- The tests of the tags: of one, of the flows' side by side with the numbers waiting, and of those past them.
-- Assumes nothing.
use Rattle.std.proofs.Common.{◌≡◌, refl, ap, Bool, drop, get_or-drop, ℕ, ◌+◌, ◌-◌, ◌%◌, ◌^◌, ◌<◌, ◌≤◌, List, length, get_or, take, true, eqb, leb, add-zero, ap₂, ◌∙◌, arith, le-leb, leb-true, length-take-le, get_or-take}
use Rattle.std.specs.List.{list_all, zip}
use Rattle.below.specs.Below.{all_below, all_below_same}
use Rattle.below.specs.Faults.{rest_of, rest_none, rest_turn}
use Rattle.std.specs.Int.Bits.{bit_or}
use borrow.Rule.Slice.PartMut.{mid_of, mid_len}
use Rattle.below.specs.Each.{all_of_pairs}
use Rattle.below.specs.Truth.{same_truth}
use Rattle.cost.specs.Cost.{within, within_of, within_bounds}
use Rattle.tags.specs.Form.{tag_formed, tags_formed, tags_spare}

-- a distance from the clock, where a tag behind it goes round, says what two bounds would
pub distance : (tag clock far d : ℕ) → (far + clock) % 2 ^ 64 ≡ tag → far < 2 ^ 64 → clock < 2 ^ 63 → d < 2 ^ 63
    → leb far d ≡ within clock (clock + d) tag
distance tag clock far d e h c k = same_truth (leb far d) (within clock (clock + d) tag)
    (λ t. let u : far ≤ d = leb-true far d t in within_of clock (clock + d) tag (omega arith) (omega arith))
    (λ t. let u = within_bounds clock (clock + d) tag t in le-leb far d (omega arith))

-- the tags of the first flows and the numbers waiting, side by side
pub pairs_formed : (tags waits : List ℕ) (flows width clock : ℕ) → flows ≤ length tags → flows ≤ length waits
    → list_all (λ (p : ℕ × ℕ). tag_formed clock width p.0 p.1) (zip (take flows tags) (take flows waits))
    ≡ tags_formed flows width clock (λ f. get_or tags f 0) (λ f. get_or waits f 0)
unfolding tags_formed
pairs_formed tags waits flows width clock h k =
    all_of_pairs (λ (p : ℕ × ℕ). tag_formed clock width p.0 p.1) (take flows tags) (take flows waits) 0 0 flows
    (length-take-le flows tags h) (length-take-le flows waits k)
    ∙ all_below_same _ _ flows
    (λ f l. ap₂ (tag_formed clock width) (get_or-take flows tags f 0 l) (get_or-take flows waits f 0 l))

-- the tags from the number of flows on: none looked at yet, one more, and all
module _ (tags : List ℕ) (flows : ℕ) where
  abbrev rest : ℕ → Bool
  rest = rest_of flows (λ f. eqb (get_or tags f 0) 0)

  pub rest_begins : true ≡ all_below rest (flows + 0)
  rest_begins = rw add-zero (rest_none flows _)

  module _ (few : flows ≤ 64) (long : length tags ≡ 64) (any at : ℕ) (e : eqb any 0 ≡ all_below rest (flows + at)) where
    pub rest_more : at < length (mid_of flows (64 - flows) tags)
        → eqb (bit_or any (get_or (mid_of flows (64 - flows) tags) at 0)) 0 ≡ all_below rest (flows + (at + 1))
    rest_more h =
        let same : get_or (mid_of flows (64 - flows) tags) at 0 ≡ get_or tags (flows + at) 0 =
        get_or-take (64 - flows) (drop flows tags) at 0 (omega (arith, mid_len flows 64 tags (omega arith)))
        ∙ get_or-drop flows tags at 0 in
        let next : flows + (at + 1) ≡ flows + at + 1 = omega arith in
        rw (same, next) (rest_turn flows _ (flows + at) any (get_or tags (flows + at) 0) (omega arith) refl e)

    pub rest_all : at ≡ length (mid_of flows (64 - flows) tags)
        → eqb any 0 ≡ tags_spare flows (λ f. get_or tags f 0)
    unfolding tags_spare
    rest_all h = e ∙ ap (all_below rest) (omega (arith, mid_len flows 64 tags (omega arith)))
