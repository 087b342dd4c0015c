-- What a well-formed record of the plain engine gives its callers: facts about its own tags, clock and sum from 01's
-- form of the record with the sum added.
-- Assumes nothing.
use Rattle.std.specs.Prelude.{◌≡◌, refl, Bool, true, false, List, ℕ, ◌+◌, ◌≤◌, ◌<◌, ltb, pos}
use Rattle.std.proofs.Common.{ap, arith, ltb-true, ltb-false}
use Rattle.below.specs.Listed.{listed_here}
use Rattle.tags.specs.Laws.{tag_waiting}
use Rattle.signs.specs.Tags as signs
use Rattle.signs.specs.Tags.{natural, raised}
use Rattle.signs.specs.Bounds.{reach, Near}
use Rattle.signs.specs.Raise.{above, above_of, raised_natural, raised_near}
use Rattle.uplink.specs.Flow.{Flow}
use Rattle.uplink.specs.Record as first
use Rattle.uplink.specs.Formed.{Formed, tag_fits, spare_flow_lem}
use Rattle.backward.specs.Record.{tag_of, waiting_of, lowered}
use Rattle.backward.specs.Raised.{raised_record}
use Rattle.backward.specs.declared.Record.{Record}

-- the tag of flow f with the sum added
pub raised_tag : (r : Record) (f : ℕ) → f < 64 → first.tag_of (raised_record r) f ≡ raised r.sum.0 (tag_of r f)
raised_tag r f = listed_here (λ g. raised r.sum.0 (tag_of r g)) 64 f 0

-- and after a leap: it is less by the width
pub lowered_tag : (r : Record) (f : ℕ) → f < 64 → tag_of (lowered r) f ≡ signs.lowered r.width (tag_of r f)
unfolding lowered
lowered_tag r f = listed_here (λ g. signs.lowered r.width (tag_of r g)) 64 f (pos 0)

module _ (r : Record) (lengths : List ℕ) (F : Formed (raised_record r) lengths) where
  -- the sum is nowhere near the end of 64 bits
  pub sum_fits : r.sum.0 < reach
  sum_fits = omega (arith, F.clock)

  -- nor is a tag with the sum added, of a flow that counts or of any other
  pub raised_fits : (f : ℕ) → f < 64 → raised r.sum.0 (tag_of r f) < reach
  raised_fits f h = go (ltb f r.flows) refl
    where
      go : (b : Bool) → ltb f r.flows ≡ b → raised r.sum.0 (tag_of r f) < reach
      go true e = omega (arith, tag_fits (raised_record r) lengths F f (ltb-true f r.flows e), raised_tag r f h)
      go false e =
          let spare = spare_flow_lem (first.flow_at (raised_record r) f) (F.rest f (ltb-false f r.flows e) h) in
          omega (arith, ap (λ (w : Flow). w.tag.0) spare, raised_tag r f h)

  -- no tag is below zero with the sum added
  pub all_above : (f : ℕ) → f < 64 → above r.sum.0 (tag_of r f) ≡ true
  all_above f h = above_of r.sum.0 (tag_of r f) (omega (arith, raised_fits f h))

  -- and no tag is out of reach
  pub all_near : Near r.tags.0
  all_near = record { each = λ f h. raised_near r.sum.0 (tag_of r f) (raised_fits f h) sum_fits }

  -- the tag of a flow that waits is not below the clock, and so not below zero
  pub waiting_tag : (f : ℕ) → f < r.flows → 0 < waiting_of r f
      → (raised r.sum.0 (tag_of r f) ≡ natural (tag_of r f) + r.sum.0) × (r.clock.0 ≤ natural (tag_of r f))
  waiting_tag f l w =
      let h : f < 64 = omega (arith, F.few) in
      let low = (tag_waiting (r.clock.0 + r.sum.0) r.width (first.tag_of (raised_record r) f) (waiting_of r f)
      (F.each f l).tag w).0 in
      let same = raised_natural r.sum.0 (tag_of r f) (omega (arith, low, raised_tag r f h))
      (omega (arith, raised_fits f h)) in
      (same, omega (arith, same, low, raised_tag r f h))
