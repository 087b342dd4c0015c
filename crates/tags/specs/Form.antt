-- What "well formed" asks of the tags: document 01, "The record", the bullet on tags, and of that on the flows beyond
-- the number of flows their tags. Tags and numbers waiting are given by the flow's number: nothing of a layout.
-- `src/form.rt` cites it, and so does the form of the record.
-- Assumes nothing.
use Rattle.std.specs.Prelude.{ℕ, ◌+◌, ◌*◌, Bool, cond, ◌||◌, ◌==◌, nat_le, nat_lt}
use Rattle.below.specs.Below.{all_below}
use Rattle.cost.specs.Cost.{within}

-- "a waiting flow's tag is at least the clock and at most clock + 3Δ; any other flow's tag is at most clock + 2Δ"
unfoldable pub tag_formed : ℕ → ℕ → ℕ → ℕ → Bool
tag_formed clock width tag waiting =
    cond (waiting == 0) (nat_le tag (clock + 2 * width)) (within clock (clock + 3 * width) tag)

-- so of each flow that counts
unfoldable pub tags_formed : ℕ → ℕ → ℕ → (ℕ → ℕ) → (ℕ → ℕ) → Bool
tags_formed flows width clock tag waiting = all_below (λ f. tag_formed clock width (tag f) (waiting f)) flows

-- of "all fields of flows beyond the number of flows are 0", the tags
unfoldable pub tags_spare : ℕ → (ℕ → ℕ) → Bool
tags_spare flows tag = all_below (λ f. nat_lt f flows || tag f == 0) 64
