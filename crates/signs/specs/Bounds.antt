-- How far clock and tags reach. `src/lib.rt` asks it where a step could overflow.
-- Assumes nothing.
use Rattle.std.specs.Prelude.{List, ℕ, ◌+◌, ◌^◌, ◌<◌, ℤ, pos, get_or}
use Rattle.std.specs.Int.Signed.{mag}

-- Clock, sum of the leaps and tags of a well-formed record are nearer to zero than this. With the sum added the clock
-- is below 2^62 + 1,127,206,080, and a tag from 0 to 3Δ ahead of that clock, 3 × 1,126,080,000 at the most. Less a leap
-- or with a charge added, what is within reach still fits a signed number of 64 bits.
abbrev pub reach : ℕ
reach = 2 ^ 62 + 2 ^ 33

-- each of the 64 tags is within reach
pub record Near (tags : List ℤ) : Type 0 where
  pub each : (f : ℕ) → f < 64 → mag (get_or tags f (pos 0)) < reach
