-- That each of the rows P1 to P12 holds, by computation.
-- Assumes nothing.
use Rattle.std.specs.Prelude.{◌≡◌, refl, true}
use Rattle.rows.specs.Script.{run, replies}
use Rattle.rows.specs.Examples.{both_wait, flow1_waits, none_waits, before_leap, after_leap}
use Rattle.rows.specs.Row.{all_hold}
use Rattle.rows.specs.Rows.{rows}

-- "with a single claim over the rows"
pub rows_hold : all_hold rows ≡ true
unfolding rows run replies both_wait flow1_waits none_waits before_leap after_leap
rows_hold = refl
