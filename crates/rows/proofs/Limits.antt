-- That each row of the limits holds, by computation.
-- Assumes nothing.
use Rattle.std.specs.Prelude.{◌≡◌, refl, true}
use Rattle.rows.specs.Script.{run, replies}
use Rattle.rows.specs.Row.{all_hold}
use Rattle.rows.specs.Limits.{limits}

-- every limit is where document 01 has it
pub limits_hold : all_hold limits ≡ true
unfolding limits run replies
limits_hold = refl
