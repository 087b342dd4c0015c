-- Demand 3 speaks of the worked runs of specs/Bites.
-- Assumes nothing.
use Rattle.std.specs.Prelude.{ℕ, ◌*◌, ◌≤◌}
use Rattle.std.proofs.Common.{arith}
use Rattle.shares.specs.Runs.{Stretch, picked}
use Rattle.shares.specs.Worked.{Worked, begin_of, stretch_of, bound_of, Shows}
use Rattle.shares.specs.Bites.{fair, fair_shows, headed, headed_shows, lazy, lazy_stretch, lazy_shows, lazy_breaks}
use Rattle.shares.proofs.Shares.{share}
use Rattle.shares.proofs.Rule.{rule_share}

-- demand 3 speaks of what document 01's rule makes of a worked run
worked_holds : (w : Worked) {f W S cost width : ℕ} → Shows w (stretch_of w) f W S cost width
    → 720 * picked (stretch_of w) ≤ bound_of w (stretch_of w) f 3
worked_holds w {f} shows =
    rule_share shows.begun.carried f shows.counts w.stretch shows.begun.plain shows.waits

-- of `fair`
pub fair_holds : 720 * picked (stretch_of fair) ≤ bound_of fair (stretch_of fair) 0 3
fair_holds = worked_holds fair fair_shows

-- of `headed`
pub headed_holds : 720 * picked (stretch_of headed) ≤ bound_of headed (stretch_of headed) 0 3
headed_holds = worked_holds headed headed_shows

-- so what it gives is no stretch of a run, whatever the tie rule
pub lazy_no_stretch : Stretch (begin_of lazy) lazy_stretch → ⊥
lazy_no_stretch run =
    omega (
      arith,
      lazy_breaks,
      share lazy_shows.begun.carried 0 lazy_shows.counts lazy_stretch run lazy_shows.waits,
    )
