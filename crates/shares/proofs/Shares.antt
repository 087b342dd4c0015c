-- Demand 3 and the clock, proved of every run from an accepted opening (`Carried`), whichever flow of smallest tag a
-- pick takes (`Gives`). What they say is in specs/Shares.
-- Assumes nothing.
use Rattle.std.proofs.Common.{arith}
use Rattle.uplink.specs.State.{State}
use Rattle.uplink.specs.Calls.{pick}
use Rattle.shares.specs.Runs.{Carried}
use Rattle.shares.specs.Calls.{call_in_time}
use Rattle.shares.specs.Stretches.{carried_steady}
use Rattle.shares.specs.Shares.{ClockInTime, Share, share_with_front}

-- No picked packet leaves the server clock above its tag.
pub clock_in_time : {s : State} → Carried s → ClockInTime s
clock_in_time {s} c o gives flow length handle tag leapt clock e =
    rw e at (call_in_time s (carried_steady c) pick o tt gives)

-- Demand 3: 720 × W ≤ S × cost + 3Δ, over every stretch at whose every pick flow f has a packet waiting.
pub share : {s : State} → Carried s → Share s
share c f l stretch run waits = omega (arith, share_with_front c f l stretch run waits)
