-- `queues::lengths::short_ok` meets its contract: the fence lets through the lengths past the last that waits.
use Rattle.std.proofs.Common.{arith}
use Rattle.queues.specs.Fence.{fencing}
use Rattle.queues.proofs.Forming.{short_queue}
use Rattle.queues.proofs.lengths.short_ok.Goals as goal

pub returns : goal.returns
unfolding fencing
returns c =
    short_queue _ _ _ _ _ _ (omega (arith, c.told-lengths, c.requires.flow_bound)) c.fits-lengths c.requires.first_bound.0
    c.requires.first_bound.1 c.requires.first_bound.2 c.ranges.largest.fits
    (rw (c.from.ensures, c.from-left.ensures) at c.eight_ok.ensures)
