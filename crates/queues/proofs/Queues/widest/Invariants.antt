-- `queues::opening::Queues::widest` meets its contract. The loop's invariant: `width` is the leap width of the flows
-- looked at.
use Rattle.std.proofs.Common.{◌≡◌, length}
use Rattle.below.specs.Below.{most_below}
use Rattle.queues.proofs.Testing.{ticks_at}
use Rattle.queues.proofs.Queues.widest.Given as goal

abbrev pub invariant-loop-share : goal.invariant-loop-share
invariant-loop-share l = l.width ≡ most_below (ticks_at l.header l.self.share l.self.largest) (length l.yielded)
