-- `queues::opening::table_reply` meets its contract. The loop's invariant: the flows so far are in range, and `sum` is
-- the sum of their shares.
use Rattle.std.proofs.Common.{length}
use Rattle.queues.proofs.Opens.{Passed}
use Rattle.queues.proofs.opening.table_reply.Given as goal

abbrev pub invariant-loop-f : goal.invariant-loop-f
invariant-loop-f l = Passed l.shares l.largest l.sum (length l.yielded)
