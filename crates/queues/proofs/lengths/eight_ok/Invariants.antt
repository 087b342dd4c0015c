-- `queues::lengths::eight_ok` meets its contract. The loop's invariant: `wrong` is 0 where each length so far passes
-- the fence.
use Rattle.std.proofs.Common.{◌≡◌, eqb, get_or, length}
use Rattle.below.specs.Below.{all_below}
use Rattle.queues.specs.Fence.{fenced}
use Rattle.queues.proofs.lengths.eight_ok.Given as goal

abbrev pub invariant-loop-length : goal.invariant-loop-length
invariant-loop-length l =
    eqb l.wrong 0 ≡ all_below (λ i. fenced l.largest (get_or l.fence i 0) (get_or l.window i 0)) (length l.yielded)
