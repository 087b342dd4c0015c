-- `queues::lengths::stretch_ok` meets its contract. The loop's invariant: `wrong` is 0 where each length below k is
-- from 1 to `largest`. The measure is what is left of the stretch.
use Rattle.std.proofs.Common.{◌≡◌, eqb, get_or}
use Rattle.below.specs.Below.{all_below}
use Rattle.cost.specs.Cost.{within}
use Rattle.queues.proofs.lengths.stretch_ok.Given as goal

abbrev pub invariant-loop-length : goal.invariant-loop-length
invariant-loop-length l = eqb l.wrong 0 ≡ all_below (λ i. within 1 l.largest (get_or l.stretch i 0)) l.length-index
