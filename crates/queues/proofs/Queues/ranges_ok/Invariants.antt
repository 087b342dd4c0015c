-- `queues::form::Queues::ranges_ok` meets its contract. The loop's invariant: `wrong` is 0 where the flows looked at are in
-- range.
use Rattle.std.proofs.Common.{◌≡◌, eqb}
use Rattle.below.specs.Below.{all_below}
use Rattle.queues.proofs.Testing.{ranged_at}
use Rattle.queues.proofs.Queues.ranges_ok.Given as goal

abbrev pub invariant-loop-at : goal.invariant-loop-at
invariant-loop-at l = eqb l.wrong 0 ≡ all_below (ranged_at l.self) l.at
