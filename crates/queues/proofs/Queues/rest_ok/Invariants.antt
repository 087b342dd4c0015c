-- `queues::form::Queues::rest_ok` meets its contract. The loop's invariant: `any` is 0 where every field of the flows looked at
-- is.
use Rattle.std.proofs.Common.{◌≡◌, eqb}
use Rattle.below.specs.Below.{all_below}
use Rattle.queues.proofs.Testing.{spare_from}
use Rattle.queues.proofs.Queues.rest_ok.Given as goal

abbrev pub invariant-loop-at : goal.invariant-loop-at
invariant-loop-at l = eqb l.any 0 ≡ all_below (spare_from l.self l.flows) l.at
