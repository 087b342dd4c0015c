-- `queues::opening::booked` meets its contract: each of the 64 entries is the list's.
use Rattle.std.proofs.Common.{rules}
use Rattle.below.specs.Mapped.{listed_of_from_fn}
use Rattle.queues.specs.Opening.{field64}
use Rattle.queues.proofs.opening.booked.Goals as goal

pub returns : goal.returns
unfolding field64
returns c = listed_of_from_fn _ _ _ _ _ (λ f h entry q call. search rules) c.from_fn.ensures.items
