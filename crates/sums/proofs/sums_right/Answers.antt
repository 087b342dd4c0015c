-- `sums::sums_right` meets its contract: one law for each way through it.
use Rattle.std.proofs.Common.{rules}
use Rattle.sums.proofs.Summing.{right_first, right_second}
use Rattle.sums.proofs.sums_right.Goals as goal

pub returns-then-first-from : goal.returns-then-first-from
returns-then-first-from c = search (rules, right_second)

pub returns-else-first-from : goal.returns-else-first-from
returns-else-first-from c = search (rules, right_first)
