-- `sums::sums_of` meets its contract. The loop's invariant: both are the sums over the bytes before this one.
use Rattle.sums.proofs.Summing.{Summed}
use Rattle.sums.proofs.sums_of.Given as goal

abbrev pub invariant-loop-summed : goal.invariant-loop-summed
invariant-loop-summed l = Summed l.block l.first l.second l.summed-index
