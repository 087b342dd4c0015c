-- `listing::put_entries` meets its contract. The loop's invariant: the lines of the entries before this one have been
-- put, each of at most 134 bytes.
use Rattle.listing.proofs.Lining.{Entered}
use Rattle.listing.proofs.put_entries.Given as goal

abbrev pub invariant-loop-before : goal.invariant-loop-before
invariant-loop-before l = Entered l.initial.out l.place l.used l.at l.before l.out
