-- `cardgate::content::write_entries` meets its contract. The loop's invariant: the words of the entries before this
-- place have been written.
use Rattle.cardgate.proofs.Words.{Filling}
use Rattle.cardgate.proofs.content.write_entries.Given as goal

abbrev pub invariant-loop-place : goal.invariant-loop-place
invariant-loop-place l = Filling l.entries l.initial.words l.words l.place
