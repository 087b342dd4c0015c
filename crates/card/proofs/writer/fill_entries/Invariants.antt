-- `card::writer::fill_entries` meets its contract. The loop's invariant: the entries before this place have been
-- written.
use Rattle.card.proofs.Blocks.{Filling}
use Rattle.card.proofs.writer.fill_entries.Given as goal

abbrev pub invariant-loop-place : goal.invariant-loop-place
invariant-loop-place l = Filling l.entries l.initial.bytes l.bytes l.place
