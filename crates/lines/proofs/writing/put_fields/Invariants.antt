-- `lines::writing::put_fields` meets its contract. The loop's invariant: the fields so far have been put, and there is
-- room for the others.
use Rattle.lines.proofs.Spacing.{Fielded}
use Rattle.lines.proofs.writing.put_fields.Given as goal

abbrev pub invariant-loop-field : goal.invariant-loop-field
invariant-loop-field l = Fielded l.initial.out l.at l.fields l.end l.field-index l.out
