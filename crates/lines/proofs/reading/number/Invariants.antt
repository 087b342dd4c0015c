-- `lines::reading::number` meets its contract. The loop's invariant: the bytes so far are digits, and `value` is their
-- value.
use Rattle.lines.proofs.Digits.{Reads}
use Rattle.lines.proofs.reading.number.Given as goal

abbrev pub invariant-loop-byte : goal.invariant-loop-byte
invariant-loop-byte l = Reads l.field l.value l.byte-index
