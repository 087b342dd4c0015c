-- `fields::write_number` meets its contract. The loop's invariant: the bytes before this one and those of what is left
-- of the number are the number's bytes.
use Rattle.fields.proofs.Numbers.{Putting}
use Rattle.fields.proofs.write_number.Given as goal

abbrev pub invariant-loop-byte : goal.invariant-loop-byte
invariant-loop-byte l = Putting l.initial.bytes l.number l.bytes l.left l.byte-index
