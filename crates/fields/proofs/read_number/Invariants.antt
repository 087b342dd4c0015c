-- `fields::read_number` meets its contract. The loop's invariant: the number is that of the bytes that were read, from
-- the last one on, and fits as many bytes.
use Rattle.std.proofs.Common.{length}
use Rattle.fields.proofs.Numbers.{Reading}
use Rattle.fields.proofs.read_number.Given as goal

abbrev pub invariant-loop-byte : goal.invariant-loop-byte
invariant-loop-byte l = Reading l.bytes l.number (length l.yielded)
