-- `gateway::image::field_in` meets its contract. The loop's invariant: the entries of the words before k are read.
use Prim.Native.Nat.{◌*◌}
use lib.ListN.{replicate}
use Rattle.below.specs.Copied.{Copied}
use Rattle.gateway.specs.Image.{field_in}
use Rattle.gateway.proofs.image.field_in.Given as goal

abbrev pub invariant-loop-k : goal.invariant-loop-k
invariant-loop-k l = Copied (field_in l.words) (replicate 64 0) (4 * l.k) l.field
