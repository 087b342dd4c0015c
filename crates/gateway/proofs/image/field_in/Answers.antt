-- `gateway::image::field_in` meets its contract. What its loop keeps is in Invariants.
use native.Mathlib.Omega.{arith}
use lib.ListN.{replicate}
use Rattle.below.specs.Copied.{copied_all}
use Rattle.gateway.specs.Images.{in_length_lem}
use Rattle.gateway.proofs.Blocks.{entries_more}
use Rattle.gateway.proofs.image.field_in.Goals as goal

pub loop-k-preserved : goal.loop-k-preserved
loop-k-preserved c = entries_more c.args.words.now c.loop-k.k c.loop-k.field (omega arith) c.loop-k.invariant

pub returns : goal.returns
returns c =
    let long = in_length_lem c.args.words.now in
    copied_all _ (replicate 64 0) long _ _ (omega (arith, long)) (omega (arith, long)) c.loop-k.invariant
