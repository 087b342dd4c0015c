-- `sums::sums_of` meets its contract. What its loop keeps is in Invariants.
use Rattle.std.proofs.Common.{◌≡◌, length, rules, arith}
use Rattle.sums.proofs.Summing.{summed_none, summed_more, summed_all, body_long}
use Rattle.sums.proofs.sums_of.Goals as goal

pub loop-summed-init : goal.loop-summed-init
loop-summed-init c = search (rules, summed_none)

pub loop-summed-preserved : goal.loop-summed-preserved
loop-summed-preserved c =
    let all : length c.args.block.now ≡ 512 = search rules in
    let long = body_long c.args.block.now all in
    let q = c.from-byte.ensures in
    summed_more c.loop-summed.invariant all (omega arith) (search rules)

pub returns : goal.returns
returns c =
    let all : length c.args.block.now ≡ 512 = search rules in
    let long = body_long c.args.block.now all in
    summed_all c.loop-summed.invariant (omega arith)
