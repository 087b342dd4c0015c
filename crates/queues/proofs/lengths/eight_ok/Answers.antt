-- `queues::lengths::eight_ok` meets its contract: the pair of this turn stands behind those so far.
use Rattle.std.proofs.Common.{length-append}
use Rattle.std.proofs.lemmas.Slice.Zip.{zip_turn}
use Rattle.queues.proofs.Forming.{eight_turn}
use Rattle.queues.proofs.lengths.eight_ok.Goals as goal

pub loop-length-preserved : goal.loop-length-preserved
loop-length-preserved c =
    let z = zip_turn c.args.window.now c.args.fence.now c.loop-length.yielded c.into_iter-length-iterator.result c.loop-length.length-iterator
    c.next.new.self c.next.result (cc) (cc) c.loop-length.yielded_by _ c.in-Some.is c.next.ensures.steps in
    simp length-append (eight_turn _ _ _ _ _ _ (rw (z.2 0, z.3 0) at c.saturating_sub-wrong.ensures) c.loop-length.invariant)
