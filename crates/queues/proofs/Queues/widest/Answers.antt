-- `queues::opening::Queues::widest` meets its contract: the pair of this turn is the next flow's share and largest
-- packet.
use Rattle.std.proofs.Common.{◌≡◌, ◌∙◌, ap, arith, take, length, get_or, length-append, length-take, get_or-take}
use Rattle.std.proofs.lemmas.Slice.Zip.{zip_turn}
use Rattle.cost.specs.Cost.{cost_of}
use Rattle.queues.proofs.Testing.{width_turn}
use Rattle.queues.proofs.Queues.widest.Goals as goal

pub loop-share-preserved : goal.loop-share-preserved
loop-share-preserved c =
    let shares = c.args.self.now.share in
    let n = length c.loop-share.yielded in
    let z = zip_turn (take c.args.flows shares) c.args.self.now.largest c.loop-share.yielded
    c.into_iter-share-iterator.result c.loop-share.share-iterator c.next.new.self c.next.result (cc) (cc)
    c.loop-share.yielded_by _ c.in-Some.is c.next.ensures.steps in
    let share : c.in-Some.share.now ≡ get_or shares n 0 =
    z.2 0 ∙ get_or-take c.args.flows shares n 0 (omega (arith, z.0, length-take c.args.flows shares)) in
    simp length-append (width_turn c.args.header shares c.args.self.now.largest n _ _ _ _ c.loop-share.invariant
    (c.cost_at.ensures.found ∙ ap cost_of share) (rw (z.3 0) at c.charge_ticks.ensures.value) c.max-width.ensures)
