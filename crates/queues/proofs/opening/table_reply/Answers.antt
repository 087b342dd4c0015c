-- `queues::opening::table_reply` meets its contract. What its loop keeps is in Invariants.
use Rattle.std.proofs.Common.{length-append}
use Rattle.queues.proofs.Opens.{turn_here, turns_end, passed_none, passed_more}
use Rattle.queues.proofs.Opens.{share_refused, largest_refused, sum_refused, table_done}
use Rattle.queues.proofs.opening.table_reply.Goals as goal

pub loop-f-init : goal.loop-f-init
loop-f-init c = passed_none _ _

pub returns-then-not-share : goal.returns-then-not-share
returns-then-not-share c =
    share_refused _ _ _ _ c.loop-f.invariant _ _ _ (turn_here c.args.shares.now c.args.largest.now
    c.into_iter-f-iterator.result (cc) (cc) (cc) c.requires.0 c.loop-f.yielded c.loop-f.f-iterator c.next.new.self
    c.loop-f.yielded_by c.next.result c.next.ensures.steps _ c.in-Some.is) c.if-not-share.true

pub returns-then-not-packet : goal.returns-then-not-packet
returns-then-not-packet c =
    largest_refused _ _ _ _ c.loop-f.invariant _ _ _ (turn_here c.args.shares.now c.args.largest.now
    c.into_iter-f-iterator.result (cc) (cc) (cc) c.requires.0 c.loop-f.yielded c.loop-f.f-iterator c.next.new.self
    c.loop-f.yielded_by c.next.result c.next.ensures.steps _ c.in-Some.is) c.if-not-share.false c.if-not-packet.true

pub loop-f-preserved : goal.loop-f-preserved
loop-f-preserved c =
    simp length-append (passed_more _ _ _ _ c.loop-f.invariant _ _ _ (turn_here c.args.shares.now c.args.largest.now
    c.into_iter-f-iterator.result (cc) (cc) (cc) c.requires.0 c.loop-f.yielded c.loop-f.f-iterator c.next.new.self
    c.loop-f.yielded_by c.next.result c.next.ensures.steps _ c.in-Some.is) c.requires.1 c.if-not-share.false c.if-not-packet.false)

pub returns-then-sum-gt1000 : goal.returns-then-sum-gt1000
returns-then-sum-gt1000 c =
    sum_refused _ _ _ _ c.loop-f.invariant (turns_end c.args.shares.now c.args.largest.now
    c.into_iter-f-iterator.result (cc) (cc) (cc) c.requires.0 c.loop-f.yielded c.loop-f.f-iterator c.next.new.self
    c.loop-f.yielded_by c.next.result c.next.ensures.steps c.in-None.is) c.if-sum-gt1000.true

pub returns : goal.returns
returns c =
    table_done _ _ _ _ c.loop-f.invariant (turns_end c.args.shares.now c.args.largest.now
    c.into_iter-f-iterator.result (cc) (cc) (cc) c.requires.0 c.loop-f.yielded c.loop-f.f-iterator c.next.new.self
    c.loop-f.yielded_by c.next.result c.next.ensures.steps c.in-None.is) c.if-sum-gt1000.false
