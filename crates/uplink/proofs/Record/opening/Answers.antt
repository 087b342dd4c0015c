-- `uplink::Record::opening` meets its contract: each way through it is one case of the rule of an opening.
use Rattle.std.proofs.Common.{arith}
use Rattle.uplink.proofs.Opens.{taken, opening_done}
use Rattle.uplink.proofs.Record.opening.Goals as goal

pub overflow_cast-header : goal.overflow_cast-header
overflow_cast-header c = let o = taken _ _ _ _ _ _ c.opening_reply-reply.ensures _ c.in-Ok.is in omega (arith, o.short)

pub opened-next-requires : goal.opened-next-requires
opened-next-requires c = taken _ _ _ _ _ _ c.opening_reply-reply.ensures _ c.in-Ok.is

pub returns-in-Ok : goal.returns-in-Ok
returns-in-Ok c =
    record { exact = opening_done _ _ _ _ _ _ c.opening_reply-reply.ensures _ c.in-Ok.is _ _ _ c.opened-next.ensures }
