-- `backward::Record::store` meets its contract: the packet is in its place, counted, and the flow tagged where it is alone.
use Rattle.backward.proofs.Arriving.{stored_first, stored_behind}
use Rattle.backward.proofs.Record.store.Goals as goal

pub returns-then-waiting-eq0 : goal.returns-then-waiting-eq0
returns-then-waiting-eq0 c = stored_first _ _ _ _ _ _ _ _ _ _ c.join-waiting.ensures c.store.ensures _ c.if-waiting-eq0.true c.tag_front.ensures

pub returns-else-waiting-eq0 : goal.returns-else-waiting-eq0
returns-else-waiting-eq0 c = stored_behind _ _ _ _ _ _ _ _ _ _ c.join-waiting.ensures c.store.ensures c.if-waiting-eq0.false
