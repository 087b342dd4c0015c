-- `backward::Record::serve` meets its contract: the packet goes, the clocks go on, and the next one is tagged.
use Rattle.backward.proofs.Picking.{fronting, served_more, served_last}
use Rattle.backward.proofs.Record.serve.Goals as goal

pub tag_front-requires : goal.tag_front-requires
tag_front-requires c =
    fronting _ _ _ _ _ _ c.go_on-first.ensures _ _ c.leave-waiting.ensures _ _ _ c.free-freed.ensures _ _
    c.advance_clocks.ensures c.requires.0 c.requires.1

pub returns-then-waiting-gt1 : goal.returns-then-waiting-gt1
returns-then-waiting-gt1 c =
    served_more _ _ _ _ _ _ c.go_on-first.ensures _ _ c.leave-waiting.ensures _ _ _ c.free-freed.ensures _ _
    c.advance_clocks.ensures _ c.if-waiting-gt1.true c.tag_front.ensures

pub returns-else-waiting-gt1 : goal.returns-else-waiting-gt1
returns-else-waiting-gt1 c =
    served_last _ _ _ _ _ _ c.go_on-first.ensures _ _ c.leave-waiting.ensures _ _ _ c.free-freed.ensures _ _
    c.advance_clocks.ensures c.if-waiting-gt1.false
