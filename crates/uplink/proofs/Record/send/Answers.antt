-- `uplink::Record::send` meets its contract: the front packet goes, and the one behind it gets its tag.
use Rattle.std.proofs.Common.{◌∙◌, arith}
use Rattle.uplink.proofs.Picking.{leap_most, fronting, sent_more, sent_last}
use Rattle.uplink.proofs.Record.send.Goals as goal
use Rattle.uplink.proofs.Record.send.Goals.{then-waiting-gt1, else-waiting-gt1}

pub advance_clocks-requires : goal.advance_clocks-requires
advance_clocks-requires c = let leap = leap_most _ _ _ _ c.leap-leap.ensures in
    (omega (arith, leap, c.requires.clock, c.requires.width), omega (arith, c.requires.link))

pub tag_front-requires : goal.tag_front-requires
tag_front-requires c =
    fronting _ _ _ _ _ c.tag_at-tag.ensures _ c.leap-leap.ensures _ c.turn_after-self.ensures _ _ c.go_on-first.ensures _ _
    c.leave-waiting.ensures _ _ _ c.free-freed.ensures _ _ c.advance_clocks.ensures c.requires

pub returns : goal.returns
returns c = elim c.if-waiting-gt1.branch [
  | then-waiting-gt1 w ↦
      sent_more _ _ _ _ _ c.tag_at-tag.ensures _ c.leap-leap.ensures _ c.turn_after-self.ensures _ _ c.go_on-first.ensures _ _
      c.leave-waiting.ensures _ _ _ c.free-freed.ensures _ _ c.advance_clocks.ensures _ w.if-waiting-gt1.true
      (w.self-is ∙ w.tag_front.ensures)
  | else-waiting-gt1 w ↦
      sent_last _ _ _ _ _ c.tag_at-tag.ensures _ c.leap-leap.ensures _ c.turn_after-self.ensures _ _ c.go_on-first.ensures _ _
      c.leave-waiting.ensures _ _ _ c.free-freed.ensures _ _ c.advance_clocks.ensures _ w.if-waiting-gt1.false w.self-is
]
