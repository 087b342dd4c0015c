-- `backward::Record::leap` meets its contract: the leap is taken whole or not at all.
use Rattle.std.proofs.Math.Path.{refl}
use Rattle.backward.proofs.Picking.{leapt_so, leapt_not}
use Rattle.backward.proofs.Record.leap.Goals as goal

pub returns-then-leap : goal.returns-then-leap
returns-then-leap c = leapt_so c.args.self.now _ _ _ c.natural_tag.ensures c.leap-leap.ensures _ c.turn_after-self.ensures _
    c.if-leap.true c.lower.ensures

pub returns-else-leap : goal.returns-else-leap
returns-else-leap c = leapt_not c.args.self.now _ _ _ c.natural_tag.ensures c.leap-leap.ensures _ c.turn_after-self.ensures _
    c.if-leap.false refl
