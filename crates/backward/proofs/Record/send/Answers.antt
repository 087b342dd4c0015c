-- `backward::Record::send` meets its contract: choose and leap, then advance and free.
use Rattle.backward.proofs.Picking.{soon_going, sent_as}
use Rattle.backward.proofs.Record.send.Goals as goal

pub serve-freed-requires : goal.serve-freed-requires
serve-freed-requires c = soon_going _ _ _ _ c.leap-leapt.ensures _ c.requires.0 c.requires.1

pub returns : goal.returns
returns c = sent_as _ _ _ _ c.leap-leapt.ensures _ _ _ _ _ _ _ _ c.natural_tag-tag.ensures c.serve-freed.ensures
