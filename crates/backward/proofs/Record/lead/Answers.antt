-- `backward::Record::lead` meets its contract: the leader by the tags above zero is the leader by the tags.
use Rattle.backward.proofs.Picking.{keyed, led}
use Rattle.backward.proofs.Record.lead.Goals as goal

pub choose-requires : goal.choose-requires
choose-requires c = keyed c.args.self.now _ c.naturals.ensures _ c.from.ensures c.requires.0 c.requires.1

pub returns : goal.returns
returns c = led c.args.self.now _ c.naturals.ensures _ c.from.ensures c.requires.0 _ c.choose.ensures
