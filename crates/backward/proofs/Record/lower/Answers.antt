-- `backward::Record::lower` meets its contract: the tags go down, and the sum goes on.
use Rattle.backward.proofs.Picking.{lowered_as}
use Rattle.backward.proofs.Record.lower.Goals as goal

pub returns : goal.returns
returns c = lowered_as c.args.self.now _ _ c.lower.ensures c.from.ensures
