-- `uplink::Record::opened` meets its contract: the record is that of the table, and both memories are cleared.
use Rattle.std.proofs.Common.{arith}
use Rattle.queues.specs.Openable.{opened_shares, width_fits}
use Rattle.uplink.proofs.Opens.{tabled}
use Rattle.uplink.proofs.Record.opened.Goals as goal

pub widest-width-requires : goal.widest-width-requires
widest-width-requires c = (c.requires.few, opened_shares _ _ _ _ _ c.requires _ c.opened-queues.ensures)

pub overflow_cast-result : goal.overflow_cast-result
overflow_cast-result c = omega (arith, c.widest-width.ensures, width_fits _ _ _ _ _ c.requires _ c.opened-queues.ensures)

pub returns : goal.returns
returns c = (
  tabled _ _ _ _ _ _ c.opened-queues.ensures c.blank.ensures c.widest-width.ensures,
  rw c.requires.lengths_lent at c.clear.ensures.0,
  rw c.requires.handles_lent at c.clear.ensures.1,
)
