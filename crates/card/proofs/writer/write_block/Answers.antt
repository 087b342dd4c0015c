-- `card::writer::write_block` meets its contract: one law for each way through it.
use Rattle.std.proofs.Common.{rules}
use Rattle.card.proofs.Ways.{write_short, write_field, write_done}
use Rattle.card.proofs.writer.write_block.Goals as goal

pub returns-in_default : goal.returns-in_default
returns-in_default c = search (rules, write_short)

pub returns-then-not-is_legal : goal.returns-then-not-is_legal
returns-then-not-is_legal c = search (rules, write_field)

pub returns : goal.returns
returns c = search (rules, write_done)
