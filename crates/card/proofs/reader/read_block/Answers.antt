-- `card::reader::read_block` meets its contract: one law for each way through it.
use Rattle.std.proofs.Common.{rules}
use Rattle.card.proofs.Ways.{read_short, read_sums, read_head, read_field, read_done}
use Rattle.card.proofs.reader.read_block.Goals as goal
use Rattle.card.proofs.reader.read_block.Goals.{then-zeros-ne0-via-then-zeros-ne0, then-zeros-ne0-via-else-zeros-ne0+then-not-is_legal}

pub returns-in_default : goal.returns-in_default
returns-in_default c = search (rules, read_short)

pub returns-then-not-sums_right : goal.returns-then-not-sums_right
returns-then-not-sums_right c = search (rules, read_sums)

pub returns-then-zeros-ne0 : goal.returns-then-zeros-ne0
returns-then-zeros-ne0 c =
    elim c.then-zeros-ne0.branch [
      | then-zeros-ne0-via-then-zeros-ne0 w ↦ search (rules, read_head)
      | then-zeros-ne0-via-else-zeros-ne0+then-not-is_legal w ↦ search (rules, read_field)
    ]

pub returns : goal.returns
returns c = search (rules, read_done)
