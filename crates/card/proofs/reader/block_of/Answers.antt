-- `card::reader::block_of` meets its contract.
use Rattle.std.proofs.Common.{rules}
use Rattle.card.proofs.Blocks.{block_told}
use Rattle.card.proofs.reader.block_of.Goals as goal

pub returns : goal.returns
returns c = search (rules, block_told)
