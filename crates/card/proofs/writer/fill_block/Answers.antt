-- The body, then the sums of what was written.
use Rattle.std.proofs.Common.{rules, ◌≡◌, length}
use Rattle.card.proofs.Blocks.{block_written}
use Rattle.card.proofs.writer.fill_block.Goals as goal

pub returns : goal.returns
returns c =
    let all : length c.args.block.now.entries ≡ 31 = search rules in
    search (rules, block_written, all)
