-- `card::writer::fill_body` meets its contract: head and entries, and what a lent part gives back is as long as it was.
use Rattle.std.proofs.Common.{rules, ◌≡◌, length}
use Rattle.card.proofs.Blocks.{body_written}
use Rattle.card.proofs.writer.fill_body.Goals as goal

pub returns : goal.returns
returns c =
    let all : length c.args.block.now.entries ≡ 31 = search rules in
    let blank = c.fill.ensures.after (λ y e. e) in
    search (rules, body_written, all)
