-- `sidegate::image::write_plain` meets its contract: each part of the block is written as the definition has it.
use Rattle.std.proofs.Common.{rules}
use lib.IntN.{pos}
use lib.ListN.{get_or}
use mir.Syntax.{w64}
use mir.Val.{SFits}
use Rattle.below.specs.Mapped.{listed_of_from_fn}
use Rattle.sidegate.proofs.Words.{word_cast}
use Rattle.sidegate.proofs.Blocks.{plain_written}
use Rattle.sidegate.proofs.image.write_plain.Goals as goal

pub returns : goal.returns
returns c =
    plain_written c.args.words.now c.args.r _ _ c.told-words
    (listed_of_from_fn _ _ _ _ _
    (λ k h y q call.
    let f : SFits w64 (get_or c.args.r.tags.0 k (pos 0)) = search rules in (search rules, search (rules, word_cast)))
    c.from_fn.ensures.items)
    c.write_record.ensures
