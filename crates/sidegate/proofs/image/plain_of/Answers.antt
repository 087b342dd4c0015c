-- `sidegate::image::plain_of` meets its contract: each part of the block is read as the definition has it.
use Rattle.std.proofs.Common.{rules}
use mathlib.Core.Path.{ap, ◌∙◌}
use Rattle.below.specs.Mapped.{listed_of_from_fn}
use Rattle.gateway.specs.Image.{record_of}
use Rattle.sidegate.proofs.Words.{signed_cast}
use Rattle.sidegate.proofs.Blocks.{plain_read}
use Rattle.sidegate.proofs.image.plain_of.Goals as goal

pub returns : goal.returns
returns c =
    let first = (rw c.unwrap.ensures at c.first_chunk.ensures.cases).same in
    plain_read c.args.words.now _ _ (c.record_of-first.ensures ∙ ap record_of first)
    (listed_of_from_fn _ _ _ _ _ (λ k h y q call. search (rules, signed_cast)) c.from_fn.ensures.items)
