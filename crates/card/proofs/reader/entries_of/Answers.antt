-- `card::reader::entries_of` meets its contract: each call of the closure reads the entry of its place.
use Rattle.std.proofs.Common.{rules}
use Rattle.below.specs.Mapped.{listed_of_from_fn}
use Rattle.card.proofs.Blocks.{lent_entry}
use Rattle.card.proofs.reader.entries_of.Goals as goal

pub returns : goal.returns
returns c =
    listed_of_from_fn _ _ _ _ _ (λ k h entry q called. (search rules, search (rules, lent_entry)))
    c.from_fn.ensures.items
