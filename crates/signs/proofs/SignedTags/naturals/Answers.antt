-- `signs::SignedTags::naturals` meets its contract: each tag is taken as far as it is above zero.
use Rattle.std.proofs.Common.{rules, pos, SFits, w64, get_or}
use Rattle.below.specs.Mapped.{listed_of_from_fn}
use Rattle.signs.proofs.SignedTags.naturals.Goals as goal

pub returns : goal.returns
returns c =
    listed_of_from_fn _ _ _ _ _ (λ k h y q call.
    let fits : SFits w64 (get_or c.args.self.now.0 k (pos 0)) = search rules in
    search rules) c.from_fn.ensures.items
