-- `signs::SignedTags::lower` meets its contract: at the end of the loop every tag is lowered.
use Rattle.std.proofs.Common.{pos, ◌∙◌, arith}
use Rattle.std.proofs.lemmas.List.{get_or_default}
use Rattle.below.specs.Mapped.{listed_of}
use Rattle.signs.proofs.SignedTags.lower.Goals as goal

pub returns : goal.returns
returns c =
    listed_of _ _ _ c.loop-tag-test.array_long
    (λ k h. get_or_default c.loop-tag.tag-items k _ (pos 0) (omega arith)
    ∙ c.loop-tag.invariant.lowered_before k (omega arith))
