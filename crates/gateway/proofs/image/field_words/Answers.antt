-- `gateway::image::field_words` meets its contract: each word is made by the rule.
use Rattle.std.proofs.Common.{rules}
use Rattle.below.specs.Mapped.{listed_of_from_fn}
use Rattle.gateway.specs.Image.{field_words}
use Rattle.gateway.proofs.image.field_words.Goals as goal

pub returns : goal.returns
unfolding field_words
returns c = listed_of_from_fn _ _ _ _ _ (λ k h y q call. search rules) c.from_fn.ensures.items
