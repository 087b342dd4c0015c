-- `tags::ServerTags::rest_ok` meets its contract. The loop's invariant: `any` is 0 where every tag looked at is.
use Rattle.std.proofs.Common.{◌≡◌, ◌+◌, ◌||◌, eqb, ltb, get_or}
use Rattle.below.specs.Below.{all_below}
use Rattle.tags.proofs.ServerTags.rest_ok.Given as goal

abbrev pub invariant-loop-tag : goal.invariant-loop-tag
invariant-loop-tag l =
    eqb l.any 0 ≡ all_below (λ f. ltb f l.flows || eqb (get_or l.self.0 f 0) 0) (l.flows + l.tag-index)
