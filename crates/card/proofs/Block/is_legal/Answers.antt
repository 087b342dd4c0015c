-- `card::Block::is_legal` meets its contract: one law for each way through it, and what each chain finds of its entries.
use Rattle.std.proofs.Common.{rules, arith, ◌∙◌, ◌≤◌, ◌≢◌}
use Rattle.std.proofs.lemmas.Bool.Decides.{nat_tests}
use Rattle.std.proofs.lemmas.Grind.{common_steps}
use Rattle.std.proofs.lemmas.Iterator.{YieldsList-from_slice}
use Rattle.std.proofs.lemmas.Iterator.Search.{all_from_yields_List}
use Rattle.entries.specs.Legal.{entry_legal, entry_blank}
use Rattle.card.specs.Block.{block_legal}
use Rattle.card.proofs.Ways.{legal_used, legal_unused}
use Rattle.card.proofs.Block.is_legal.Goals as goal

pub returns-then-not-contains : goal.returns-then-not-contains
unfolding block_legal
returns-then-not-contains c = grind (arith, nat_tests, common_steps)

pub returns-then-all : goal.returns-then-all
returns-then-all c =
    let some : c.from-count.result ≢ 0 = grind (arith, nat_tests) in
    let few : c.from-count.result ≤ 31 = grind (arith, nat_tests) in
    let used = all_from_yields_List entry_legal _ _ _ c.all.ensures.ran
    (YieldsList-from_slice _ (c.iter.ensures.rest ∙ c.split_at.ensures.front)) (λ x b q k. search rules) in
    let unused = all_from_yields_List entry_blank _ _ _ c.all-then-all.ensures.ran
    (YieldsList-from_slice _ (c.iter-then-all.ensures.rest ∙ c.split_at.ensures.back)) (λ x b q k. search rules) in
    legal_unused _ c.from-count.ensures some few (search rules) used c.if-all.true unused

pub returns-else-all : goal.returns-else-all
returns-else-all c =
    let some : c.from-count.result ≢ 0 = grind (arith, nat_tests) in
    let few : c.from-count.result ≤ 31 = grind (arith, nat_tests) in
    let used = all_from_yields_List entry_legal _ _ _ c.all.ensures.ran
    (YieldsList-from_slice _ (c.iter.ensures.rest ∙ c.split_at.ensures.front)) (λ x b q k. search rules) in
    legal_used _ c.from-count.ensures some few (search rules) used c.if-all.false
