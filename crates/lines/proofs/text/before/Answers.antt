-- `lines::text::before` meets its contract.
use Rattle.std.proofs.Common.{rules, tests, eqb, ◌∙◌}
use Rattle.std.proofs.lemmas.Iterator.{YieldsList-from_slice}
use Rattle.std.proofs.lemmas.Iterator.Search.{position_from_yields_List}
use Rattle.lines.proofs.Seeking.{found_place}
use Rattle.lines.proofs.text.before.Goals as goal

pub returns : goal.returns
returns c =
    let found = position_from_yields_List (λ b. eqb b c.args.mark) _ _ _ c.position.ensures.ran (YieldsList-from_slice c.args.text.now cc) (λ x b q k. search (rules, tests)) in
    c.unwrap_or.ensures ∙ found_place c.args.mark c.args.text.now c.position.result found
