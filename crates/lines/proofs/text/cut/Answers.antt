-- `lines::text::cut` meets its contract: it cuts at the first space, and where there is none the text is one field.
use Rattle.std.proofs.Common.{rules, tests, eqb}
use Rattle.std.proofs.lemmas.Iterator.{YieldsList-from_slice}
use Rattle.std.proofs.lemmas.Iterator.Search.{position_from_yields_List}
use Rattle.lines.specs.Text.{space}
use Rattle.lines.proofs.Seeking.{not_cut, cut_there}
use Rattle.lines.proofs.text.cut.Goals as goal

pub returns-in_err-end : goal.returns-in_err-end
returns-in_err-end c =
    let found = position_from_yields_List (λ b. eqb b space) _ _ _ c.position.ensures.ran (YieldsList-from_slice c.args.text.now cc) (λ x b q k. search (rules, tests)) in
    rw c.from_residual.ensures (not_cut c.args.text.now c.position.result found (c.in_err-end.was))

pub returns : goal.returns
returns c =
    let found = position_from_yields_List (λ b. eqb b space) _ _ _ c.position.ensures.ran (YieldsList-from_slice c.args.text.now cc) (λ x b q k. search (rules, tests)) in
    cut_there c.args.text.now c.position.result found c.in_ok-end.end c.in_ok-end.was
