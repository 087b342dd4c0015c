-- `tags::ServerTags::are_ok` meets its contract: `all` tests each tag beside the number waiting.
use Rattle.std.proofs.Common.{rules, tests, ℕ, ◌∙◌, take, length, ◌≡◌, arith}
use Rattle.std.proofs.lemmas.Iterator.{YieldsList-from_zip, YieldsList-from_slice}
use Rattle.std.proofs.lemmas.Iterator.Search.{all_from_yields_List}
use Rattle.tags.specs.Form.{tag_formed}
use Rattle.tags.proofs.Forming.{pairs_formed}
use Rattle.tags.proofs.ServerTags.are_ok.Goals as goal

pub returns : goal.returns
returns c =
    let tags = c.args.self.now.0 in
    let waits = c.args.waiting.now in
    let long : length tags ≡ 64 = search rules in
    all_from_yields_List (λ (p : ℕ × ℕ). tag_formed c.args.clock c.args.width p.0 p.1) c.all.new.self _ _
    c.all.ensures.ran
    (YieldsList-from_zip (YieldsList-from_slice (take c.args.flows tags) (search rules))
    (YieldsList-from_slice (take c.args.flows waits) (search rules)))
    (λ x b q k. search (rules, tests))
    ∙ pairs_formed tags waits c.args.flows c.args.width c.args.clock (omega arith) (omega arith)
