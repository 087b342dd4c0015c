-- `queues::form::Queues::lengths_ok` meets its contract: each flow that is asked is one of the first.
use Rattle.std.proofs.Common.{◌≡◌, true, false, rules, refl, arith}
use borrow.Author.Tests.{tests}
use Rattle.std.proofs.lemmas.Iterator.{cases_from_all, YieldsList-from_range}
use Rattle.queues.proofs.Testing.{all_asked, formed_at}
use Rattle.queues.proofs.Queues.lengths_ok.Goals as goal

pub returns : goal.returns
returns c =
    all_asked (formed_at c.args.self.now c.args.lengths.now) c.args.flows _
    (cases_from_all _ _ _ (λ f. formed_at c.args.self.now c.args.lengths.now f ≡ true)
    (λ f. formed_at c.args.self.now c.args.lengths.now f ≡ false)
    c.all.ensures.ran (YieldsList-from_range 0 c.args.flows c.args.flows refl (omega arith)) (λ x q k. search (rules, tests)) (λ x q k. search (rules, tests)))
