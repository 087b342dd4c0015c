-- `cardgate::content::entries_in` meets its contract. What its loop keeps is in Invariants.
use Rattle.std.proofs.Common.{rules}
use Rattle.cardgate.proofs.Tests.{read_none, read_more, fit_none, fit_more, read_all, read_stopped, some_fit, none_fit}
use Rattle.cardgate.proofs.content.entries_in.Goals as goal

pub loop-place-init : goal.loop-place-init
loop-place-init c = record { made = search (rules, read_none); fit = search (rules, fit_none) }

pub loop-place-preserved : goal.loop-place-preserved
loop-place-preserved c =
    let found = some_fit _ _ _ c.in_ok-entry.ensures in
    record { made = search (rules, read_more); fit = search (rules, fit_more) }

pub returns-in_err-entry : goal.returns-in_err-entry
returns-in_err-entry c =
    let none = none_fit _ _ c.in_err-entry.ensures in
    search (rules, read_stopped)

pub returns : goal.returns
returns c = search (rules, read_all)
