-- `listing::put_entries` meets its contract. What its loop keeps is in Invariants.
use Rattle.std.proofs.Common.{rules}
use Rattle.listing.proofs.Lining.{entered_none, entered_more, entered_all, used_put}
use Rattle.listing.proofs.put_entries.Goals as goal

pub loop-before-init : goal.loop-before-init
loop-before-init c = search (rules, entered_none)

pub loop-before-preserved : goal.loop-before-preserved
loop-before-preserved c = search (rules, entered_more)

pub returns : goal.returns
returns c =
    used_put _ _ _ _ _ _ c.min.ensures c.told-entries
    (entered_all _ _ _ _ _ _ c.loop-before.invariant c.loop-before-test.false)
