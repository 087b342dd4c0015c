-- `lines::Script::run` meets its contract. What its loop keeps is in Invariants.
use Rattle.std.proofs.Common.{rules}
use Rattle.lines.proofs.Onward.{going_none, going_full, going_all, going_more}
use Rattle.lines.proofs.Script.run.Goals as goal

pub loop-at-init : goal.loop-at-init
loop-at-init g c = going_none _ _ _ _ _ _ _ (search rules)

pub returns-then-out-used-lt160 : goal.returns-then-out-used-lt160
returns-then-out-used-lt160 g c = search (rules, going_full)

pub loop-at-preserved : goal.loop-at-preserved
loop-at-preserved g c = search (rules, going_more)

pub returns : goal.returns
returns g c = search (rules, going_all)
