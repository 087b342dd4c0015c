-- `lines::running::run_through` meets its contract. What its loop keeps is in Invariants.
use Rattle.std.proofs.Common.{rules, arith}
use Rattle.lines.specs.Running.{runs_onward_by}
use Rattle.lines.proofs.Playing.{played_none, played_more, played_all}
use Rattle.lines.proofs.running.run_through.Goals as goal

pub loop-at-init : goal.loop-at-init
loop-at-init g c = played_none _ _ _ _ _ c.start-script.ensures (omega arith)

pub loop-at-smaller : goal.loop-at-smaller
loop-at-smaller g c =
    omega (arith, runs_onward_by _ _ _ _ _ _ _ _ _ c.run-ran.ensures.exact c.loop-at.invariant.room c.loop-at-test.true)

pub loop-at-preserved : goal.loop-at-preserved
loop-at-preserved g c =
    played_more _ _ _ _ _ _ _ c.loop-at.invariant _ _ _ _ _ c.run-ran.ensures.exact (search rules) (search rules)

pub returns : goal.returns
returns g c = played_all _ _ _ _ _ _ _ c.loop-at.invariant c.loop-at-test.false
