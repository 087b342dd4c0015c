-- `lines::Script::run` meets its contract. The loop's invariant: the lines from `from` up to `at` have been run, and
-- their output is collected. The measure is what is left of the input.
use Prim.Native.Nat.{◌-◌}
use lib.ListN.{length}
use Rattle.lines.proofs.Onward.{Going}
use Rattle.lines.proofs.Script.run.Given as goal

abbrev pub invariant-loop-at : goal.invariant-loop-at
invariant-loop-at g l =
    Going g.E.Engine.rules l.initial.script l.initial.lengths l.initial.handles l.initial.out l.input l.from
    l.script l.lengths l.handles l.out l.at l.used

abbrev pub decreases-loop-at : goal.decreases-loop-at
decreases-loop-at g l = length l.input - l.at
