-- `lines::running::run_through` meets its contract. The loop's invariant: the lines up to `at` have been run, and their
-- output is written. The measure is what is left of the input.
use Rattle.std.proofs.Common.{length, ◌-◌}
use Rattle.lines.specs.Step.{script_state}
use Rattle.lines.proofs.Playing.{Played}
use Rattle.lines.proofs.running.run_through.Given as goal

abbrev pub invariant-loop-at : goal.invariant-loop-at
invariant-loop-at g l =
    Played g.E.Engine.rules (g.W.Write.contents l.initial.writer) (g.W.Write.contents l.writer) l.input
    (script_state l.script l.lengths l.handles) l.at l.out

abbrev pub decreases-loop-at : goal.decreases-loop-at
decreases-loop-at g l = length l.input - l.at
