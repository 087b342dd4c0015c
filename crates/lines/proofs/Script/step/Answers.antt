-- `lines::Script::step` meets its contract: a line that says a row adds it, and a bad one changes nothing.
use Rattle.std.proofs.Common.{◌∙◌, ap, Some}
use Rattle.lines.proofs.Stepping.{step_row, step_bad}
use Rattle.lines.proofs.Script.step.Goals as goal

pub returns-in-Some-Row : goal.returns-in-Some-Row
returns-in-Some-Row g c =
    record {
      exact = step_row _ c.args.self _ _ _ _ c.read.ensures _ _ _ _ (c.in-Some-Row.is ∙ ap Some c.in-Some-Row.field-0-is) c.add_row.ensures;
    }

pub returns-in-None : goal.returns-in-None
returns-in-None g c =
    record { exact = step_bad _ c.args.self _ _ _ _ c.read.ensures _ _ c.in-None.is c.refuse.ensures }
