-- `lines::text::line_end` meets its contract: an input that has no place `from` has no line there.
use Rattle.std.proofs.Common.{arith}
use Rattle.lines.specs.Text.{line_feed}
use Rattle.lines.specs.Ends.{before_most}
use Rattle.lines.proofs.Seeking.{end_past}
use Rattle.lines.proofs.text.line_end.Goals as goal

pub overflow_add-result : goal.overflow_add-result
overflow_add-result c =
    let l = c.in-Some.ensures.lookup in
    omega (arith, c.before-in-Some.ensures, before_most line_feed c.in-Some.rest.now, l.0)

pub returns-in-None : goal.returns-in-None
returns-in-None c = end_past line_feed c.args.input.now c.args.from (c.in-None.ensures.lookup.0)
