-- `lines::Script::add_row` meets its contract: a row that is taken and one after the 65th are the two cases of the
-- rule.
use Rattle.std.proofs.Common.{refl}
use Rattle.lines.proofs.Stepping.{row_refused, row_taken}
use Rattle.lines.proofs.Script.add_row.Goals as goal

pub returns-then-is_full : goal.returns-then-is_full
returns-then-is_full g c = row_refused c.args.self _ _ _ _ (c.if-is_full.ensures.value) c.refuse.ensures

pub returns : goal.returns
returns g c =
    row_taken c.args.self _ _ _ _ (c.if-is_full.ensures.value) (c.if-is_full.ensures.fits) refl
    c.push.ensures.items c.push-2.ensures.items
