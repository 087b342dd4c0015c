-- `lines::writing::put_number` meets its contract: the digits that are put are the number's. The number has at most 20
-- digits, so there is room for them.
use Rattle.std.proofs.Common.{rules, ◌∙◌}
use Rattle.lines.proofs.Spacing.{number_room, number_put, number_end}
use Rattle.lines.proofs.writing.put_number.Goals as goal

pub append-requires : goal.append-requires
append-requires c = search (rules, number_room)

pub returns : goal.returns
returns c =
    let e = c.as_bytes.ensures.value ∙ c.format.ensures.text in
    let n = c.ranges.number.fits in
    (number_put _ _ e n _ _ _ _ c.append.ensures, number_end _ _ e n _ _ _ _ c.append.ensures)
