-- `lines::writing::put_fields` meets its contract. What its loop keeps is in Invariants.
use Rattle.std.proofs.Common.{rules}
use Rattle.lines.proofs.Spacing.{fielded_none, fielded_more}
use Rattle.lines.proofs.writing.put_fields.Goals as goal

pub loop-field-init : goal.loop-field-init
loop-field-init c = search (rules, fielded_none)

pub loop-field-preserved : goal.loop-field-preserved
loop-field-preserved c = search (rules, fielded_more)
