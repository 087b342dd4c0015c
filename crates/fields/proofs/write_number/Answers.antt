-- `fields::write_number` meets its contract. What its loop keeps is in Invariants.
use Rattle.std.proofs.Common.{rules}
use Rattle.fields.proofs.Numbers.{putting_none, putting_more, putting_all}
use Rattle.fields.proofs.write_number.Goals as goal

pub loop-byte-init : goal.loop-byte-init
loop-byte-init c = search (rules, putting_none)

pub loop-byte-preserved : goal.loop-byte-preserved
loop-byte-preserved c = search (rules, putting_more)

pub returns : goal.returns
returns c = search (rules, putting_all)
