-- `cardgate::content::write_entries` meets its contract. What its loop keeps is in Invariants.
use Rattle.std.proofs.Common.{rules}
use Rattle.cardgate.proofs.Words.{filling_more, filling_all}
use Rattle.cardgate.proofs.content.write_entries.Goals as goal

pub loop-place-preserved : goal.loop-place-preserved
loop-place-preserved c = search (rules, filling_more)

pub returns : goal.returns
returns c = search (rules, filling_all)
