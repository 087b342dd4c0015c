-- `entries::read_entry` meets its contract: number by number.
use Rattle.std.proofs.Common.{rules}
use Rattle.entries.proofs.Entering.{entry_told}
use Rattle.entries.proofs.read_entry.Goals as goal

pub returns : goal.returns
returns c = search (rules, entry_told)
