-- `entries::write_entry` meets its contract: field by field, and what a lent part gives back is as long as it was.
use Rattle.std.proofs.Common.{rules}
use Rattle.entries.proofs.Entering.{entry_written}
use Rattle.entries.proofs.write_entry.Goals as goal

pub returns : goal.returns
returns c = search (rules, entry_written)
