-- `listing::put_row` meets its contract: the head, the fields and the line feed, one behind the other, are the line.
use Rattle.std.proofs.Common.{rules}
use Rattle.listing.proofs.Lining.{three_put}
use Rattle.listing.proofs.put_row.Goals as goal

pub returns : goal.returns
returns c = (search (rules, three_put), search rules)
