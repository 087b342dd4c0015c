-- `listing::put_head` meets its contract: the number, the fields and the word, one behind the other, are the head.
use Rattle.std.proofs.Common.{rules}
use Rattle.listing.proofs.Lining.{three_put}
use Rattle.listing.proofs.put_head.Goals as goal

pub returns : goal.returns
returns c = (search (rules, three_put), search rules)
