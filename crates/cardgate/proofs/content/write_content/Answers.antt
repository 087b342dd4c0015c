-- `cardgate::content::write_content` meets its contract: two words and the lent part of the entries.
use Rattle.std.proofs.Common.{rules, ◌≡◌, length}
use Rattle.cardgate.proofs.Words.{content_written}
use Rattle.cardgate.proofs.content.write_content.Goals as goal

pub returns : goal.returns
returns c =
    let long : length c.write_entries.new.words ≡ 155 = search rules in
    search (rules, content_written, long)
