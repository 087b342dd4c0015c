-- `cardgate::content::entries_in` meets its contract. The loop's invariant: the words of the entries before this place
-- fit, and these have been read.
use Rattle.std.proofs.Common.{◌≡◌, true}
use Rattle.below.specs.Below.{all_below}
use Rattle.below.specs.Made.{Made}
use Rattle.entries.specs.Entry.{no_entry}
use Rattle.cardgate.specs.Content.{place_in, place_fit}
use Rattle.cardgate.proofs.content.entries_in.Given as goal

abbrev pub invariant-loop-place : goal.invariant-loop-place
invariant-loop-place l = record {
  made : Made (place_in l.words) no_entry 31 l.place l.entry-items;
  fit : all_below (place_fit l.words) l.place ≡ true;
}
