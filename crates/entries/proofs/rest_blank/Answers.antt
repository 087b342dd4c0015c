-- `entries::rest_blank` meets its contract: the kind is equal to itself, and the rest goes field by field.
use Rattle.std.proofs.Common.{◌∙◌, refl, eq-eqb}
use Rattle.entries.specs.Legal.{rest_blank}
use Rattle.entries.proofs.rest_blank.Goals as goal

pub returns : goal.returns
unfolding rest_blank
returns c = c.eq.ensures ∙ rw (eq-eqb c.args.entry.kind c.args.entry.kind refl, c.no_entry.ensures)
