-- `tags::choice::led_on` meets its contract. The loop's invariant: `least` leads among the flows looked at, 64 for
-- nobody.
use Rattle.std.proofs.Common.{◌≡◌, ◌-◌, get_or}
use Rattle.tags.specs.Choice.{lead_as, lead_on}
use Rattle.tags.specs.Chosen.{Led}
use Rattle.tags.proofs.choice.led_on.Given as goal

abbrev pub invariant-loop-at : goal.invariant-loop-at
invariant-loop-at l =
    (lead_as l.least.flow l.least.key ≡ lead_on (λ g. get_or l.tags g 0) (λ g. get_or l.waiting g 0) (lead_as l.fn.lead.flow l.fn.lead.key) l.from (l.at - l.from))
    × Led (lead_as l.least.flow l.least.key)
