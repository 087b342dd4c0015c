-- `tags::ServerTags::choose` meets its contract: the two stretches are the search from the turn on, counting round.
use Rattle.tags.proofs.Choosing.{second_stretch, found_some, found_none}
use Rattle.tags.proofs.ServerTags.choose.Goals as goal

pub led_on-least-requires : goal.led_on-least-requires
led_on-least-requires c =
    second_stretch c.args.turn c.args.self.now.0 c.args.waiting.now c.args.flows
    c.requires.0 c.requires.1 _ c.search_from-from.ensures _ _ c.led_on-later.ensures

pub returns-then-least-lt64 : goal.returns-then-least-lt64
returns-then-least-lt64 c =
    found_some c.args.turn c.args.self.now.0 c.args.waiting.now c.args.flows
    c.requires.0 c.requires.1 _ c.search_from-from.ensures _ _ _ _ c.led_on-later.ensures
    c.led_on-least.ensures c.if-least-lt64.true

pub returns-else-least-lt64 : goal.returns-else-least-lt64
returns-else-least-lt64 c =
    found_none c.args.turn c.args.self.now.0 c.args.waiting.now c.args.flows
    c.requires.0 c.requires.1 _ c.search_from-from.ensures _ _ _ _ c.led_on-later.ensures
    c.led_on-least.ensures c.if-least-lt64.false
