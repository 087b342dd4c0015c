-- What the three calls of include/backward.h answer, and what they leave in all that is lent: the plain engine's rules
-- over the record that the block is the image of. What is lent and what is told is specs/Gateway.antt of the crate
-- `gateway`.
-- Assumes nothing.
use Rattle.std.specs.Prelude.{List, ℕ}
use Rattle.backward.specs.State.{State}
use Rattle.backward.specs.Opening.{opening_rule}
use Rattle.backward.specs.Arrival.{arrival_rule}
use Rattle.backward.specs.Pick.{pick_rule}
use Rattle.gateway.specs.Gateway.{Lent, Answered, number_of, with_flow, told, held_by, blocked, replied}
use Rattle.sidegate.specs.Image.{plain_words, plain_of}

-- the record that the block tells, with both memories
abbrev pub held : Lent → State
held lent = held_by plain_of lent

unfoldable pub plain_opening : List ℕ → List ℕ → ℕ → Lent → Answered
plain_opening shares largest header lent =
    blocked 133 lent (told plain_words with_flow (opening_rule shares largest header lent.lengths lent.handles) lent)

unfoldable pub plain_arrival : ℕ → ℕ → ℕ → Lent → Answered
plain_arrival flow length handle lent =
    blocked 133 lent (told plain_words number_of (arrival_rule (held lent) flow length handle) lent)

unfoldable pub plain_pick : Lent → Answered
plain_pick lent = blocked 133 lent (replied 6 lent (told plain_words number_of (pick_rule (held lent)) lent))
