-- What the four calls of include/uplink.h answer, and what they leave in all that is lent: the rules of document 01
-- with document 02 a)'s header and e)'s turn, and that of a depth, over the record that the block is the image of.
-- Assumes nothing.
use Rattle.std.specs.Prelude.{Bool, cond, List, ℕ, ◌+◌, ◌*◌, ◌^◌, eqb, length}
use Rattle.reply.specs.Reply.{Reply, idle, done, refused, reply_flow}
use Rattle.reply.specs.State.{StateOf, OutcomeOf, state}
use Rattle.uplink.specs.State.{State}
use Rattle.uplink.specs.Opening.{opening_rule}
use Rattle.uplink.specs.Arrival.{arrival_rule}
use Rattle.uplink.specs.Pick.{pick_rule}
use Rattle.gateway.specs.Image.{words_of, record_of}
use Rattle.gateway.specs.Depth.{depth_rule}

-- every word of the block, every place of both memories and every word of the reply; opening and arrival have no reply,
-- and depth no memories
pub record Lent : Type 0 where
  pub block : List ℕ
  pub lengths : List ℕ
  pub handles : List ℕ
  pub reply : List ℕ

-- the number that a call answers, and what is lent as the call leaves it
pub record Answered : Type 0 where
  pub answer : ℕ
  pub left : Lent

abbrev pub lending : List ℕ → List ℕ → List ℕ → List ℕ → Lent
lending block lengths handles reply =
    record { block = block; lengths = lengths; handles = handles; reply = reply }

abbrev pub answered : ℕ → Lent → Answered
answered answer left = record { answer = answer; left = left }

-- 0 where the call is done, 100 where nothing waits, and the number of a refusal
abbrev pub number_of : Reply → ℕ
number_of idle = 100
number_of (done values) = 0
number_of (refused number flow) = number

-- an opening's answer has the flow in its high 32 bits
abbrev pub with_flow : Reply → ℕ
with_flow reply = number_of reply + 2 ^ 32 * reply_flow reply

-- the words of the reply: the values where there are some, and else as they came
abbrev pub values_or : Reply → List ℕ → List ℕ
values_or idle words = words
values_or (done values) words = values
values_or (refused number flow) words = words

-- what a rule's outcome is to the caller, for any engine: its reply told as a number by `tell`, the next record by its
-- `words`, both memories and the words of the reply. "A refusal returns the record as given (opening: the blank record)
-- and changes no place of either memory": proofs/Refusals.antt.
unfoldable pub told : {R : Type 0} → (R → List ℕ) → (Reply → ℕ) → OutcomeOf R → Lent → Answered
told words tell o lent =
    answered (tell o.reply)
    (lending (words o.state.held) o.state.lengths o.state.handles (values_or o.reply lent.reply))

-- the call goes on where the test holds, and is refused with the number where it does not
abbrev demand : Bool → ℕ → Lent → Answered → Answered
demand test number lent on = cond test on (answered number lent)

-- the record that the block tells, by an engine's way of reading words, with both memories
abbrev pub held_by : {R : Type 0} → (List ℕ → R) → Lent → StateOf R
held_by read lent = state (read lent.block) lent.lengths lent.handles

abbrev pub held : Lent → State
held lent = held_by record_of lent

-- 101: the block has exactly so many words
abbrev pub blocked : ℕ → Lent → Answered → Answered
blocked words lent on = demand (eqb (length lent.block) words) 101 lent on

-- 102: the reply has exactly so many words
abbrev pub replied : ℕ → Lent → Answered → Answered
replied words lent on = demand (eqb (length lent.reply) words) 102 lent on

unfoldable pub gateway_opening : List ℕ → List ℕ → ℕ → Lent → Answered
gateway_opening shares largest header lent =
    blocked 132 lent (told words_of with_flow (opening_rule shares largest header lent.lengths lent.handles) lent)

unfoldable pub gateway_arrival : ℕ → ℕ → ℕ → Lent → Answered
gateway_arrival flow length handle lent =
    blocked 132 lent (told words_of number_of (arrival_rule (held lent) flow length handle) lent)

unfoldable pub gateway_pick : Lent → Answered
gateway_pick lent = blocked 132 lent (replied 6 lent (told words_of number_of (pick_rule (held lent)) lent))

unfoldable pub gateway_depth : ℕ → Lent → Answered
gateway_depth flow lent =
    blocked 132 lent (replied 4 lent (told words_of number_of (depth_rule (held lent) flow) lent))
