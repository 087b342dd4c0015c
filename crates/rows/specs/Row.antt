-- What a row of a computed list is: calls on a state, the reply to each, and claims about what they leave.
-- A row of the header or of the turn is shown to hold where it stands (`holds`), so the checker tells a wrong one by its
-- line; that the others hold is computed in proofs/.
-- Assumes nothing.
use Rattle.std.specs.Prelude.{◌≡◌, refl, Bool, true, false, ◌&&◌, List, [], ◌∷◌, ◌++◌, ℕ, eqb, replicate}
use Rattle.cost.specs.Cost.{cost_of}
use Rattle.reply.specs.Reply.{Reply, idle, done, refused}
use Rattle.tags.specs.Ticks.{leap_clock}
use Rattle.uplink.specs.declared.Record.{Record}
use Rattle.uplink.specs.Record.{tag_of}
use Rattle.uplink.specs.State.{State}
use Rattle.uplink.specs.Calls.{Call}
use Rattle.rows.specs.Script.{run, replies}

-- what a row claims of the state that its calls leave
pub data Claim : Type 0 where
  -- the clock
  clock_is : ℕ → Claim
  -- the link time
  link_is : ℕ → Claim
  -- the tag of a flow
  tag_is : ℕ → ℕ → Claim
  -- the leap width Δ
  width_is : ℕ → Claim
  -- the header
  header_is : ℕ → Claim
  -- the turn
  turn_is : ℕ → Claim
  -- the cost of a share
  cost_is : ℕ → ℕ → Claim
  -- with this Δ, and at this clock and tag T, step 3 of a pick leaves this clock
  leap_is : ℕ → ℕ → ℕ → Claim
  -- every number in the record, 6 and for each of 64 flows 5, is 0
  record_is_blank : Claim
  -- the record is as it came
  record_stays : Claim
  -- every place of both memories is as it came
  memories_stay : Claim
  -- every place of both memories, 4,096 of them, is 0
  memories_are_blank : Claim

-- A row: the state that it starts from, its calls, the reply to each, and what it claims of what they leave.
pub record Row : Type 0 where
  pub given : State
  pub calls : List Call
  pub says : List Reply
  pub claims : List Claim

-- the same, written on a line
abbrev pub row : State → List Call → List Reply → List Claim → Row
row given calls says claims = record { given = given; calls = calls; says = says; claims = claims }

-- the same numbers
abbrev pub same_numbers : List ℕ → List ℕ → Bool
same_numbers [] [] = true
same_numbers [] (b ∷ others) = false
same_numbers (a ∷ more) [] = false
same_numbers (a ∷ more) (b ∷ others) = eqb a b && same_numbers more others

-- the same reply
abbrev pub same_reply : Reply → Reply → Bool
same_reply idle idle = true
same_reply idle (done values) = false
same_reply idle (refused number flow) = false
same_reply (done values) idle = false
same_reply (done values) (done values') = same_numbers values values'
same_reply (done values) (refused number flow) = false
same_reply (refused number flow) idle = false
same_reply (refused number flow) (done values) = false
same_reply (refused number flow) (refused number' flow') = eqb number number' && eqb flow flow'

-- the same replies
abbrev pub same_replies : List Reply → List Reply → Bool
same_replies [] [] = true
same_replies [] (b ∷ others) = false
same_replies (a ∷ more) [] = false
same_replies (a ∷ more) (b ∷ others) = same_reply a b && same_replies more others

-- every number in a record
abbrev numbers_of : Record → List ℕ
numbers_of r =
    r.flows ∷ r.header ∷ r.width ∷ r.clock.0 ∷ r.link.0 ∷ r.turn
    ∷ (r.tags.0 ++ r.queues.share ++ r.queues.largest ++ r.queues.first ++ r.queues.waiting)

-- the same lengths and handles
abbrev same_memories : State → List ℕ → List ℕ → Bool
same_memories s lengths handles = same_numbers s.lengths lengths && same_numbers s.handles handles

-- one claim holds of the state before and the state after
abbrev pub claim_holds : State → State → Claim → Bool
claim_holds s after (clock_is clock) = eqb after.held.clock.0 clock
claim_holds s after (link_is link) = eqb after.held.link.0 link
claim_holds s after (tag_is flow tag) = eqb (tag_of after.held flow) tag
claim_holds s after (width_is width) = eqb after.held.width width
claim_holds s after (header_is header) = eqb after.held.header header
claim_holds s after (turn_is turn) = eqb after.held.turn turn
claim_holds s after (cost_is share cost) = eqb (cost_of share) cost
claim_holds s after (leap_is clock T then) = eqb (leap_clock clock after.held.width T) then
claim_holds s after record_is_blank = same_numbers (numbers_of after.held) (replicate 326 0)
claim_holds s after record_stays = same_numbers (numbers_of after.held) (numbers_of s.held)
claim_holds s after memories_stay = same_memories after s.lengths s.handles
claim_holds s after memories_are_blank = same_memories after (replicate 4096 0) (replicate 4096 0)

-- all of them hold
abbrev pub claims_hold : State → State → List Claim → Bool
claims_hold s after [] = true
claims_hold s after (claim ∷ claims) = claim_holds s after claim && claims_hold s after claims

-- a row holds: the replies are as it says, and its claims hold of what its calls leave
abbrev pub row_holds : Row → Bool
row_holds x =
    same_replies (replies x.given x.calls) x.says
    && claims_hold x.given (run x.given x.calls) x.claims

-- all rows hold
abbrev pub all_hold : List Row → Bool
all_hold [] = true
all_hold (x ∷ xs) = row_holds x && all_hold xs

-- a row that holds
pub record Shown : Type 0 where
  pub row : Row
  pub holds : row_holds row ≡ true

abbrev pub shown : (x : Row) → row_holds x ≡ true → Shown
shown x holds = record { row = x; holds = holds }

-- the rows of a list
abbrev pub rows_of : List Shown → List Row
rows_of [] = []
rows_of (x ∷ xs) = x.row ∷ rows_of xs

-- where each row is shown to hold, all of them hold
pub all_hold_lem : (xs : List Shown) → all_hold (rows_of xs) ≡ true
all_hold_lem [] = refl
all_hold_lem (x ∷ xs) = rw (x.holds, all_hold_lem xs)
