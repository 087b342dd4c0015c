-- Which flow is picked: document 01, Pick, step 2, and document 02 e) on equal tags. What is smallest, and which of
-- equals is taken, are two things: theorems over several calls use the first alone. Tags and numbers waiting are given
-- by the flow's number: nothing of a layout.
-- Assumes nothing.
use Rattle.std.specs.Prelude.{◌≡◌, ℕ, zero, suc, ◌+◌, ◌-◌, ◌%◌, ◌^◌, ◌<◌, ◌≤◌, Bool, true, false, cond, ◌==◌, nat_le, nat_lt, Option, Some, None}
use Rattle.tags.specs.Ticks.{ticks}
use Rattle.tags.specs.declared.ServerTicks.{ServerTicks}
use Rattle.tags.specs.declared.choice.Lead as told

-- "the waiting flow with the smallest tag", of the first n flows: flow f waits, and no flow that waits has a smaller
-- tag
pub record Smallest (tag waiting : ℕ → ℕ) (n f : ℕ) : Type 0 where
  pub counts : f < n
  pub waits : 0 < waiting f
  pub least : (g : ℕ) → g < n → 0 < waiting g → tag f ≤ tag g

-- 02 e), "the turn, 0 to 63: one past the last flow picked, 63 to 0"
abbrev pub turn_after : ℕ → ℕ
turn_after f = (f + 1) % 64

-- how far flow f is from the turn, "counting round"
abbrev pub from_turn : ℕ → ℕ → ℕ
from_turn turn f = (f + 64 - turn) % 64

-- 02 e), "among equals, the first flow after the one picked last, counting round": of the flows that wait with the
-- smallest tag, none is nearer the turn
pub record First (turn : ℕ) (tag waiting : ℕ → ℕ) (n f : ℕ) : Type 0 where
  pub smallest : Smallest tag waiting n f
  pub nearest : (g : ℕ) → g < n → 0 < waiting g → tag g ≡ tag f → from_turn turn f ≤ from_turn turn g

-- above every tag
abbrev pub no_tag : ℕ
no_tag = 2 ^ 64 - 1

-- who leads: the flow that does, and its tag; where `waits` is false nothing waits, and flow and tag mean nothing
pub record Lead : Type 0 where
  pub waits : Bool
  pub flow : ℕ
  pub tag : ServerTicks

-- no flow leads yet; flow and tag mean nothing
abbrev pub no_lead : Lead
no_lead = record { waits = false; flow = 64; tag = ticks no_tag }

-- flow f leads, with its tag
abbrev pub lead_at : ℕ → ℕ → Lead
lead_at f tag = record { waits = true; flow = f; tag = ticks tag }

-- flow f takes the lead where it waits and either nobody leads or its tag is smaller: of equals the first one that was
-- looked at keeps it
unfoldable pub ahead : Lead → ℕ → ℕ → ℕ → Lead
ahead lead tag waiting f =
    cond (waiting == 0) lead
    (cond lead.waits
    (cond (nat_le lead.tag.0 tag) lead (lead_at f tag))
    (lead_at f tag))

-- who leads when `count` flows from flow `from` on are looked at too
unfoldable pub lead_on : (ℕ → ℕ) → (ℕ → ℕ) → Lead → ℕ → ℕ → Lead
lead_on tag waiting lead from zero = lead
lead_on tag waiting lead from (suc count) =
    let f = from + count in ahead (lead_on tag waiting lead from count) (tag f) (waiting f) f

-- where the search begins: at the turn, or at flow 0 where the turn is past the last flow
abbrev pub search_from : ℕ → ℕ → ℕ
search_from turn n = cond (nat_lt turn n) turn 0

-- who leads among the first n flows: looked at from the turn on, "counting round"
unfoldable pub lead_by : ℕ → (ℕ → ℕ) → (ℕ → ℕ) → ℕ → Lead
lead_by turn tag waiting n =
    let from = search_from turn n in
    lead_on tag waiting (lead_on tag waiting no_lead from (n - from)) 0 from

-- who leads, as the search's caller is told: a flow and its tag, and none where nothing waits
abbrev pub found : Lead → Option told.Lead
found lead = cond lead.waits (Some (record { flow = lead.flow; tag = lead.tag })) None

-- who leads, as the search itself goes by it: a flow of 64 is nobody
abbrev pub lead_as : ℕ → ℕ → Lead
lead_as flow tag = record { waits = nat_lt flow 64; flow = flow; tag = ticks tag }

-- the tag of a flow that waits, and what is above every tag for any other: the code compares these
abbrev pub key_of : ℕ → ℕ → ℕ
key_of tag waiting = cond (waiting == 0) no_tag tag
