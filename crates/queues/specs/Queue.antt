-- The queue's side of one flow, as the rules speak of it: what it has booked, and where its packets wait.
-- No tag, no clock, and nothing of how a record is laid out. Document 01, "The record" and "The three calls".
-- Assumes nothing.
use Rattle.std.specs.Prelude.{ℕ, ◌+◌, ◌-◌, ◌*◌, ◌%◌}
use Rattle.cost.specs.Cost.{cost_of}
use Rattle.cost.specs.Charge.{charge_of, charge_ticks}

-- "for each flow: share, largest packet, .. first place (0 to 63), number waiting (0 to 64)"
pub record Queue : Type 0 where
  pub share : ℕ
  pub largest : ℕ
  pub first : ℕ
  pub waiting : ℕ

abbrev pub queue_of : ℕ → ℕ → ℕ → ℕ → Queue
queue_of share largest first waiting = record { share = share; largest = largest; first = first; waiting = waiting }

-- a flow that is not in the table: all fields are 0
abbrev pub no_queue : Queue
no_queue = queue_of 0 0 0 0

-- what a byte costs a flow
abbrev pub cost_to : Queue → ℕ
cost_to w = cost_of w.share

-- "largest packet times cost", in ticks, by its charge (02 a)
abbrev pub booked_ticks : ℕ → ℕ → ℕ → ℕ
booked_ticks header share largest = charge_ticks (cost_of share) (charge_of header largest)

-- "its k-th waiting packet, from k = 0, is at 64 × f + ((first + k) mod 64)"
abbrev pub place_of : ℕ → ℕ → ℕ → ℕ
place_of f first k = 64 * f + (first + k) % 64

-- Arrival: "The packet goes behind the flow's last one."
abbrev pub joined : Queue → Queue
joined w = queue_of w.share w.largest w.first (w.waiting + 1)

-- Pick, step 4: "first goes on by one, 63 to 0"
abbrev pub left : Queue → Queue
left w = queue_of w.share w.largest ((w.first + 1) % 64) (w.waiting - 1)
