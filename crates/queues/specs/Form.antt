-- What "well formed" asks of the queue's side: document 01, "The record", the bullets on the table, on queues and on
-- the flows beyond the number of flows.
-- `src/form.rt` and `src/lengths.rt` cite it, and so does the form of each engine's record.
-- Assumes nothing.
use Rattle.std.specs.Prelude.{ℕ, Bool, ◌&&◌, ◌||◌, List, ◌==◌, nat_le, nat_lt, slice_index}
use Rattle.below.specs.Below.{all_below}
use Rattle.cost.specs.Cost.{within}
use Rattle.cost.specs.Charge.{is_header}
use Rattle.queues.specs.Queue.{Queue, place_of}
use Rattle.queues.specs.Queues.{queue_at, shares_of, width_of}
use Rattle.queues.specs.declared.Queues.{Queues}

-- a flow that counts: its number is below the number of flows
abbrev pub counts : ℕ → ℕ → Bool
counts flows f = nat_lt f flows

-- "shares 1 to 1,000", "largest packets 1 to 1,500"
abbrev pub booked : Queue → Bool
booked w = within 1 1000 w.share && within 1 1500 w.largest

-- "first and number waiting in range"
abbrev pub placed : Queue → Bool
placed w = nat_le w.first 63 && nat_le w.waiting 64

unfoldable pub ranged : Queue → Bool
ranged w = booked w && placed w

-- "every waiting length from 1 to the flow's largest", for flow f
unfoldable pub lengths_formed : ℕ → List ℕ → ℕ → ℕ → ℕ → Bool
lengths_formed f lengths largest first waiting =
    all_below (λ k. within 1 largest (slice_index lengths (place_of f first k))) waiting

abbrev pub queue_formed : ℕ → List ℕ → Queue → Bool
queue_formed f lengths w = lengths_formed f lengths w.largest w.first w.waiting

-- "all fields .. are 0"
unfoldable pub spare_queue : Queue → Bool
spare_queue w = (w.share == 0 && w.largest == 0) && (w.first == 0 && w.waiting == 0)

-- "1 to 64 flows; shares 1 to 1,000 with sum at most 1,000; largest packets 1 to 1,500; Δ as above"; and of the header
-- (02 a) "its stated range as part of the form"
unfoldable pub tabled : ℕ → ℕ → ℕ → Queues → Bool
tabled flows header width q =
    (within 1 64 flows && is_header header)
    && all_below (λ f. booked (queue_at q f)) flows
    && nat_le (shares_of q flows) 1000
    && width_of header q flows == width

-- "first and number waiting in range; every waiting length from 1 to the flow's largest"
unfoldable pub queues_formed : ℕ → Queues → List ℕ → Bool
queues_formed flows q lengths = all_below (λ f. placed (queue_at q f) && queue_formed f lengths (queue_at q f)) flows

-- of "all fields of flows beyond the number of flows are 0", the queue's fields
unfoldable pub queues_spare : ℕ → Queues → Bool
queues_spare flows q = all_below (λ f. counts flows f || spare_queue (queue_at q f)) 64

-- all that the form asks of the queue's side
abbrev pub queue_side : ℕ → ℕ → ℕ → Queues → List ℕ → Bool
queue_side flows header width q lengths =
    tabled flows header width q && queues_formed flows q lengths && queues_spare flows q
