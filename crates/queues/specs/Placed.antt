-- What holds where queues are looked at and where a table is opened: the facts that the checks before it leave.
-- Assumes nothing.
use Rattle.std.specs.Prelude.{ℕ, ◌<◌, ◌≤◌, List, length, slice_index}
use Rattle.queues.specs.Queue.{Queue}
use Rattle.queues.specs.Queues.{queue_at}
use Rattle.queues.specs.declared.Queues.{Queues}

-- the queue's places are its own, and some length fits it
pub record Kept (w : Queue) : Type 0 where
  pub largest_low : 0 < w.largest
  pub first_below : w.first < 64
  pub waiting_most : w.waiting ≤ 64

-- so of the first n flows
pub record Placed (q : Queues) (n : ℕ) : Type 0 where
  pub each : (f : ℕ) → f < n → Kept (queue_at q f)

-- the first n entries are shares
pub record Shared (share : List ℕ) (n : ℕ) : Type 0 where
  pub each : (f : ℕ) → f < n → (1 ≤ slice_index share f) × (slice_index share f ≤ 1000)

-- a list of at most 64 entries that fit 16 bits
pub record Small (list : List ℕ) : Type 0 where
  pub few : length list ≤ 64
  pub each : (f : ℕ) → f < length list → slice_index list f < 65536
