-- The queues of all 64 flows, and the only file that knows how they are laid out: a queue got, a queue put, and the
-- laws of getting and putting. Every engine's record holds `Queues`, and its rules speak of `queue_at` and `put_queue`.
-- Assumes nothing.
use Rattle.std.specs.Prelude.{◌≡◌, ℕ, ◌<◌, List, length, replicate, ◌≢◌, slice_index, slice_set}
use Rattle.std.proofs.Common.{◌∙◌, arith, length-set, get_or-set_same, get_or-set_other}
use Rattle.std.proofs.lemmas.List.{set-get_or}
use Rattle.below.specs.Below.{sum_below, most_below}
use Rattle.queues.specs.Queue.{Queue, queue_of, booked_ticks}
use Rattle.queues.specs.declared.Queues.{Queues}

abbrev pub queues_of : List ℕ → List ℕ → List ℕ → List ℕ → Queues
queues_of share largest first waiting = record { share = share; largest = largest; first = first; waiting = waiting }

-- the queue of flow f
abbrev pub queue_at : Queues → ℕ → Queue
queue_at q f = queue_of (slice_index q.share f) (slice_index q.largest f) (slice_index q.first f) (slice_index q.waiting f)

-- the queues with that of flow f put anew
unfoldable pub put_queue : Queues → ℕ → Queue → Queues
put_queue q f w =
    queues_of
    (slice_set q.share f w.share)
    (slice_set q.largest f w.largest)
    (slice_set q.first f w.first)
    (slice_set q.waiting f w.waiting)

abbrev pub blank_queues : Queues
blank_queues = queues_of (replicate 64 0) (replicate 64 0) (replicate 64 0) (replicate 64 0)

-- the sum of the shares of the first n flows
unfoldable pub shares_of : Queues → ℕ → ℕ
shares_of q n = sum_below (λ f. (queue_at q f).share) n

-- "The leap width Δ is the largest value, over the table's flows, of largest packet times cost": of the first n flows
unfoldable pub width_of : ℕ → Queues → ℕ → ℕ
width_of header q n = most_below (λ f. booked_ticks header (queue_at q f).share (queue_at q f).largest) n

-- 64 entries for each field
pub record Sized (q : Queues) : Type 0 where
  pub share : length q.share ≡ 64
  pub largest : length q.largest ≡ 64
  pub first : length q.first ≡ 64
  pub waiting : length q.waiting ≡ 64

pub put_sized : (q : Queues) (f : ℕ) (w : Queue) → Sized q → Sized (put_queue q f w)
unfolding put_queue
put_sized q f w s =
    record {
      share = length-set q.share f w.share ∙ s.share;
      largest = length-set q.largest f w.largest ∙ s.largest;
      first = length-set q.first f w.first ∙ s.first;
      waiting = length-set q.waiting f w.waiting ∙ s.waiting;
    }

-- the queue put is the queue got
pub put_same : (q : Queues) (f : ℕ) (w : Queue) → Sized q → f < 64 → queue_at (put_queue q f w) f ≡ w
unfolding put_queue
put_same q f w s h =
    rw (
      get_or-set_same q.share f w.share 0 (omega (arith, s.share)),
      get_or-set_same q.largest f w.largest 0 (omega (arith, s.largest)),
      get_or-set_same q.first f w.first 0 (omega (arith, s.first)),
      get_or-set_same q.waiting f w.waiting 0 (omega (arith, s.waiting)),
    )

-- and no other queue changes
pub put_other : (q : Queues) (f g : ℕ) (w : Queue) → (g ≢ f) → queue_at (put_queue q f w) g ≡ queue_at q g
unfolding put_queue
put_other q f g w d =
    rw (
      get_or-set_other q.share f g w.share 0 d,
      get_or-set_other q.largest f g w.largest 0 d,
      get_or-set_other q.first f g w.first 0 d,
      get_or-set_other q.waiting f g w.waiting 0 d,
    )

-- where one joins behind, only the number waiting is set
pub put_joined : (q : Queues) (f waiting : ℕ)
    → queues_of q.share q.largest q.first (slice_set q.waiting f waiting)
    ≡ put_queue q f (queue_of (queue_at q f).share (queue_at q f).largest (queue_at q f).first waiting)
unfolding put_queue
put_joined q f waiting = rw (set-get_or q.share f 0, set-get_or q.largest f 0, set-get_or q.first f 0)

-- where one leaves in front, first and number waiting are
pub put_left : (q : Queues) (f first waiting : ℕ)
    → queues_of q.share q.largest (slice_set q.first f first) (slice_set q.waiting f waiting)
    ≡ put_queue q f (queue_of (queue_at q f).share (queue_at q f).largest first waiting)
unfolding put_queue
put_left q f first waiting = rw (set-get_or q.share f 0, set-get_or q.largest f 0)
