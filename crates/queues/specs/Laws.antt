-- What callers draw from the definitions of the queue's side: each Bool of the form as plain facts and back, the places
-- of a ring, and the queues of a table as it opens.
-- Assumes nothing.
use Rattle.std.specs.Prelude.{◌≡◌, ℕ, zero, suc, ◌<◌, ◌≤◌, Bool, true, false, cond, ◌&&◌, List, [], length, replicate, ◌==◌, ◌≢◌, nat_le, nat_lt, slice_index, refl}
use Rattle.std.proofs.Common.{◌∙◌, zero-add, mul-le-mul, arith, leb-true, ltb-true, eqb-true, le-leb}
use Rattle.std.proofs.lemmas.List.{length-replicate}
use Rattle.below.specs.Below.{all_below_at, all_below_of, most_below, most_below_le}
use Rattle.below.specs.Listed.{listed_at, length_listed}
use Rattle.below.specs.Truth.{both_true}
use Rattle.cost.specs.Cost.{within, within_of, within_bounds, cost_most}
use Rattle.reply.specs.Reply.{Reply, done, refused}
use Rattle.reply.specs.Replies.{refused_done}
use Rattle.queues.specs.Queue.{Queue, queue_of, no_queue, booked_ticks, place_of}
use Rattle.queues.specs.Queues.{queue_at, Sized}
use Rattle.queues.specs.Form.{booked, placed, ranged, lengths_formed, queue_formed, spare_queue}
use Rattle.queues.specs.Places.{join_reply}
use Rattle.queues.specs.Opening.{field64, new_queues}

-- what `ranged` says, a field for each bound
pub record Ranged (w : Queue) : Type 0 where
  pub share_low : 1 ≤ w.share
  pub share_high : w.share ≤ 1000
  pub largest_low : 1 ≤ w.largest
  pub largest_high : w.largest ≤ 1500
  pub first_below : w.first < 64
  pub waiting_most : w.waiting ≤ 64

booked_out : (w : Queue) → booked w ≡ true
    → ((1 ≤ w.share) × (w.share ≤ 1000)) × ((1 ≤ w.largest) × (w.largest ≤ 1500))
booked_out w e = let b = both_true (within 1 1000 w.share) (within 1 1500 w.largest) e in
    (within_bounds 1 1000 w.share b.0, within_bounds 1 1500 w.largest b.1)

-- a queue in range has each bound
pub ranged_out : (w : Queue) → ranged w ≡ true → Ranged w
unfolding ranged
ranged_out w e = let b = both_true (booked w) (placed w) e in
    let p = both_true (nat_le w.first 63) (nat_le w.waiting 64) b.1 in
    omega (arith, booked_out w b.0, leb-true w.first 63 p.0, leb-true w.waiting 64 p.1)

-- a queue with each bound is in range
pub ranged_in : (w : Queue) → Ranged w → ranged w ≡ true
unfolding ranged
ranged_in w r = rw (
  within_of 1 1000 w.share r.share_low r.share_high,
  within_of 1 1500 w.largest r.largest_low r.largest_high,
  le-leb w.first 63 (omega arith),
  le-leb w.waiting 64 r.waiting_most,
)

module _ (f : ℕ) (ls : List ℕ) (w : Queue) where
  -- each waiting length is from 1 to the flow's largest
  pub queue_at_lem : queue_formed f ls w ≡ true → (k : ℕ) → k < w.waiting
      → (1 ≤ slice_index ls (place_of f w.first k)) × (slice_index ls (place_of f w.first k) ≤ w.largest)
  unfolding lengths_formed
  queue_at_lem e k h = within_bounds 1 w.largest (slice_index ls (place_of f w.first k))
      (all_below_at (λ i. within 1 w.largest (slice_index ls (place_of f w.first i))) w.waiting e k h)

  -- and where each is, the queue is well formed
  pub queue_in : ((k : ℕ) → k < w.waiting
      → (1 ≤ slice_index ls (place_of f w.first k)) × (slice_index ls (place_of f w.first k) ≤ w.largest))
      → queue_formed f ls w ≡ true
  unfolding lengths_formed
  queue_in each = all_below_of (λ i. within 1 w.largest (slice_index ls (place_of f w.first i))) w.waiting
      (λ k h. within_of 1 w.largest (slice_index ls (place_of f w.first k)) (each k h).0 (each k h).1)

four_zeros : (s l f n : ℕ) → spare_queue (queue_of s l f n) ≡ true → queue_of s l f n ≡ no_queue
unfolding spare_queue
four_zeros s l f n e =
    let p = both_true (s == 0 && l == 0) (f == 0 && n == 0) e in
    let a = both_true (s == 0) (l == 0) p.0 in
    let b = both_true (f == 0) (n == 0) p.1 in
    rw (eqb-true s 0 a.0, eqb-true l 0 a.1, eqb-true f 0 b.0, eqb-true n 0 b.1)

-- a spare queue has 0 in every field
pub spare_out : (w : Queue) → spare_queue w ≡ true → w ≡ no_queue
spare_out w e = four_zeros w.share w.largest w.first w.waiting e

-- and the queue with 0 in every field is spare
pub spare_in : spare_queue no_queue ≡ true
unfolding spare_queue
spare_in = refl

-- two packets of a flow have two places
pub place_apart : (f first k j : ℕ) → first < 64 → k < 64 → j < 64 → (k ≢ j)
    → place_of f first k ≢ place_of f first j
place_apart f first k j h u v d e = d (omega arith)

-- packets of two flows have two places
pub place_other : (f g a b i k : ℕ) → (f ≢ g) → place_of f a i ≢ place_of g b k
place_other f g a b i k d e = d (omega arith)

-- a packet of n bytes that is not refused: its flow counts, it is of a length that the flow may send, and there is room
pub record Joinable (flows f n largest waiting : ℕ) : Type 0 where
  pub counted : f < flows
  pub some : 1 ≤ n
  pub short : n ≤ largest
  pub room : waiting < 64

-- what holds of a packet that is taken, and of one that is refused with 7, 8 or 9, holds of the reply
pub join_cases : (flows f n largest waiting : ℕ) (P : Reply → Type 0)
    → (Joinable flows f n largest waiting → P (done []))
    → ((number : ℕ) → 7 ≤ number → number ≤ 9 → P (refused number 0)) → P (join_reply flows f n largest waiting)
unfolding join_reply
join_cases flows f n largest waiting P takes refuses =
    go (nat_lt f flows) refl (within 1 largest n) refl (nat_lt waiting 64) refl
  where
    go : (a : Bool) → nat_lt f flows ≡ a → (b : Bool) → within 1 largest n ≡ b → (c : Bool) → nat_lt waiting 64 ≡ c
        → P (cond a (cond b (cond c (done []) (refused 9 0)) (refused 8 0)) (refused 7 0))
    go true p true q true t = let fits = within_bounds 1 largest n q in
        takes record { counted = ltb-true f flows p; some = fits.0; short = fits.1; room = ltb-true waiting 64 t }
    go true p true q false t = refuses 9 (omega arith) (omega arith)
    go true p false q c t = refuses 8 (omega arith) (omega arith)
    go false p b q c t = refuses 7 (omega arith) (omega arith)

pub join_done : (flows f n largest waiting : ℕ) → join_reply flows f n largest waiting ≡ done []
    → Joinable flows f n largest waiting
join_done flows f n largest waiting =
    join_cases flows f n largest waiting (λ reply. reply ≡ done [] → Joinable flows f n largest waiting)
    (λ taken _. taken) (λ number low high e. refused_done e)

-- no leap width is above 1,126,080,000 where no header is above 64 and no largest packet above 1,500
pub width_at_most : (header : ℕ) (share largest : ℕ → ℕ) (n : ℕ) → header ≤ 64 → ((f : ℕ) → f < n → largest f ≤ 1500)
    → most_below (λ f. booked_ticks header (share f) (largest f)) n ≤ 1126080000
width_at_most header share largest n short small =
    most_below_le _ n 1126080000 λ f h. mul-le-mul {n₂ = 1564} (omega (arith, small f h)) (cost_most (share f))

-- nothing stands at any place of a list of zeros
pub zeros_at : (n k : ℕ) → ◌≡◌ {A = ℕ} (slice_index (replicate n 0) k) 0
zeros_at zero k = refl
zeros_at (suc n) zero = refl
zeros_at (suc n) (suc k) = zeros_at n k

-- an entry of a list of 64, and how many there are
pub field_at : (list : List ℕ) (f : ℕ) → f < 64 → slice_index (field64 list) f ≡ slice_index list f
unfolding field64
field_at list f h = listed_at (λ k. slice_index list k) 0 64 f 0 h ∙ rw zero-add

pub field_length : (list : List ℕ) → length (field64 list) ≡ 64
unfolding field64
field_length list = length_listed (λ k. slice_index list k) 0 64

-- the queue of flow f in the table as it opens
pub opened_at : (shares largest : List ℕ) (f : ℕ) → f < 64
    → queue_at (new_queues shares largest) f ≡ queue_of (slice_index shares f) (slice_index largest f) 0 0
unfolding new_queues
opened_at shares largest f h = rw (field_at shares f h, field_at largest f h, zeros_at 64 f)

pub opened_sized : (shares largest : List ℕ) → Sized (new_queues shares largest)
unfolding new_queues
opened_sized shares largest =
    record {
      share = field_length shares;
      largest = field_length largest;
      first = length-replicate {A = ℕ} 64 0;
      waiting = length-replicate {A = ℕ} 64 0;
    }
