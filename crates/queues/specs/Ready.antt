-- What the checks of a call leave of the queue's side where the call goes on: `Storable` where an arrival's packet is
-- stored, `Servable` where a flow's front packet goes. The steps behind them ask for these, whatever the engine.
-- Assumes nothing.
use Rattle.std.specs.Prelude.{◌≡◌, ℕ, ◌<◌, ◌≤◌, true, List, slice_index_or}
use Rattle.std.proofs.Common.{arith}
use Rattle.queues.specs.Queue.{place_of}
use Rattle.queues.specs.Queues.{queue_at}
use Rattle.queues.specs.Form.{ranged, queue_formed}
use Rattle.queues.specs.Laws.{ranged_out, queue_at_lem}
use Rattle.queues.specs.declared.Queues.{Queues}

-- a packet of n bytes is stored at flow f
pub record Storable (q : Queues) (f n : ℕ) : Type 0 where
  pub flow : f < 64
  pub room : (queue_at q f).waiting < 64
  pub short : n ≤ 1500
  pub share_low : 1 ≤ (queue_at q f).share
  pub share_high : (queue_at q f).share ≤ 1000

-- the front packet of flow f goes
pub record Servable (q : Queues) (header f : ℕ) (lengths : List ℕ) : Type 0 where
  pub flow : f < 64
  pub first_below : (queue_at q f).first < 64
  pub waits : 0 < (queue_at q f).waiting
  pub short : slice_index_or lengths (place_of f (queue_at q f).first 0) 0 ≤ 1500
  pub share_low : 1 ≤ (queue_at q f).share
  pub share_high : (queue_at q f).share ≤ 1000
  pub header_low : header ≤ 64

module _ (q : Queues) (f : ℕ) (few : f < 64) (range : ranged (queue_at q f) ≡ true) where
  pub storable : (n : ℕ) → n ≤ (queue_at q f).largest → (queue_at q f).waiting < 64 → Storable q f n
  storable n short room = let R = ranged_out (queue_at q f) range in
      record {
        flow = few;
        room = room;
        short = omega (arith, short, R.largest_high);
        share_low = R.share_low;
        share_high = R.share_high;
      }

  pub servable : (header : ℕ) (lengths : List ℕ) → header ≤ 64 → queue_formed f lengths (queue_at q f) ≡ true
      → 0 < (queue_at q f).waiting → Servable q header f lengths
  servable header lengths low queue waits = let R = ranged_out (queue_at q f) range in
      record {
        flow = few;
        first_below = R.first_below;
        waits = waits;
        short = omega (arith, (queue_at_lem f lengths (queue_at q f) queue 0 waits).1, R.largest_high);
        share_low = R.share_low;
        share_high = R.share_high;
        header_low = low;
      }
