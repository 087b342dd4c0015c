-- What the checks of a call leave where it goes on: `Stored` where an arrival's packet is stored, `Leaves` where a
-- flow's front packet goes, `Fronting` where a packet comes to the front. Of the queue's side see `Ready` of the crate
-- `queues`; the tag's side is here.
-- Assumes nothing.
use Rattle.std.specs.Prelude.{◌≡◌, List, [], ℕ, ◌+◌, ◌^◌, ◌≤◌, ◌<◌}
use Rattle.std.proofs.Common.{arith}
use Rattle.reply.specs.Reply.{done}
use Rattle.queues.specs.Places.{join_reply}
use Rattle.queues.specs.Laws.{join_done}
use Rattle.queues.specs.Ready.{Storable, Servable, storable, servable}
use Rattle.uplink.specs.Record.{flow_at, tag_of, waiting_of}
use Rattle.uplink.specs.Formed.{Formed, tag_fits, width_most}
use Rattle.uplink.specs.Pick.{clock_limit}
use Rattle.uplink.specs.declared.Record.{Record}

-- a packet of n bytes is stored at flow f
pub record Stored (r : Record) (f n : ℕ) : Type 0 where
  pub counted : f < r.flows
  pub queue : Storable r.queues f n
  pub tag : tag_of r f < 2 ^ 62 + 2 ^ 33
  pub clock : r.clock.0 < 2 ^ 62 + 2 ^ 33

-- the front packet of flow f goes
pub record Leaves (r : Record) (f : ℕ) (lengths : List ℕ) : Type 0 where
  pub queue : Servable r.queues r.header f lengths
  pub tag : tag_of r f < 2 ^ 62 + 2 ^ 33
  pub clock : r.clock.0 < 2 ^ 62
  pub link : r.link.0 < 2 ^ 62
  pub width : r.width ≤ 1126080000

-- a packet comes to the front of flow f: its tag does not overflow
pub record Fronting (r : Record) (f : ℕ) : Type 0 where
  pub flow : f < 64
  pub share_low : 1 ≤ (flow_at r f).queue.share
  pub share_high : (flow_at r f).queue.share ≤ 1000
  pub tag : tag_of r f < 2 ^ 63
  pub clock : r.clock.0 < 2 ^ 63

module _ (r : Record) (f : ℕ) (lengths : List ℕ) (F : Formed r lengths) where
  -- past refusals 1, 2, 7, 8 and 9
  pub stored : (n : ℕ)
      → join_reply r.flows f n (flow_at r f).queue.largest (flow_at r f).queue.waiting ≡ done []
      → Stored r f n
  stored n j =
      let J = join_done r.flows f n (flow_at r f).queue.largest (flow_at r f).queue.waiting j in
      record {
        counted = J.counted;
        queue = storable r.queues f (omega (arith, F.few, J.counted))
            (F.each f J.counted).range n J.short J.room;
        tag = tag_fits r lengths F f J.counted;
        clock = omega (arith, F.clock);
      }

  -- past refusals 1, 2 and 10, at a flow that waits
  pub leaves : f < r.flows → 0 < waiting_of r f → r.clock.0 < clock_limit → Leaves r f lengths
  leaves counted waits soon =
      record {
        queue = servable r.queues f (omega (arith, F.few, counted))
            (F.each f counted).range r.header lengths F.header (F.each f counted).queue waits;
        tag = tag_fits r lengths F f counted;
        clock = soon;
        link = omega (arith, F.link);
        width = width_most r lengths F;
      }
