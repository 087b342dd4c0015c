-- What the checks of a call leave of the tag's side where the call goes on; of the queue's side see `Ready` of the
-- crate `queues`. `Stored`: where an arrival's packet is stored. `Fronting`: where a packet comes to the front.
-- `Soon`: before the leap. `Going`: after it, where the packet goes.
-- Assumes nothing.
use Rattle.std.specs.Prelude.{ℕ, ◌^◌, ◌≤◌, ◌<◌}
use Rattle.std.specs.Int.Signed.{mag}
use Rattle.queues.specs.Ready.{Storable}
use Rattle.signs.specs.Bounds.{reach, Near}
use Rattle.backward.specs.Record.{tag_of, queue_of}
use Rattle.backward.specs.declared.Record.{Record}

-- a packet of n bytes is stored at flow f
pub record Stored (r : Record) (f n : ℕ) : Type 0 where
  pub queue : Storable r.queues f n
  pub tag : mag (tag_of r f) < reach
  pub clock : r.clock.0 < reach

-- a packet comes to the front of flow f: its tag does not overflow
pub record Fronting (r : Record) (f : ℕ) : Type 0 where
  pub flow : f < 64
  pub share_low : 1 ≤ (queue_of r f).share
  pub share_high : (queue_of r f).share ≤ 1000
  pub tag : mag (tag_of r f) < reach
  pub clock : r.clock.0 < reach

-- the front packet of flow f goes: nothing it takes overflows
pub record Going (r : Record) (f : ℕ) : Type 0 where
  pub tag : mag (tag_of r f) < reach
  pub clock : r.clock.0 < 2 ^ 62
  pub link : r.link.0 < 2 ^ 62

-- a packet goes, after a leap or without one
pub record Soon (r : Record) (f : ℕ) : Type 0 where
  pub tags : Near r.tags.0
  pub sum : r.sum.0 < reach
  pub width : r.width ≤ 1126080000
  pub clock : r.clock.0 < 2 ^ 62
  pub link : r.link.0 < 2 ^ 62
