-- The words that a call writes: six, and at Idle the tags. And what a call may change in a record: the clock, the link
-- time, tags, one flow's first place and number waiting, and the turn.
-- Assumes nothing.
use Rattle.std.specs.Prelude.{◌≡◌, List, ℕ, ◌+◌, ◌/◌, ◌%◌, ◌<◌, get_or, set}
use borrow.Rule.Slice.PartMut.{put_mid}
use Rattle.reply.specs.Reply.{Reply, idle, done, refused}
use Rattle.queues.specs.Opening.{field64}
use Rattle.uplink.specs.Record.{tag_of}
use Rattle.uplink.specs.declared.Record.{Record}
use Rattle.gateway.specs.Image.{four_at}

-- clock, link time, the tag of flow f, the words with its first place and its number waiting, and the turn
abbrev pub step_words : List ℕ → Record → ℕ → List ℕ
step_words words r f =
    set (set (set (set (set (set words 1 r.clock.0) 2 r.link.0) (3 + f) (tag_of r f))
    (99 + f / 4) (four_at r.queues.first (f / 4)))
    (115 + f / 4) (four_at r.queues.waiting (f / 4)))
    131 r.turn

-- the flow whose words a pick writes: that of the packet, and flow 0 where none is picked
abbrev pub flow_in : Reply → ℕ
flow_in idle = 0
flow_in (done values) = get_or values 0 0 % 64
flow_in (refused number flow) = 0

-- the words that a pick leaves: those of its flow, and where nothing waits the tags besides
abbrev pub picked_words : List ℕ → Record → Reply → List ℕ
picked_words words next idle = put_mid 3 64 (step_words words next 0) (field64 next.tags.0)
picked_words words next (done values) = step_words words next (flow_in (done values))
picked_words words next (refused number flow) = step_words words next 0

-- next is what a call with flow f makes of r, whatever became of the clocks, the tags and the turn
pub record Kept (r next : Record) (f : ℕ) : Type 0 where
  pub below : f < 64
  pub flows : next.flows ≡ r.flows
  pub header : next.header ≡ r.header
  pub width : next.width ≡ r.width
  pub share : next.queues.share ≡ r.queues.share
  pub largest : next.queues.largest ≡ r.queues.largest
  pub first : next.queues.first ≡ set r.queues.first f (get_or next.queues.first f 0)
  pub waiting : next.queues.waiting ≡ set r.queues.waiting f (get_or next.queues.waiting f 0)
