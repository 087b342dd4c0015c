-- The plain engine's record in words, and the only file of this crate that knows how it is laid out. Document 02 c);
-- document 01, "The record".
-- Assumes nothing.
use Rattle.std.specs.Prelude.{List, ℕ, ◌+◌, ℤ, pos, get_or, set, replicate}
use Rattle.below.specs.Listed.{listed}
use Rattle.queues.specs.Queue.{Queue}
use Rattle.queues.specs.Queues.{queue_at, put_queue}
use Rattle.queues.specs.declared.Queues.{Queues}
use Rattle.tags.specs.Ticks.{ticks}
use Rattle.tags.specs.declared.LinkTicks.{LinkTicks}
use Rattle.tags.specs.declared.ServerTicks.{ServerTicks}
use Rattle.signs.specs.Tags as signs
use Rattle.signs.specs.declared.SignedTags.{SignedTags}
use Rattle.uplink.specs.Record as first
use Rattle.uplink.specs.declared.Record as forward
use Rattle.backward.specs.declared.Record.{Record}

abbrev pub signed_tags : List ℤ → SignedTags
signed_tags tags = record { 0 = tags }

-- the tag of flow f, what it has booked and where its packets wait, and how many do
abbrev pub tag_of : Record → ℕ → ℤ
tag_of r f = get_or r.tags.0 f (pos 0)

abbrev pub queue_of : Record → ℕ → Queue
queue_of r f = queue_at r.queues f

abbrev pub waiting_of : Record → ℕ → ℕ
waiting_of r f = (queue_of r f).waiting

-- the record with another sum, clock, link time, tags, queues and turn
abbrev pub with : Record → ServerTicks → ServerTicks → LinkTicks → SignedTags → Queues → ℕ → Record
with r sum clock link tags queues turn =
    record {
      sum = sum;
      flows = r.flows;
      header = r.header;
      width = r.width;
      clock = clock;
      link = link;
      tags = tags;
      queues = queues;
      turn = turn;
    }

-- the record with flow f's tag and queue put anew
unfoldable pub put : Record → ℕ → ℤ → Queue → Record
put r f tag queue =
    with r r.sum r.clock r.link (signed_tags (set r.tags.0 f tag)) (put_queue r.queues f queue)
    r.turn

-- the record with another tag for flow f
abbrev pub tagged : Record → ℕ → ℤ → Record
tagged r f tag = with r r.sum r.clock r.link (signed_tags (set r.tags.0 f tag)) r.queues r.turn

-- the record with another clock and link time
abbrev pub moved : Record → ℕ → ℕ → Record
moved r clock link = with r r.sum (ticks clock) (first.link_time link) r.tags r.queues r.turn

-- the record with another turn
abbrev pub turned : Record → ℕ → Record
turned r turn = with r r.sum r.clock r.link r.tags r.queues turn

-- "the clock stays and every tag goes down by Δ": "all 64 go down", and "It keeps the sum of the widths leapt"
unfoldable pub lowered : Record → Record
lowered r =
    with r (ticks (r.sum.0 + r.width)) r.clock r.link
    (signed_tags (listed (λ f. signs.lowered r.width (tag_of r f)) 0 64)) r.queues r.turn

-- "clock, link time and all tags become 0; all else stays"; the sum is "0 again at Idle", and so is the turn (02 e)
abbrev pub rested : Record → Record
rested r = with r (ticks 0) (ticks 0) (first.link_time 0) (signed_tags (replicate 64 (pos 0))) r.queues 0

-- the first engine's record before anything was tagged, as this engine's: nothing has leapt
abbrev pub unleapt : forward.Record → Record
unleapt r =
    record {
      flows = r.flows;
      header = r.header;
      width = r.width;
      sum = ticks 0;
      clock = r.clock;
      link = r.link;
      tags = signed_tags (replicate 64 (pos 0));
      queues = r.queues;
      turn = r.turn;
    }

-- "The blank record is all zeros."
abbrev pub blank : Record
blank = unleapt first.blank
