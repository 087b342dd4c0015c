-- The record's words, and the only file of this crate that knows how the record is laid out: a flow got, a flow put,
-- and the laws of getting and putting. The rules, the form and the theorems speak of `flow_at` and `put`.
-- Document 01, "The record".
-- Assumes nothing.
use Rattle.std.specs.Prelude.{◌≡◌, List, ℕ, ◌<◌, get_or, set, length, replicate}
use Rattle.std.proofs.Common.{◌∙◌, arith, length-set, get_or-set_same, get_or-set_other}
use Rattle.std.proofs.lemmas.List.{length-replicate}
use Rattle.queues.specs.Queues.{queues_of, queue_at, put_queue, blank_queues, Sized, put_sized, put_same, put_other}
use Rattle.queues.specs.Laws.{zeros_at}
use Rattle.queues.specs.declared.Queues.{Queues}
use Rattle.tags.specs.Ticks.{ticks}
use Rattle.tags.specs.declared.LinkTicks.{LinkTicks}
use Rattle.tags.specs.declared.ServerTags.{ServerTags}
use Rattle.tags.specs.declared.ServerTicks.{ServerTicks}
use Rattle.uplink.specs.Flow.{Flow, untagged}
use Rattle.uplink.specs.declared.Record.{Record}

abbrev pub link_time : ℕ → LinkTicks
link_time n = record { 0 = n }

abbrev pub tags_of : List ℕ → ServerTags
tags_of tags = record { 0 = tags }

-- the flow of number f
abbrev pub flow_at : Record → ℕ → Flow
flow_at r f = record { tag = ticks (get_or r.tags.0 f 0); queue = queue_at r.queues f }

-- its tag, and the number of packets that wait in it
abbrev pub tag_of : Record → ℕ → ℕ
tag_of r f = (flow_at r f).tag.0

abbrev pub waiting_of : Record → ℕ → ℕ
waiting_of r f = (flow_at r f).queue.waiting

-- the record with another clock, link time, tags, queues and turn
abbrev pub with : Record → ServerTicks → LinkTicks → ServerTags → Queues → ℕ → Record
with r clock link tags queues turn =
    record {
      flows = r.flows;
      header = r.header;
      width = r.width;
      clock = clock;
      link = link;
      tags = tags;
      queues = queues;
      turn = turn;
    }

-- the record with another clock and link time
abbrev pub moved : Record → ℕ → ℕ → Record
moved r clock link = with r (ticks clock) (link_time link) r.tags r.queues r.turn

-- the record with another turn
abbrev pub turned : Record → ℕ → Record
turned r turn = with r r.clock r.link r.tags r.queues turn

-- the record with another tag for flow f
abbrev pub tagged : Record → ℕ → ℕ → Record
tagged r f tag = with r r.clock r.link (tags_of (set r.tags.0 f tag)) r.queues r.turn

-- the record with flow f put anew
unfoldable pub put : Record → ℕ → Flow → Record
put r f w =
    with r r.clock r.link (tags_of (set r.tags.0 f w.tag.0)) (put_queue r.queues f w.queue) r.turn

-- "clock, link time and all tags become 0; all else stays", and the turn is "0 after .. Idle" (02 e)
abbrev pub rested : Record → Record
rested r = with r (ticks 0) (link_time 0) (tags_of (replicate 64 0)) r.queues 0

-- "The blank record is all zeros."
abbrev pub blank : Record
blank =
    record {
      flows = 0;
      header = 0;
      width = 0;
      clock = ticks 0;
      link = link_time 0;
      tags = tags_of (replicate 64 0);
      queues = blank_queues;
      turn = 0;
    }

-- the record whose parts are lent one by one
abbrev pub record_of : ℕ → ℕ → ℕ → ℕ → ℕ → List ℕ → List ℕ → List ℕ → List ℕ → List ℕ → ℕ → Record
record_of flows header width clock link tags share largest first waiting turn =
    record {
      flows = flows;
      header = header;
      width = width;
      clock = ticks clock;
      link = link_time link;
      tags = tags_of tags;
      queues = queues_of share largest first waiting;
      turn = turn;
    }

-- the record has its 64 rows
pub record Rows (r : Record) : Type 0 where
  pub tags : length r.tags.0 ≡ 64
  pub queues : Sized r.queues

pub moved_rows : (r : Record) (clock link turn : ℕ) → Rows r → Rows (turned (moved r clock link) turn)
moved_rows r clock link turn s = record { tags = s.tags; queues = s.queues }

pub put_rows : (r : Record) (f : ℕ) (w : Flow) → Rows r → Rows (put r f w)
unfolding put
put_rows r f w s =
    record {
      tags = length-set r.tags.0 f w.tag.0 ∙ s.tags;
      queues = put_sized r.queues f w.queue s.queues;
    }

-- the flow put is the flow got
pub put_here : (r : Record) (f : ℕ) (w : Flow) → Rows r → f < 64 → flow_at (put r f w) f ≡ w
unfolding put
put_here r f w s h =
    rw (
      get_or-set_same r.tags.0 f w.tag.0 0 (omega (arith, s.tags)),
      put_same r.queues f w.queue s.queues h,
    )

-- and no other flow changes
pub put_else : (r : Record) (f g : ℕ) (w : Flow) → (g ≡ f → ⊥) → flow_at (put r f w) g ≡ flow_at r g
unfolding put
put_else r f g w d =
    rw (get_or-set_other r.tags.0 f g w.tag.0 0 d, put_other r.queues f g w.queue d)

-- at Idle each flow loses its tag
pub rested_at : (r : Record) (f : ℕ) → flow_at (rested r) f ≡ untagged (flow_at r f)
rested_at r f = rw (zeros_at 64 f)

pub rested_rows : (r : Record) → Rows r → Rows (rested r)
rested_rows r s = record { tags = length-replicate {A = ℕ} 64 0; queues = s.queues }
