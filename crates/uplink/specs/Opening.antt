-- The rule of an opening: document 01, "The three calls" and the order of refusals 1, 3, then flow by flow 4 and 5,
-- then 6. What is refused is the queue's side (crate `queues`, specs/Opening.antt).
-- Assumes nothing.
use Rattle.std.specs.Prelude.{List, ℕ, length, replicate}
use Rattle.queues.specs.Queues.{width_of}
use Rattle.queues.specs.Opening.{new_queues, lists_reply}
use Rattle.tags.specs.Ticks.{ticks}
use Rattle.uplink.specs.Record.{blank, link_time, tags_of}
use Rattle.reply.specs.State.{opened_by}
use Rattle.uplink.specs.State.{Outcome}
use Rattle.uplink.specs.declared.Record.{Record}

-- "the record with clock, link time, tags, firsts and waiting numbers 0", and the header, "which the record keeps"
-- (02 a); the turn is "0 after an opening" (02 e)
unfoldable pub new_record : List ℕ → List ℕ → ℕ → Record
new_record shares largest header =
    record {
      flows = length shares;
      header = header;
      width = width_of header (new_queues shares largest) (length shares);
      clock = ticks 0;
      link = link_time 0;
      tags = tags_of (replicate 64 0);
      queues = new_queues shares largest;
      turn = 0;
    }

-- 1, 3, 4, 5, 6
unfoldable pub opening_rule : List ℕ → List ℕ → ℕ → List ℕ → List ℕ → Outcome
opening_rule shares largest header lengths handles =
    opened_by (lists_reply shares largest header lengths handles) (new_record shares largest header) blank lengths handles
