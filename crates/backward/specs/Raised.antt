-- The record with the sum added to clock and tags: the first engine's record. Document 02 c): "with that added to clock
-- and tags, its record is judged by 01's form and refusal 10".
-- Assumes nothing.
use Rattle.std.specs.Prelude.{◌+◌}
use Rattle.below.specs.Listed.{listed}
use Rattle.tags.specs.Ticks.{ticks}
use Rattle.signs.specs.Tags.{raised}
use Rattle.uplink.specs.Record.{tags_of}
use Rattle.uplink.specs.declared.Record as forward
use Rattle.backward.specs.Record.{tag_of}
use Rattle.backward.specs.declared.Record.{Record}

abbrev pub raised_record : Record → forward.Record
raised_record r =
    record {
      flows = r.flows;
      header = r.header;
      width = r.width;
      clock = ticks (r.clock.0 + r.sum.0);
      link = r.link;
      tags = tags_of (listed (λ f. raised r.sum.0 (tag_of r f)) 0 64);
      queues = r.queues;
      turn = r.turn;
    }
