-- Where clock, link time, all tags and the turn become 0: the record after an Idle, and the one that an opening makes.
-- Both are well formed.
-- Assumes nothing.
use Rattle.std.specs.Prelude.{◌≡◌, refl, true, List, ℕ, ◌≤◌, ◌<◌, length, get_or, replicate}
use Rattle.std.proofs.Math.Path.{ap}
use Rattle.std.proofs.Common.{◌∙◌}
use native.Mathlib.Omega.{arith}
use Rattle.std.proofs.Math.ListN.{get_or-eq_default}
use Rattle.queues.specs.Queue.{queue_of}
use Rattle.queues.specs.Laws.{ranged_in, queue_in, opened_at, opened_sized}
use Rattle.queues.specs.Openable.{Openable}
use Rattle.tags.specs.Laws.{tag_idle_in}
use Rattle.uplink.specs.Flow.{flow_of, untagged, spare_flow}
use Rattle.uplink.specs.Record.{flow_at, tag_of, waiting_of, rested, Rows, rested_at}
use Rattle.uplink.specs.Formed.{Formed, FlowFormed, spare_flow_lem, no_flow_spare}
use Rattle.uplink.specs.Opening.{new_record}
use Rattle.uplink.specs.declared.Record.{Record}

-- after an Idle every tag is 0
pub rested_tag : (r : Record) (f : ℕ) → tag_of (rested r) f ≡ 0
rested_tag r f = ap (λ x. x.tag.0) (rested_at r f)

module _ (r : Record) (lengths : List ℕ) (F : Formed r lengths)
    (nobody : (f : ℕ) → f < r.flows → waiting_of r f ≡ 0) where
  -- every flow keeps its form
  rested_each : (f : ℕ) → f < r.flows → FlowFormed (rested r) lengths f
  rested_each f l =
      let w = (flow_at r f).queue in
      record {
        range = (F.each f l).range;
        queue = queue_in f lengths w λ k h. absurd (omega (arith, nobody f l));
        tag = tag_idle_in 0 r.width (tag_of (rested r) f) w.waiting (nobody f l) (omega (arith, rested_tag r f));
      }

  -- and so does the record, where nothing waits
  pub rested_formed : Formed (rested r) lengths
  rested_formed =
      record {
        some = F.some;
        few = F.few;
        header = F.header;
        shares = F.shares;
        width = F.width;
        each = rested_each;
        link = omega arith;
        clock = omega arith;
        rest = λ f l b. rw (rested_at r f, ap untagged (spare_flow_lem (flow_at r f) (F.rest f l b))) no_flow_spare;
        turn = omega arith;
      }

module _ (shares largest : List ℕ) (header : ℕ) where
  -- the record that an opening makes
  abbrev new : Record
  new = new_record shares largest header

  -- it has its 64 rows
  pub opened_rows : Rows new
  unfolding new_record
  opened_rows = record { tags = refl; queues = opened_sized shares largest }

  -- flow f as it opens
  opened_flow : (f : ℕ) → f < 64 → flow_at new f ≡ flow_of 0 (queue_of (get_or shares f 0) (get_or largest f 0) 0 0)
  unfolding new_record
  opened_flow f l = rested_at new f ∙ ap (flow_of 0) (opened_at shares largest f l)

  -- it has no tag
  pub opened_tag : (f : ℕ) → f < 64 → tag_of new f ≡ 0
  opened_tag f l = ap (λ x. x.tag.0) (opened_flow f l)

  -- and nothing waits in it
  pub opened_waiting : (f : ℕ) → f < 64 → waiting_of new f ≡ 0
  opened_waiting f l = ap (λ x. x.queue.waiting) (opened_flow f l)

  module _ (lengths handles : List ℕ) (o : Openable shares largest header lengths handles) where
    -- every flow of the table is in form
    opened_each : (f : ℕ) → f < length shares → FlowFormed new (replicate 4096 0) f
    unfolding new_record
    opened_each f l =
        let inside : f < 64 = omega (arith, o.few) in
        let R = o.each f l in
        record {
          range = rw (opened_at shares largest f inside) (ranged_in _ (omega (
            arith,
            R.share_low,
            R.share_high,
            R.largest_low,
            R.largest_high,
          )));
          queue = queue_in f (replicate 4096 0) (flow_at new f).queue
              λ k h. absurd (omega (arith, opened_waiting f inside));
          tag = tag_idle_in 0 new.width (tag_of new f) (waiting_of new f) (opened_waiting f inside)
              (omega (arith, opened_tag f inside));
        }

    -- beyond the lists both numbers are 0
    opened_rest : (f : ℕ) → length shares ≤ f → f < 64 → spare_flow (flow_at new f) ≡ true
    opened_rest f l b = rw (
      opened_flow f b,
      get_or-eq_default shares 0 l,
      get_or-eq_default largest 0 {n = f} (omega (arith, o.paired_lists)),
    ) no_flow_spare

    -- where what was handed can be opened, the form holds
    pub opened_formed : Formed new (replicate 4096 0)
    unfolding new_record
    opened_formed =
        record {
          some = o.some;
          few = o.few;
          header = o.short;
          shares = o.sum;
          width = refl;
          each = opened_each;
          link = omega arith;
          clock = omega arith;
          rest = opened_rest;
          turn = omega arith;
        }
