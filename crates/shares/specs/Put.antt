-- One flow put anew, as a taken arrival and a served pick put it: of table and view only the flow's tag and charge
-- change, and where the flow keeps its form and the backlog is kept, all is kept.
-- Assumes nothing.
use Rattle.std.specs.Prelude.{◌≡◌, ◌≢◌, true, ℕ, ◌≤◌, ◌<◌}
use Rattle.std.proofs.Math.Path.{ap, fun_ext}
use Rattle.std.proofs.Common.{◌∙◌, arith}
use Rattle.std.proofs.Math.ListN.{length-set}
use borrow.Author.Tests.{ne_eqb}
use Rattle.cost.specs.Charge.{charge_of}
use Rattle.queues.specs.Form.{ranged, queue_formed}
use Rattle.uplink.specs.Flow.{Flow}
use Rattle.uplink.specs.Record.{put}
use Rattle.uplink.specs.State.{State}
use Rattle.uplink.specs.Form.{clock_end}
use Rattle.uplink.specs.Put.{Put, put_state, length_in, put_header, place_else, flow_else, next_rows, flow_here}
use Rattle.uplink.specs.Put.{put_share, put_formed}
use Rattle.shares.specs.Bridge.{flow_of, table_with, table_of, view_of, Steady, charge_idle}
use Rattle.shares.specs.Bridge.{table_sound, tags_formed_lem}
use Rattle.shares.specs.Keep.{Good, Change}
use Rattle.shares.specs.Runs.{waiting_charge}

module _ (s : State) (p : Put) where
  -- the state after it, the flow's number and the flow
  abbrev next : State
  next = put_state s p

  abbrev f : ℕ
  f = p.index

  abbrev w : Flow
  w = p.flow

  -- the charges of the front packets of other flows stay
  charge_else : (j : ℕ) → j ≢ f → waiting_charge next j ≡ waiting_charge s j
  unfolding waiting_charge
  charge_else j q = let same = flow_else s p j q in
      rw (
        ap (λ x. x.queue.waiting) same,
        ap (λ x. x.queue.first) same,
        place_else s p j (flow_of s j).queue.first 0 q,
        put_header s p,
      )

  module _ (S : Steady s) (l : f < s.held.flows) where
    -- flow f is the new one
    put_at : flow_of next f ≡ w
    put_at = flow_here s p S.rows S.form l

    -- the charge of its new front packet
    pub put_charge : 0 < w.queue.waiting
        → waiting_charge next f ≡ charge_of s.held.header (length_in next.lengths f w.queue.first 0)
    unfolding waiting_charge
    put_charge e = cc (put_at, put_header s p, ne_eqb w.queue.waiting 0 (λ z. omega arith))

    -- or that it is idle
    pub put_idle : w.queue.waiting ≡ 0 → waiting_charge next f ≡ 0
    put_idle e = charge_idle next f (cc put_at)

    -- only flow f changes
    pub put_change : {T m : ℕ} → w.tag.0 ≡ T → waiting_charge next f ≡ m → Change f T m (view_of s) (view_of next)
    put_change tag charge =
        record {
          tag_at = cc put_at;
          charge_at = charge;
          tag_else = λ j q. ap (λ x. x.tag.0) (flow_else s p j q);
          charge_else = charge_else;
        }

    module _ (share : w.queue.share ≡ (flow_of s f).queue.share)
        (largest : w.queue.largest ≡ (flow_of s f).queue.largest) where
      -- the table stays
      pub put_table : table_of next ≡ table_of s
      unfolding put
      put_table = ap (table_with s.held.flows s.held.width)
          (fun_ext (put_share s p S.rows S.form l share largest))

      module _ (range : ranged w.queue ≡ true) (queue : queue_formed f next.lengths w.queue ≡ true)
          (good : Good (table_of s) p.clock (view_of next)) (low : p.link ≤ p.clock) (high : p.clock < clock_end)
        where
          -- where flow f keeps its form, all is kept
          pub put_steady : Steady next
          unfolding put
          put_steady =
              record {
                rows = next_rows s p S.rows S.form l;
                lengths_lent = length-set s.lengths _ p.bytes ∙ S.lengths_lent;
                handles_lent = length-set s.handles _ p.handle ∙ S.handles_lent;
                form = put_formed s p S.rows S.form l share largest range queue
                    (tags_formed_lem next (rw put_table (table_sound s S.form)) (rw put_table good)) low high;
                good = rw put_table good;
              }
