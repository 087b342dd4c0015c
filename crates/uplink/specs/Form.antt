-- When a record is well formed: document 01, "The record", its five bullets in its order, with document 02 a)'s header,
-- and then document 02 e)'s turn.
-- The first two are the queue's side (crate `queues`, specs/Form.antt), the third the tag's side (crate `tags`).
-- Assumes nothing.
use Rattle.std.specs.Prelude.{Bool, ◌&&◌, ◌||◌, List, ℕ, ◌+◌, ◌^◌, leb, ltb}
use Rattle.below.specs.Below.{all_below}
use Rattle.queues.specs.Form.{counts, tabled, queues_formed}
use Rattle.queues.specs.Checked.{checked_by}
use Rattle.tags.specs.Form.{tags_formed}
use Rattle.uplink.specs.Flow.{spare_flow}
use Rattle.uplink.specs.Record.{flow_at, tag_of, waiting_of}
use Rattle.uplink.specs.State.{State, Outcome}
use Rattle.uplink.specs.declared.Record.{Record}

-- 02 a): "the record's clock limit 2^62 + 1,127,206,080": a pick below 2^62 adds at most one leap and one charge
abbrev pub clock_end : ℕ
clock_end = 2 ^ 62 + 1127206080

-- "link time is at most the clock; the clock is below" its end
unfoldable pub clocks_formed : Record → Bool
clocks_formed r = leb r.link.0 r.clock.0 && ltb r.clock.0 clock_end

-- "all fields of flows beyond the number of flows are 0"
unfoldable pub rest_spare : Record → Bool
rest_spare r = all_below (λ f. counts r.flows f || spare_flow (flow_at r f)) 64

-- 02 e): "the turn, 0 to 63"
unfoldable pub turn_formed : Record → Bool
turn_formed r = ltb r.turn 64

-- well formed, with this memory of lengths
unfoldable pub formed : Record → List ℕ → Bool
formed r lengths =
    tabled r.flows r.header r.width r.queues
    && queues_formed r.flows r.queues lengths
    && tags_formed r.flows r.width r.clock.0 (tag_of r) (waiting_of r)
    && clocks_formed r
    && rest_spare r
    && turn_formed r

-- refusals 1 and 2, with which every call on a record begins; then the call goes on
unfoldable pub checked : State → Outcome → Outcome
checked s on = checked_by (formed s.held s.lengths) s on
