-- The rule of an opening: document 01, "The three calls". What is refused, and with what, is the queue's side.
-- Assumes nothing.
use Rattle.std.specs.Prelude.{List, ℕ}
use Rattle.reply.specs.State.{opened_by}
use Rattle.queues.specs.Opening.{lists_reply}
use Rattle.uplink.specs.Opening as first
use Rattle.backward.specs.Record.{unleapt, blank}
use Rattle.backward.specs.State.{Outcome}

-- 1, 3, 4, 5, 6; then the first engine's new record, in which nothing has leapt
unfoldable pub opening_rule : List ℕ → List ℕ → ℕ → List ℕ → List ℕ → Outcome
opening_rule shares largest header lengths handles =
    opened_by (lists_reply shares largest header lengths handles) (unleapt (first.new_record shares largest header)) blank
    lengths handles
