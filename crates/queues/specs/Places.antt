-- The memories, and the queue's side of an arrival and of a pick: document 01, "The three calls" and refusals 1, 7, 8
-- and 9.
-- Assumes nothing.
use Rattle.std.specs.Prelude.{ℕ, Bool, cond, ◌&&◌, List, [], length, ◌==◌, nat_lt, slice_index}
use Rattle.cost.specs.Cost.{within}
use Rattle.reply.specs.Reply.{Reply, done, refused}
use Rattle.queues.specs.Queue.{place_of}
use Rattle.queues.specs.Form.{counts}
use Rattle.queues.specs.declared.places.Freed.{Freed}

-- 1: each lent memory has exactly 4,096 places
abbrev pub lent : List ℕ → List ℕ → Bool
lent lengths handles = length lengths == 4096 && length handles == 4096

-- 7, 8 and 9, for n bytes at flow f of this largest packet and number waiting
unfoldable pub join_reply : ℕ → ℕ → ℕ → ℕ → ℕ → Reply
join_reply flows f n largest waiting =
    cond (counts flows f)
    (cond (within 1 largest n)
    (cond (nat_lt waiting 64)
    (done [])
    (refused 9 0)) (refused 8 0)) (refused 7 0)

-- the front packet of flow f, and the length of the one behind it
abbrev pub freed_of : ℕ → ℕ → List ℕ → List ℕ → Freed
freed_of f first lengths handles =
    record {
      length = slice_index lengths (place_of f first 0);
      handle = slice_index handles (place_of f first 0);
      behind = slice_index lengths (place_of f first 1);
    }
