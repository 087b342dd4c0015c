-- The queue's side of an opening: document 01, "The three calls" and the order of refusals 1, 3, then flow by flow 4
-- and 5, then 6.
-- Assumes nothing.
use Rattle.std.specs.Prelude.{ℕ, zero, suc, Bool, cond, ◌&&◌, List, [], length, replicate, ◌==◌, nat_le, slice_index}
use Rattle.below.specs.Listed.{listed}
use Rattle.cost.specs.Cost.{within}
use Rattle.cost.specs.Charge.{is_header}
use Rattle.reply.specs.Reply.{Reply, idle, done, refused}
use Rattle.queues.specs.Queues.{queues_of, shares_of}
use Rattle.queues.specs.Places.{lent}
use Rattle.queues.specs.declared.Queues.{Queues}

-- 64 entries, one for each flow: past the end of the list they are 0
unfoldable pub field64 : List ℕ → List ℕ
field64 list = listed (λ f. slice_index list f) 0 64

-- the queues of a table: "firsts and waiting numbers 0"
unfoldable pub new_queues : List ℕ → List ℕ → Queues
new_queues shares largest = queues_of (field64 shares) (field64 largest) (replicate 64 0) (replicate 64 0)

-- 3: the two lists are of one length, 1 to 64; "3 also when the header is over 64" (02 a)
abbrev pub paired : List ℕ → List ℕ → ℕ → Bool
paired shares largest header =
    (length shares == length largest) && within 1 64 (length shares) && is_header header

-- "flow by flow from 0, 4 before 5": the first of n flows, from f on, that has a number out of range
unfoldable pub fault_from : List ℕ → List ℕ → ℕ → ℕ → Reply
fault_from shares largest f zero = done []
fault_from shares largest f (suc n) =
    cond (within 1 1000 (slice_index shares f))
    (cond (within 1 1500 (slice_index largest f)) (fault_from shares largest (suc f) n) (refused 5 f))
    (refused 4 f)

-- the call goes on where nothing is refused
abbrev pub or_else : Reply → Reply → Reply
or_else idle on = idle
or_else (done values) on = on
or_else (refused number flow) on = refused number flow

-- 4, 5 and 6
unfoldable pub table_reply : List ℕ → List ℕ → Reply
table_reply shares largest =
    or_else (fault_from shares largest 0 (length shares))
    (cond (nat_le (shares_of (new_queues shares largest) (length shares)) 1000) (done []) (refused 6 0))

-- 1, 3, then what the table says
unfoldable pub lists_reply : List ℕ → List ℕ → ℕ → List ℕ → List ℕ → Reply
lists_reply shares largest header lengths handles =
    cond (lent lengths handles)
    (cond (paired shares largest header) (table_reply shares largest) (refused 3 0))
    (refused 1 0)
