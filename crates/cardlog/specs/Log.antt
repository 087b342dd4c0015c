-- The log of a list of calls: blocks numbered from 0, each of 31 entries but the last, document 02 d).
-- Assumes nothing.
use Rattle.std.specs.Prelude.{Bool, true, false, cond, List, [], ◌∷◌, ◌++◌, map, ℕ, ◌+◌, ◌-◌, ◌*◌, ◌/◌, length, take, drop, replicate}
use Rattle.below.specs.Listed.{listed}
use Rattle.reply.specs.Reply.{Reply, idle, done, refused}
use Rattle.uplink.specs.State.{State}
use Rattle.uplink.specs.Calls.{Call, opening, arrival, pick, after_call}
use Rattle.entries.specs.Entry.{no_entry}
use Rattle.entries.specs.declared.Entry.{Entry}
use Rattle.card.specs.declared.Block.{Block}
use Rattle.cardlog.specs.Logged.{logged, entries_of}

-- a block of these entries, at most 31: "block number in 0 to 3, entry count 1 to 31 in 4"; "Unused entries are zeros."
abbrev pub content_of : ℕ → List Entry → Block
content_of number entries =
    record {
      number = number;
      count = length entries;
      entries = entries ++ replicate (31 - length entries) no_entry;
    }

-- block k: the 31 entries from 31 k on, or as many as there are
abbrev pub block_at : List Entry → ℕ → Block
block_at entries k = content_of k (take 31 (drop (31 * k) entries))

-- how many blocks it takes
abbrev pub blocks_for : List Entry → ℕ
blocks_for entries = (length entries + 30) / 31

-- the blocks of a list of entries, numbered from 0
abbrev pub log_of : List Entry → List Block
log_of entries = listed (block_at entries) 0 (blocks_for entries)

abbrev pub log_of_calls : State → List Call → List Block
log_of_calls s calls = log_of (entries_of s calls)

-- ---- a script may open more than once: an opening that is done begins another log

-- an opening that is done
abbrev pub begins : Call → Reply → Bool
begins (opening shares largest header) (done values) = true
begins (opening shares largest header) idle = false
begins (opening shares largest header) (refused number flow) = false
begins (arrival flow length handle) reply = false
begins pick reply = false

-- the entries, a list for each stretch up to an opening that is done; `before` are the stretch's so far
abbrev pub stretches : List Entry → State → List Call → List (List Entry)
stretches before s [] = before ∷ []
stretches before s (call ∷ calls) = let o = after_call s call in
    cond (begins call o.reply) (before ∷ stretches [] o.state calls)
    (stretches (before ++ logged call o) o.state calls)

-- a log for each stretch, each from block 0 on
abbrev pub logs_of : State → List Call → List (List Block)
logs_of s calls = map log_of (stretches [] s calls)
