-- Wrong logs, each the rule but for one thing, and a named input at which it leaves the rule.
-- Assumes nothing.
use Rattle.std.specs.Prelude.{◌≡◌, refl, List, [], ◌∷◌, ℕ, ◌+◌, ◌*◌, ◌/◌, length, get_or, set, take, drop}
use Rattle.below.specs.Listed.{listed}
use Rattle.below.specs.Truth.{apart}
use Rattle.reply.specs.Reply.{Reply, idle, done, refused}
use Rattle.uplink.specs.Record.{tag_of}
use Rattle.uplink.specs.State.{State, Outcome}
use Rattle.uplink.specs.Calls.{Call, opening, arrival, pick, start, after_call, every_rule}
use Rattle.entries.specs.Entry.{no_entry}
use Rattle.entries.specs.declared.Entry.{Entry}
use Rattle.card.specs.declared.Block.{Block}
use Rattle.cardlog.specs.Logged.{idle_entry, logged_reply, logged}
use Rattle.cardlog.specs.Log.{content_of, block_at, blocks_for, log_of}
use Rattle.cardlog.specs.Stretches.{state_after}
use Rattle.cardlog.specs.Rows.{two_flows, leap_script}

-- a field of the first entry, and 0 where there is none
abbrev first_of : (Entry → ℕ) → List Entry → ℕ
first_of field entries = field (get_or entries 0 no_entry)

-- "Two flows, q = 500, largest 100", opened
abbrev opened : State
opened = (after_call start two_flows).state

-- the tag in place of the clock: P1's arrival has tag 144,000 at clock 0
abbrev pub tag_logged : Call → Outcome → List Entry
tag_logged (arrival flow length handle) o =
    logged_reply (arrival flow length handle) o.reply (tag_of o.state.held flow)
tag_logged (opening shares largest header) o = logged (opening shares largest header) o
tag_logged pick o = logged pick o

pub tag_logged_differs : tag_logged (arrival 0 100 7) (after_call opened (arrival 0 100 7))
    ≡ logged (arrival 0 100 7) (after_call opened (arrival 0 100 7)) → ⊥
unfolding every_rule
tag_logged_differs = apart (first_of (λ e. e.clock)) _ _ refl

-- the clock before the call: the first pick of P2 is at clock 0 before it
abbrev pub early_logged : State → Call → Outcome → List Entry
early_logged s call o = logged_reply call o.reply s.held.clock.0

pub early_logged_differs : let s = (after_call opened (arrival 0 100 7)).state in
    early_logged s pick (after_call s pick) ≡ logged pick (after_call s pick) → ⊥
unfolding every_rule
early_logged_differs = apart (first_of (λ e. e.clock)) _ _ refl

-- a leap as kind 2: P6's pick
abbrev unleapt : Reply → Reply
unleapt (done values) = done (set values 4 0)
unleapt idle = idle
unleapt (refused number flow) = refused number flow

abbrev pub leapless_logged : Call → Outcome → List Entry
leapless_logged call o = logged_reply call (unleapt o.reply) o.state.held.clock.0

-- after four arrivals at flow 0 and three picks
abbrev before_leap : State
before_leap = state_after start (take 8 leap_script)

pub leapless_logged_differs : leapless_logged pick (after_call before_leap pick)
    ≡ logged pick (after_call before_leap pick) → ⊥
unfolding every_rule
leapless_logged_differs = apart (first_of (λ e. e.kind)) _ _ refl

-- a refused call is logged: an arrival that is refused with 7
abbrev pub refused_logged : Call → Outcome → List Entry
refused_logged call o = logged_reply call (done []) o.state.held.clock.0

pub refused_logged_differs : refused_logged (arrival 2 1 9) (after_call opened (arrival 2 1 9))
    ≡ logged (arrival 2 1 9) (after_call opened (arrival 2 1 9)) → ⊥
unfolding every_rule
refused_logged_differs = apart length _ _ refl

-- blocks numbered from 1
abbrev pub log_from_one : List Entry → List Block
log_from_one entries = listed (λ k. content_of (k + 1) (take 31 (drop (31 * k) entries))) 0 (blocks_for entries)

pub log_from_one_differs : log_from_one (idle_entry ∷ []) ≡ log_of (idle_entry ∷ []) → ⊥
unfolding listed
log_from_one_differs = apart (λ (log : List Block). (get_or log 0 (content_of 0 [])).number) _ _ refl

-- a last block that is not full is forgotten
abbrev pub log_of_whole : List Entry → List Block
log_of_whole entries = listed (block_at entries) 0 (length entries / 31)

pub log_of_whole_differs : log_of_whole (idle_entry ∷ []) ≡ log_of (idle_entry ∷ []) → ⊥
unfolding listed
log_of_whole_differs = apart length _ _ refl
