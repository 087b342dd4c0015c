-- Document 02 e) in rows: among equal smallest tags the first flow at or after the turn, counting round 63 to 0; and
-- the turn, one past the last flow picked, 0 after an opening or Idle.
-- Assumes nothing.
use Rattle.std.specs.Prelude.{◌≡◌, refl, true, false, List, [], ◌∷◌, ◌++◌, ℕ, replicate}
use Rattle.reply.specs.Reply.{idle, done, refused, packet}
use Rattle.uplink.specs.Record.{turned}
use Rattle.uplink.specs.State.{State}
use Rattle.uplink.specs.Calls.{Call, opening, arrival, start}
use Rattle.rows.specs.Script.{run, replies}
use Rattle.rows.specs.Examples.{pair, opened, one_each, picks, both_wait}
use Rattle.rows.specs.Altered.{reheld}
use Rattle.rows.specs.Row.{turn_is, tag_is, record_is_blank, record_stays, memories_stay, all_hold, Shown, shown, row}
use Rattle.rows.specs.Row.{rows_of, all_hold_lem}

-- ten flows of share 100 and largest packet 100: cost 7,200
abbrev ten_flows : List Call
ten_flows = opening (replicate 10 100) (replicate 10 100) 0 ∷ []

-- 64 flows of share 15 and largest packet 100: cost 48,000
abbrev sixty_four : List Call
sixty_four = opening (replicate 64 15) (replicate 64 100) 0 ∷ []

-- 100 bytes at each of these flows, with handle 7
abbrev arrivals : List ℕ → List Call
arrivals [] = []
arrivals (f ∷ fs) = arrival f 100 7 ∷ arrivals fs

-- flow 8 has been picked, and flows 0 and 9 wait with equal tags
unfoldable pub after8 : State
unfolding run
after8 = run start (ten_flows ++ arrivals (8 ∷ []) ++ picks 1 ++ arrivals (0 ∷ 9 ∷ []))

-- flow 62 of 64 has been picked
unfoldable pub after62 : State
unfolding run
after62 = run start (sixty_four ++ arrivals (62 ∷ []) ++ picks 1)

-- both of two flows wait with equal tags, and the turn is this
abbrev turned_to : ℕ → State
turned_to turn = reheld both_wait (turned both_wait.held turn)

-- the rows
unfoldable pub turn_rows : List Shown
unfolding run replies both_wait after8 after62
turn_rows =
    -- "0 after an opening": of equals flow 0 is taken, as in P2, and the turn is one past it
    shown (row (run start opened) one_each (done [] ∷ done [] ∷ []) (turn_is 0 ∷ [])) refl
    ∷ shown (row both_wait (picks 1) (packet 0 100 7 144000 false 72000 ∷ []) (turn_is 1 ∷ [])) refl
    -- "one past the last flow picked", also where that was the only one that waited
    ∷ shown (row (run start ten_flows) (arrivals (8 ∷ []) ++ picks 1)
    (done [] ∷ packet 8 100 7 720000 false 72000 ∷ []) (turn_is 9 ∷ [])) refl
    -- flow 9 wins over flow 0
    ∷ shown (row after8 [] [] (turn_is 9 ∷ tag_is 0 792000 ∷ tag_is 9 792000 ∷ [])) refl
    ∷ shown (row after8 (picks 2) (packet 9 100 7 792000 false 144000 ∷ packet 0 100 7 792000 false 216000 ∷ [])
    (turn_is 1 ∷ [])) refl
    -- a smaller tag goes before the turn: flow 0 with 50 bytes
    ∷ shown (row (run start (ten_flows ++ arrivals (8 ∷ []) ++ picks 1)) (arrival 0 50 7 ∷ arrival 9 100 7 ∷ picks 1)
    (done [] ∷ done [] ∷ packet 0 50 7 432000 false 108000 ∷ []) (turn_is 1 ∷ [])) refl
    -- "63 to 0": flow 63 at the turn, then flow 0 and flow 1
    ∷ shown (row after62 (arrivals (0 ∷ 1 ∷ 63 ∷ []) ++ picks 1)
    (done [] ∷ done [] ∷ done [] ∷ packet 63 100 7 4872000 false 144000 ∷ []) (turn_is 0 ∷ [])) refl
    ∷ shown (row (run after62 (arrivals (0 ∷ 1 ∷ 63 ∷ []) ++ picks 1)) (picks 2)
    (packet 0 100 7 4872000 false 216000 ∷ packet 1 100 7 4872000 false 288000 ∷ []) (turn_is 2 ∷ [])) refl
    -- "counting round": nothing waits at 63, so flow 0 comes next, before flow 61
    ∷ shown (row after62 (arrivals (0 ∷ 61 ∷ []) ++ picks 2)
    (done [] ∷ done [] ∷ packet 0 100 7 4872000 false 144000 ∷ packet 61 100 7 4872000 false 216000 ∷ [])
    (turn_is 62 ∷ [])) refl
    -- the turn at and past the number of flows: flow 0 comes next
    ∷ shown (row (turned_to 1) (picks 1) (packet 1 100 8 144000 false 72000 ∷ []) (turn_is 2 ∷ [])) refl
    ∷ shown (row (turned_to 2) (picks 1) (packet 0 100 7 144000 false 72000 ∷ []) (turn_is 1 ∷ [])) refl
    ∷ shown (row (turned_to 63) (picks 1) (packet 0 100 7 144000 false 72000 ∷ []) (turn_is 1 ∷ [])) refl
    -- a refused call leaves it
    ∷ shown (row after8 (arrival 10 100 7 ∷ []) (refused 7 0 ∷ []) (turn_is 9 ∷ record_stays ∷ memories_stay ∷ [])) refl
    -- "0 after .. Idle", and after an opening, also where it is refused
    ∷ shown (row after8 (picks 3) (packet 9 100 7 792000 false 144000 ∷ packet 0 100 7 792000 false 216000 ∷ idle ∷ [])
    (turn_is 0 ∷ [])) refl
    ∷ shown (row after8 opened (done [] ∷ []) (turn_is 0 ∷ [])) refl
    ∷ shown (row after8 (opening (pair 600 401) (pair 100 100) 0 ∷ []) (refused 6 0 ∷ []) (record_is_blank ∷ [])) refl
    ∷ []

pub turn_rows_hold : all_hold (rows_of turn_rows) ≡ true
turn_rows_hold = all_hold_lem turn_rows
