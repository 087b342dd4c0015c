-- P1 to P12 of document 01, "Examples on both sides": the rows of one list. `rows_hold` of proofs/Rows is
-- the one claim over them.
-- Assumes nothing.
use Rattle.std.specs.Prelude.{true, false, List, [], ◌∷◌, ◌++◌}
use Rattle.reply.specs.Reply.{Reply, idle, done, refused, packet}
use Rattle.uplink.specs.Calls.{opening, arrival, start}
use Rattle.rows.specs.Script.{run}
use Rattle.rows.specs.Examples.{pair, opened, one_each, four_alone, picks}
use Rattle.rows.specs.Examples.{both_wait, flow1_waits, none_waits, before_leap, after_leap}
use Rattle.rows.specs.Row.{clock_is, tag_is, width_is, cost_is, leap_is, Row, row}

-- a call that is taken replies with no values
abbrev taken : Reply
taken = done []

-- "P1 to P12 stand as rows of a single list"
unfoldable pub rows : List Row
rows =
    -- "Two flows, q = 500, largest 100; cost 1,440, Δ = 144,000"
    -- P1: "100 bytes at flows 0 and 1, clock 0: both tags are 144,000."
    row (run start opened) one_each (taken ∷ taken ∷ [])
    (cost_is 500 1440 ∷ width_is 144000 ∷ clock_is 0 ∷ tag_is 0 144000 ∷ tag_is 1 144000 ∷ [])
    -- P2: "first pick from P1 is flow 0, clock 72,000."
    ∷ row both_wait (picks 1) (packet 0 100 7 144000 false 72000 ∷ []) (clock_is 72000 ∷ [])
    -- P3: "the second is flow 1, clock 144,000, equal to its tag."
    ∷ row flow1_waits (picks 1) (packet 1 100 8 144000 false 144000 ∷ [])
    (clock_is 144000 ∷ tag_is 1 144000 ∷ [])
    -- P4: "a third pick is Idle, clock 0."
    ∷ row none_waits (picks 1) (idle ∷ []) (clock_is 0 ∷ [])
    -- "After a fresh opening, four packets of 100 at flow 0 alone. Tags 144,000, 288,000, 432,000, 576,000."
    -- P5: "at the third pick the clock is 144,000 and 432,000 is not above 144,000 + 288,000: no leap, clock 216,000."
    ∷ row (run start (opened ++ four_alone)) (picks 3)
    (packet 0 100 7 144000 false 72000 ∷ packet 0 100 7 288000 false 144000 ∷ packet 0 100 7 432000 false 216000 ∷ [])
    (leap_is 144000 432000 144000 ∷ clock_is 216000 ∷ tag_is 0 576000 ∷ [])
    -- P6: "at the fourth, 576,000 is above 504,000: leap to 360,000, clock then 432,000."
    ∷ row before_leap (picks 1) (packet 0 100 7 576000 true 432000 ∷ [])
    (leap_is 216000 576000 360000 ∷ clock_is 432000 ∷ [])
    -- P7: "after P6, 100 bytes at flow 1 get tag 576,000."
    ∷ row after_leap (arrival 1 100 8 ∷ []) (taken ∷ []) (tag_is 1 576000 ∷ [])
    -- P8: "then 100 bytes at flow 0 get 720,000."
    ∷ row (run after_leap (arrival 1 100 8 ∷ [])) (arrival 0 100 7 ∷ []) (taken ∷ []) (tag_is 0 720000 ∷ [])
    -- P9: "cost of 11 is 65,455 and of 10 is 72,000"
    ∷ row start [] [] (cost_is 11 65455 ∷ cost_is 10 72000 ∷ [])
    -- P10: "shares 600 and 400 open"
    ∷ row start (opening (pair 600 400) (pair 100 100) 0 ∷ []) (taken ∷ []) []
    -- P11: "600 and 401 are refused with 6"
    ∷ row start (opening (pair 600 401) (pair 100 100) 0 ∷ []) (refused 6 0 ∷ []) []
    -- P12: "length 100 is taken and 101 refused with 8"
    ∷ row (run start opened) (arrival 0 100 7 ∷ arrival 0 101 8 ∷ []) (taken ∷ refused 8 0 ∷ []) []
    ∷ []
