-- Document 02 a) in rows: document 01's table, "Two flows, q = 500, largest 100; cost 1,440", with a header. A packet's
-- charge is its length plus the header, and tags, clock, link time and Δ use it.
-- Assumes nothing.
use Rattle.std.specs.Prelude.{◌≡◌, refl, true, false, List, [], ◌∷◌, ◌++◌, replicate}
use Rattle.reply.specs.Reply.{idle, done, refused, packet}
use Rattle.uplink.specs.Calls.{Call, arrival, start}
use Rattle.rows.specs.Script.{run, replies}
use Rattle.rows.specs.Examples.{opened_with, one_each, picks}
use Rattle.rows.specs.Row.{clock_is, link_is, tag_is, width_is, header_is, leap_is, all_hold, Shown, shown, row}
use Rattle.rows.specs.Row.{rows_of, all_hold_lem}

-- four packets of 80 bytes at flow 0 alone
abbrev four_of80 : List Call
four_of80 = replicate 4 (arrival 0 80 7)

-- the rows
unfoldable pub header_rows : List Shown
unfolding run replies
header_rows =
    -- a header of 12: the charge of 100 bytes is 112, Δ is 112 × 1,440, and so are both tags
    shown (row start (opened_with 12 ++ one_each) (replicate 3 (done []))
    (header_is 12 ∷ width_is 161280 ∷ clock_is 0 ∷ tag_is 0 161280 ∷ tag_is 1 161280 ∷ [])) refl
    -- a pick adds 112 × 720 to clock and link time; the reply's length is the packet's own bytes
    ∷ shown (row (run start (opened_with 12 ++ one_each)) (picks 2)
    (packet 0 100 7 161280 false 80640 ∷ packet 1 100 8 161280 false 161280 ∷ [])
    (clock_is 161280 ∷ link_is 161280 ∷ [])) refl
    -- Idle keeps the header and Δ
    ∷ shown (row (run start (opened_with 12 ++ one_each ++ picks 2)) (picks 1) (idle ∷ [])
    (header_is 12 ∷ width_is 161280 ∷ clock_is 0 ∷ link_is 0 ∷ tag_is 0 0 ∷ [])) refl
    -- the packet behind is charged its header too: 62 × 1,440, then 112 × 1,440 more
    ∷ shown (row (run start (opened_with 12)) (arrival 0 50 7 ∷ arrival 0 100 7 ∷ picks 1)
    (done [] ∷ done [] ∷ packet 0 50 7 89280 false 44640 ∷ []) (tag_is 0 250560 ∷ [])) refl
    -- "the limit on lengths stays": with a header of 64, length 100 is taken and 101 refused with 8
    ∷ shown (row (run start (opened_with 64)) (arrival 0 100 7 ∷ arrival 0 101 8 ∷ []) (done [] ∷ refused 8 0 ∷ []) []) refl
    -- a leap that the header alone makes. Without one the fourth tag, 4 × 80 × 1,440, is equal to clock + 2Δ: no leap
    ∷ shown (row (run start (opened_with 0 ++ four_of80 ++ picks 3)) (picks 1) (packet 0 80 7 460800 false 230400 ∷ [])
    (leap_is 172800 460800 172800 ∷ clock_is 230400 ∷ link_is 230400 ∷ [])) refl
    -- with a header of 1 it is 4 × 81 × 1,440, above 174,960 + 2 × 101 × 1,440: leap to 320,400, clock then 378,720
    ∷ shown (row (run start (opened_with 1 ++ four_of80 ++ picks 3)) (picks 1) (packet 0 80 7 466560 true 378720 ∷ [])
    (leap_is 174960 466560 320400 ∷ clock_is 378720 ∷ link_is 233280 ∷ [])) refl
    ∷ []

pub header_rows_hold : all_hold (rows_of header_rows) ≡ true
header_rows_hold = all_hold_lem header_rows
