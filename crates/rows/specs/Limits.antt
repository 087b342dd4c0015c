-- The numbers of documents 01 and 02 on both sides: each bullet of the form, each refusal, and the order of refusals. The
-- numbers are the documents' own, written out, so that a limit cannot be moved by a definition and the code together.
-- Assumes nothing.
use Rattle.std.specs.Prelude.{true, false, List, [], ◌∷◌, ◌++◌, ℕ, suc, ◌+◌, ◌-◌, ◌^◌, length, replicate}
use Rattle.reply.specs.Reply.{Reply, idle, done, refused, packet}
use Rattle.queues.specs.Queue.{queue_of}
use Rattle.uplink.specs.declared.Record.{Record}
use Rattle.uplink.specs.Flow.{Flow, flow_of}
use Rattle.uplink.specs.Record.{blank, put, turned, record_of}
use Rattle.reply.specs.State.{state}
use Rattle.uplink.specs.State.{State}
use Rattle.uplink.specs.Calls.{Call, opening, arrival, pick}
use Rattle.rows.specs.Examples.{pair}
use Rattle.rows.specs.Row.{record_is_blank, record_stays, memories_stay, memories_are_blank, clock_is, width_is, header_is}
use Rattle.rows.specs.Row.{Row, row}

-- a flow: share, largest packet, first place, number waiting, tag
abbrev flow : ℕ → ℕ → ℕ → ℕ → ℕ → Flow
flow share largest first waiting tag = flow_of tag (queue_of share largest first waiting)

-- these flows, from number f on
abbrev put_from : Record → ℕ → List Flow → Record
put_from r f [] = r
put_from r f (w ∷ ws) = put_from (put r f w) (suc f) ws

-- a record: number of flows, header, Δ, clock, link time, and its flows from number 0 on
abbrev headed : ℕ → ℕ → ℕ → ℕ → ℕ → List Flow → Record
headed flows header width clock link =
    let zeros : List ℕ = replicate 64 0 in
    put_from (record_of flows header width clock link zeros zeros zeros zeros zeros 0) 0

-- the same without a header
abbrev holding : ℕ → ℕ → ℕ → ℕ → List Flow → Record
holding flows = headed flows 0

-- a memory of 4,096 places that begins so
abbrev memory : List ℕ → List ℕ
memory places = places ++ replicate (4096 - length places) 0

-- the record, and packets of these lengths from place 0 on, each with handle 7
abbrev given : List ℕ → Record → State
given lengths r = state r (memory lengths) (memory (replicate (length lengths) 7))

-- one flow of share 500 and largest packet 100, cost 1,440, Δ 144,000: at this clock, link time 0
abbrev at : ℕ → ℕ → ℕ → ℕ → Record
at clock first waiting tag = holding 1 144000 clock 0 (flow 500 100 first waiting tag ∷ [])

-- nothing waits in a record of these flows, and the clocks are 0
abbrev table : ℕ → ℕ → List Flow → State
table flows width ws = given [] (holding flows width 0 0 ws)

-- a flow of this share and largest packet, with nothing waiting
abbrev books : ℕ → ℕ → Flow
books share largest = flow share largest 0 0 0

-- a flow of share 500 and largest packet 100, cost 1,440, with this header and Δ
abbrev heading : ℕ → ℕ → State
heading header width = given [] (headed 1 header width 0 0 (books 500 100 ∷ []))

-- a pick on this state gives this reply: the record is inside the form
abbrev inside : State → Reply → Row
inside s reply = row s (pick ∷ []) (reply ∷ []) []

-- a pick and an arrival on this state are refused with 2: the record is outside the form
abbrev outside : State → Row
outside s = row s (pick ∷ arrival 0 1 7 ∷ []) (refused 2 0 ∷ refused 2 0 ∷ []) []

-- a call on this state is refused with this number: "A refusal returns the record as given .. and changes no place of
-- either memory"
abbrev refuses : State → Call → ℕ → Row
refuses s call number = row s (call ∷ []) (refused number 0 ∷ []) (record_stays ∷ memories_stay ∷ [])

-- an arrival on this state is taken
abbrev takes : State → Call → Row
takes s call = row s (call ∷ []) (done [] ∷ []) []

-- a packet waits, and the record is not blank: what an opening finds
abbrev used : State
used = given (100 ∷ []) (at 0 0 1 144000)

-- an opening with a header gives a record of this Δ, and "sets all 4,096 places of both memories to 0"
abbrev opens_with : ℕ → List ℕ → List ℕ → ℕ → Row
opens_with header shares largest width =
    row used (opening shares largest header ∷ []) (done [] ∷ [])
    (header_is header ∷ width_is width ∷ memories_are_blank ∷ [])

-- an opening with a header is refused with this number and flow: "(opening: the blank record)"
abbrev refuses_with : ℕ → List ℕ → List ℕ → ℕ → ℕ → Row
refuses_with header shares largest number flow =
    row used (opening shares largest header ∷ []) (refused number flow ∷ []) (record_is_blank ∷ memories_stay ∷ [])

-- the same without a header
abbrev opens : List ℕ → List ℕ → ℕ → Row
opens = opens_with 0

abbrev refuses_opening : List ℕ → List ℕ → ℕ → ℕ → Row
refuses_opening = refuses_with 0

-- these many places of lengths and of handles, with a record
abbrev lending : ℕ → ℕ → Record → State
lending lengths handles r = state r (replicate lengths 0) (replicate handles 0)

-- a list of one
abbrev only : ℕ → List ℕ
only a = a ∷ []

-- 64 packets of 100 bytes wait
abbrev full : State
full = given (replicate 64 100) (at 0 0 64 144000)

-- each bullet of the form in 01's order, then each refusal and what comes before it
unfoldable pub limits : List Row
limits =
    -- "1 to 64 flows": 1, 64, 0, 65. A flow of share 15 has cost 48,000.
    inside (table 1 144000 (books 500 100 ∷ [])) idle
    ∷ inside (table 64 4800000 (replicate 64 (books 15 100))) idle
    ∷ outside (table 0 0 [])
    ∷ outside (table 65 4800000 (replicate 64 (books 15 100)))
    -- "shares 1 to 1,000": 1, 1,000, 0, 1,001
    ∷ inside (table 1 72000000 (books 1 100 ∷ [])) idle
    ∷ inside (table 1 72000 (books 1000 100 ∷ [])) idle
    ∷ outside (table 1 0 (books 0 100 ∷ []))
    ∷ outside (table 1 0 (books 1001 100 ∷ []))
    -- "with sum at most 1,000": 1,000 and 1,001. The costs of 400 and 401 are 1,800 and 1,796.
    ∷ inside (table 2 180000 (books 600 100 ∷ books 400 100 ∷ [])) idle
    ∷ outside (table 2 179600 (books 600 100 ∷ books 401 100 ∷ []))
    -- "largest packets 1 to 1,500": 1, 1,500, 0, 1,501
    ∷ inside (table 1 1440 (books 500 1 ∷ [])) idle
    ∷ inside (table 1 2160000 (books 500 1500 ∷ [])) idle
    ∷ outside (table 1 0 (books 500 0 ∷ []))
    ∷ outside (table 1 2161440 (books 500 1501 ∷ []))
    -- "Δ as above": right, and one off either way
    ∷ inside (table 2 144000 (books 500 100 ∷ books 500 99 ∷ [])) idle
    ∷ outside (table 2 143999 (books 500 100 ∷ books 500 99 ∷ []))
    ∷ outside (table 2 144001 (books 500 100 ∷ books 500 99 ∷ []))
    -- 02 a): a header's "stated range as part of the form", 0 to 64: 64, 65 and the largest that its field holds, each
    -- with the Δ that it would make: (100 + header) × 1,440
    ∷ inside (heading 64 236160) idle
    ∷ outside (heading 65 237600)
    ∷ outside (heading 65535 94514400)
    -- Δ uses the charge: with a header of 12 it is 112 × 1,440, and not 100 × 1,440
    ∷ inside (heading 12 161280) idle
    ∷ outside (heading 12 144000)
    -- "first .. in range": 63 and 64
    ∷ inside (given [] (at 0 63 0 0)) idle
    ∷ outside (given [] (at 0 64 0 0))
    -- "number waiting in range": 64 and 65
    ∷ inside full (packet 0 100 7 144000 false 72000)
    ∷ outside (given (replicate 64 100) (at 0 0 65 144000))
    -- "every waiting length from 1 to the flow's largest": 0, 1, largest, one more
    ∷ outside (given (0 ∷ []) (at 0 0 1 144000))
    ∷ inside (given (1 ∷ []) (at 0 0 1 144000)) (packet 0 1 7 144000 false 720)
    ∷ inside (given (100 ∷ []) (at 0 0 1 144000)) (packet 0 100 7 144000 false 72000)
    ∷ outside (given (101 ∷ []) (at 0 0 1 144000))
    -- the k-th packet "is at 64 × f + ((first + k) mod 64)": from place 63 to place 0, and no other place is looked at
    ∷ inside (given (50 ∷ replicate 62 101 ++ 100 ∷ 101 ∷ []) (at 0 63 2 144000))
    (packet 0 100 7 144000 false 72000)
    ∷ outside (given (101 ∷ replicate 62 101 ++ 100 ∷ 101 ∷ []) (at 0 63 2 144000))
    -- "a waiting flow's tag is at least the clock and at most clock + 3Δ": clock − 1, clock, clock + 3Δ, one more
    ∷ outside (given (100 ∷ []) (at 1000000 0 1 999999))
    ∷ inside (given (100 ∷ []) (at 1000000 0 1 1000000)) (packet 0 100 7 1000000 false 1072000)
    ∷ inside (given (100 ∷ []) (at 1000000 0 1 1432000)) (packet 0 100 7 1432000 true 1216000)
    ∷ outside (given (100 ∷ []) (at 1000000 0 1 1432001))
    -- "any other flow's tag is at most clock + 2Δ": clock + 2Δ and one more, and below the clock
    ∷ inside (given [] (at 1000000 0 0 1288000)) idle
    ∷ outside (given [] (at 1000000 0 0 1288001))
    ∷ inside (given [] (at 1000000 0 0 0)) idle
    -- "link time is at most the clock": at the clock and one more
    ∷ inside (given [] (holding 1 144000 1000000 1000000 (books 500 100 ∷ []))) idle
    ∷ outside (given [] (holding 1 144000 1000000 1000001 (books 500 100 ∷ [])))
    -- 02 a): "the record's clock limit 2^62 + 1,127,206,080": one below its end and at it
    ∷ inside (given [] (at (2 ^ 62 + 1127206079) 0 0 0)) idle
    ∷ outside (given [] (at (2 ^ 62 + 1127206080) 0 0 0))
    -- and the largest leap and the largest charge, 1,564 × 720, take a clock of 2^62 − 1 to one below its end
    ∷ inside (given (1500 ∷ []) (headed 1 64 1126080000 (2 ^ 62 - 1) 0 (flow 1 1500 0 1 (2 ^ 62 + 3000000000)
    ∷ []))) (packet 0 1500 7 (2 ^ 62 + 3000000000) true (2 ^ 62 + 1127206079))
    -- "all fields of flows beyond the number of flows are 0": each of them 1, in the flow past the last and in flow 63
    ∷ outside (table 1 144000 (books 500 100 ∷ flow 1 0 0 0 0 ∷ []))
    ∷ outside (table 1 144000 (books 500 100 ∷ flow 0 1 0 0 0 ∷ []))
    ∷ outside (table 1 144000 (books 500 100 ∷ flow 0 0 1 0 0 ∷ []))
    ∷ outside (table 1 144000 (books 500 100 ∷ flow 0 0 0 1 0 ∷ []))
    ∷ outside (table 1 144000 (books 500 100 ∷ flow 0 0 0 0 1 ∷ []))
    ∷ outside (table 63 4800000 (replicate 63 (books 15 100) ++ flow 1 0 0 0 0 ∷ []))
    ∷ outside (table 63 4800000 (replicate 63 (books 15 100) ++ flow 0 0 0 0 1 ∷ []))
    -- 02 e): "the turn, 0 to 63": 63, which is past the one flow, 64 and the largest word
    ∷ inside (given [] (turned (at 0 0 0 0) 63)) idle
    ∷ outside (given [] (turned (at 0 0 0 0) 64))
    ∷ outside (given [] (turned (at 0 0 0 0) (2 ^ 64 - 1)))
    -- 1: "a lent memory has not exactly 4,096 places", before 2: on the blank record
    ∷ refuses (lending 4095 4096 blank) pick 1
    ∷ refuses (lending 4097 4096 blank) (arrival 0 1 7) 1
    ∷ refuses (lending 4096 4095 blank) (arrival 0 1 7) 1
    ∷ refuses (lending 4096 4097 blank) pick 1
    ∷ refuses (lending 4096 4096 blank) pick 2
    -- 1 before 3: no lists
    ∷ row (lending 4095 4096 blank) (opening [] [] 0 ∷ []) (refused 1 0 ∷ []) (record_is_blank ∷ memories_stay ∷ [])
    -- 3: "the two lists differ in length, or have 0 or over 64 entries"
    ∷ opens (only 500) (only 100) 144000
    ∷ opens (replicate 64 15) (replicate 64 100) 4800000
    ∷ refuses_opening [] [] 3 0
    ∷ refuses_opening (replicate 65 15) (replicate 65 100) 3 0
    ∷ refuses_opening (pair 500 500) (only 100) 3 0
    -- 02 a): "3 also when the header is over 64": 64, 65 and the largest of 32 bits; the others here open with 0
    ∷ opens_with 64 (only 500) (only 100) 236160
    ∷ refuses_with 65 (only 500) (only 100) 3 0
    ∷ refuses_with 4294967295 (only 500) (only 100) 3 0
    -- "Δ is then at most 1,126,080,000"
    ∷ opens_with 64 (only 1) (only 1500) 1126080000
    -- at 3's place: 1 before it and 4 behind it
    ∷ row (lending 4095 4096 blank) (opening (only 500) (only 100) 65 ∷ []) (refused 1 0 ∷ [])
    (record_is_blank ∷ memories_stay ∷ [])
    ∷ refuses_with 65 (only 0) (only 100) 3 0
    -- 3 before 4: the lists differ, and a share is 0
    ∷ refuses_opening (only 0) (pair 100 100) 3 0
    -- 4: "a share is outside 1 to 1,000"; it comes with the flow's number
    ∷ opens (only 1) (only 100) 72000000
    ∷ opens (only 1000) (only 100) 72000
    ∷ refuses_opening (pair 500 0) (pair 100 100) 4 1
    ∷ refuses_opening (only 1001) (only 100) 4 0
    -- 5: "a largest packet is outside 1 to 1,500"; it comes with the flow's number
    ∷ opens (only 500) (only 1) 1440
    ∷ opens (only 500) (only 1500) 2160000
    ∷ refuses_opening (pair 500 500) (pair 100 0) 5 1
    ∷ refuses_opening (only 500) (only 1501) 5 0
    -- "flow by flow from 0, 4 before 5": both at one flow, and 5 at flow 0 with 4 at flow 1
    ∷ refuses_opening (only 0) (only 0) 4 0
    ∷ refuses_opening (pair 500 0) (pair 0 100) 5 0
    -- 6: "the shares sum to more than 1,000"; 5 before 6
    ∷ opens (pair 600 400) (pair 100 100) 180000
    ∷ refuses_opening (pair 600 401) (pair 100 100) 6 0
    ∷ refuses_opening (pair 600 401) (pair 100 0) 5 1
    -- 2 before 7: on the blank record
    ∷ refuses (lending 4096 4096 blank) (arrival 64 1 7) 2
    -- 7: "the flow number is not below the number of flows"; 7 before 8: and the length is 0
    ∷ takes used (arrival 0 100 7)
    ∷ refuses used (arrival 1 100 7) 7
    ∷ refuses used (arrival 4294967295 0 7) 7
    -- 8: "the length is 0 or over the flow's largest"
    ∷ takes used (arrival 0 1 7)
    ∷ refuses used (arrival 0 0 7) 8
    ∷ refuses used (arrival 0 101 7) 8
    -- 9: "64 packets already wait in that flow"; 8 before 9: and the length is 0
    ∷ takes (given (replicate 63 100) (at 0 0 63 144000)) (arrival 0 100 7)
    ∷ refuses full (arrival 0 100 7) 9
    ∷ refuses full (arrival 0 0 7) 8
    -- 10: "something waits and the clock is 2^62 or more": 2^62 − 1 and 2^62
    ∷ inside (given (100 ∷ []) (at (2 ^ 62 - 1) 0 1 (2 ^ 62))) (packet 0 100 7 (2 ^ 62) false (2 ^ 62 + 71999))
    ∷ refuses (given (100 ∷ []) (at (2 ^ 62) 0 1 (2 ^ 62))) pick 10
    -- Idle before 10: nothing waits at 2^62 − 1 and at 2^62
    ∷ row (given [] (at (2 ^ 62 - 1) 0 0 0)) (pick ∷ []) (idle ∷ []) (clock_is 0 ∷ [])
    ∷ row (given [] (at (2 ^ 62) 0 0 0)) (pick ∷ []) (idle ∷ []) (clock_is 0 ∷ [])
    -- and an arrival knows no 10
    ∷ takes (given [] (at (2 ^ 62) 0 0 0)) (arrival 0 100 7)
    ∷ []
