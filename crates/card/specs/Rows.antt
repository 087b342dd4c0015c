-- Reader and writer at the limits of document 02 d), on both sides, as rows of a single list with a single claim. A row
-- of the reader is any bytes and the number that it gives, 0 where it accepts.
-- Assumes nothing.
use Rattle.std.specs.Prelude.{◌≡◌, refl, Bool, true, cond, ◌&&◌, List, [], ◌∷◌, ◌++◌, ℕ, ◌-◌, ◌*◌, eqb, set, take, replicate}
use Rattle.below.specs.Below.{all_below}
use Rattle.below.specs.Listed.{listed}
use Rattle.below.specs.Joined.{joined}
use Rattle.fields.specs.Bytes.{bytes_of, number_of, part}
use Rattle.sums.specs.Sums.{total, running, sums_of, sums_right}
use Rattle.entries.specs.Entry.{entry, entry_bytes, entry_of, no_entry}
use Rattle.entries.specs.Legal.{kind_of, packet_legal, rest_blank, entry_legal, entry_blank}
use Rattle.entries.specs.declared.Entry.{Entry}
use Rattle.card.specs.declared.Block.{Block}
use Rattle.card.specs.Block.{body_bytes, sum_bytes, block_bytes, block_of, entry_may, block_legal}
use Rattle.card.specs.Card.{answer_of, read_rule, write_rule}

-- document 01's example, P1 to P4: two arrivals of 100 bytes, their picks and an Idle
abbrev pub worked : Block
worked =
    record {
      number = 0;
      count = 5;
      entries =
          entry 1 0 100 7 0
          ∷ entry 1 1 100 8 0
          ∷ entry 2 0 100 7 72000
          ∷ entry 2 1 100 8 144000
          ∷ entry 4 0 0 0 0
          ∷ replicate 26 no_entry;
    }

-- bytes 0 to 507 with their right sums behind them
unfoldable pub summed : List ℕ → List ℕ
summed body = body ++ sum_bytes (sums_of body)

-- the worked block with one byte of 0 to 507 changed, and its sums put right again
abbrev pub changed : ℕ → ℕ → List ℕ
changed place byte = summed (set (body_bytes worked) place byte)

-- what the reader answers, beside what it has to answer
abbrev pub row : ℕ → List ℕ → Bool
row number bytes = eqb (answer_of (read_rule bytes)) number

-- every row holds
unfoldable pub all : List Bool → Bool
all [] = true
all (holds ∷ rest) = holds && all rest

unfoldable pub rows : List Bool
rows =
    -- "A block has 512 bytes"
    row 0 (block_bytes worked)
    ∷ row 1 (take 511 (block_bytes worked))
    ∷ row 1 (block_bytes worked ++ (0 ∷ []))
    ∷ row 1 []
    -- "two 16-bit sums in 508 to 511": 717 is 205 + 256 × 2 and 2,482 is 178 + 256 × 9; one less, one more, and 65,535
    -- where the sum is 0
    ∷ row 11 (set (block_bytes worked) 508 204)
    ∷ row 11 (set (block_bytes worked) 510 179)
    ∷ row 12 (replicate 512 0)
    ∷ row 11 (replicate 508 0 ++ (255 ∷ 255 ∷ 0 ∷ 0 ∷ []))
    ∷ row 11 (replicate 508 0 ++ (0 ∷ 0 ∷ 255 ∷ 255 ∷ []))
    -- "entry count 1 to 31 in 4": the worked block has 5, so any other count leaves an entry unused or an unused one
    -- used
    ∷ row 12 (changed 4 0)
    ∷ row 12 (changed 4 4)
    ∷ row 12 (changed 4 6)
    ∷ row 12 (changed 4 32)
    -- "zeros in 5 to 11"
    ∷ row 12 (changed 5 1)
    ∷ row 12 (changed 11 1)
    -- any block number
    ∷ row 0 (changed 0 255)
    ∷ row 0 (changed 3 255)
    -- "1 arrival, 2 pick without leap, 3 pick with leap, 4 Idle": an arrival with another kind
    ∷ row 12 (changed 12 0)
    ∷ row 0 (changed 12 2)
    ∷ row 0 (changed 12 3)
    ∷ row 12 (changed 12 4)
    ∷ row 12 (changed 12 5)
    ∷ row 12 (changed 12 255)
    -- "flow over 63 .. included"
    ∷ row 0 (changed 13 63)
    ∷ row 12 (changed 13 64)
    -- "length 0 or over 1,500 included": 100 is 100 + 256 × 0, and 1,500 is 220 + 256 × 5
    ∷ row 12 (changed 14 0)
    ∷ row 0 (changed 14 1)
    ∷ row 0 (summed (set (set (body_bytes worked) 14 220) 15 5))
    ∷ row 12 (summed (set (set (body_bytes worked) 14 221) 15 5))
    -- any handle and any clock
    ∷ row 0 (changed 19 255)
    ∷ row 0 (changed 27 255)
    -- "Idle has zeros in all these": entry 5 is at 76, its flow at 77, its clock's last byte at 91
    ∷ row 12 (changed 77 1)
    ∷ row 12 (changed 78 1)
    ∷ row 12 (changed 80 1)
    ∷ row 12 (changed 84 1)
    ∷ row 12 (changed 91 1)
    -- "Unused entries are zeros": the first byte of entry 6 and the last of entry 31
    ∷ row 12 (changed 92 1)
    ∷ row 12 (changed 92 4)
    ∷ row 12 (changed 507 1)
    -- "11 wrong sums, then 12": a block with both faults
    ∷ row 11 (set (set (block_bytes worked) 12 5) 508 0)
    ∷ []

-- a block of so many entries, all the same
abbrev pub filled : ℕ → ℕ → Entry → Block
filled number count e =
    record { number = number; count = count; entries = replicate count e ++ replicate (31 - count) no_entry }

-- a block whose bytes 0 to 507 sum to 65,535: 20 entries of 3,261, a count of 20 and a number of 255 + 40
abbrev pub even : Block
even = filled 10495 20 (entry 1 0 200 4294967295 18446744073709551615)

-- the writer's answer and what it leaves of a room that was full of 9
abbrev pub writes : ℕ → Block → ℕ → Bool
writes number b room =
    eqb (write_rule b (replicate room 9)).answer number
    && cond (eqb number 0) (row 0 (write_rule b (replicate room 9)).bytes)
    (eqb (total (write_rule b (replicate room 9)).bytes) (9 * room))

unfoldable pub blocks : List Bool
blocks =
    -- 1 and 31 entries are read, and a sum of 65,535 is stored as 0 and in no other way
    row 0 (block_bytes (filled 4294967295 1 (entry 4 0 0 0 0)))
    ∷ row 0 (block_bytes (filled 0 31 (entry 3 63 1500 1 1)))
    ∷ row 0 (block_bytes even)
    ∷ eqb (number_of (part (block_bytes even) 508 2)) 0
    ∷ row 11 (set (set (block_bytes even) 508 255) 509 255)
    -- the writer: 1 to 31 entries, 512 bytes, and 1 before 12
    ∷ writes 12 (filled 0 0 (entry 4 0 0 0 0)) 512
    ∷ writes 0 (filled 0 1 (entry 4 0 0 0 0)) 512
    ∷ writes 0 (filled 4294967295 31 (entry 1 63 1500 4294967295 18446744073709551615)) 512
    ∷ writes 12 (filled 0 32 (entry 4 0 0 0 0)) 512
    ∷ writes 1 (filled 0 1 (entry 4 0 0 0 0)) 511
    ∷ writes 1 (filled 0 32 (entry 4 0 0 0 0)) 513
    ∷ writes 12 (filled 0 1 (entry 4 0 0 0 1)) 512
    ∷ writes 12 record { number = 0; count = 1; entries = replicate 31 (entry 4 0 0 0 0) } 512
    ∷ []

pub rows_hold : all (rows ++ blocks) ≡ true
unfolding all rows blocks summed read_rule write_rule block_bytes body_bytes joined entry_bytes bytes_of sum_bytes total
    running sums_right number_of block_of listed entry_of block_legal all_below entry_may entry_legal kind_of packet_legal
    rest_blank entry_blank
rows_hold = refl

-- the worked block's sums, and its first 28 bytes: number, count, zeros and the first entry. docs/CARD.md spells it out
pub worked_sums : sums_of (body_bytes worked) ≡ record { first = 717; second = 2482 }
unfolding body_bytes joined entry_bytes bytes_of total running
worked_sums = refl

pub worked_head : take 28 (block_bytes worked)
    ≡ 0 ∷ 0 ∷ 0 ∷ 0 ∷ 5 ∷ 0 ∷ 0 ∷ 0 ∷ 0 ∷ 0 ∷ 0 ∷ 0
    ∷ 1 ∷ 0 ∷ 100 ∷ 0 ∷ 7 ∷ 0 ∷ 0 ∷ 0 ∷ 0 ∷ 0 ∷ 0 ∷ 0 ∷ 0 ∷ 0 ∷ 0 ∷ 0 ∷ []
unfolding block_bytes body_bytes joined entry_bytes bytes_of
worked_head = refl
