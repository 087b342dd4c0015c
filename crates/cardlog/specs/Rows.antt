-- Worked input: document 01's examples as a card has them, and how many blocks some numbers of entries take.
-- Assumes nothing.
use Rattle.std.specs.Prelude.{◌≡◌, refl, List, [], ◌∷◌, ◌++◌, ℕ, length, replicate}
use Rattle.below.specs.Listed.{listed}
use Rattle.uplink.specs.Calls.{Call, opening, arrival, pick, start, every_rule}
use Rattle.entries.specs.Entry.{entry}
use Rattle.entries.specs.declared.Entry.{Entry}
use Rattle.card.specs.declared.Block.{Block}
use Rattle.cardlog.specs.Logged.{idle_entry, entries_of}
use Rattle.cardlog.specs.Log.{content_of, log_of, logs_of}

-- "Two flows, q = 500, largest 100"
abbrev pub two_flows : Call
two_flows = opening (500 ∷ 500 ∷ []) (100 ∷ 100 ∷ []) 0

-- document 01's script: one packet at each flow, three picks, and an arrival that is refused with 7
abbrev pub example_script : List Call
example_script = two_flows ∷ arrival 0 100 7 ∷ arrival 1 100 8 ∷ pick ∷ pick ∷ pick ∷ arrival 2 1 9 ∷ []

-- P1 to P4: two arrivals at clock 0, two picks without a leap, and an Idle; the refused arrival is not logged
abbrev pub example_entries : List Entry
example_entries =
    entry 1 0 100 7 0
    ∷ entry 1 1 100 8 0
    ∷ entry 2 0 100 7 72000
    ∷ entry 2 1 100 8 144000
    ∷ idle_entry
    ∷ []

pub example_logged : entries_of start example_script ≡ example_entries
unfolding every_rule
example_logged = refl

-- P5 and P6: four packets at flow 0 alone, and the fourth pick leaps
abbrev pub leap_script : List Call
leap_script = two_flows ∷ (replicate 4 (arrival 0 100 7) ++ replicate 4 pick)

abbrev pub leap_entries : List Entry
leap_entries =
    replicate 4 (entry 1 0 100 7 0)
    ++ (entry 2 0 100 7 72000 ∷ entry 2 0 100 7 144000 ∷ entry 2 0 100 7 216000 ∷ entry 3 0 100 7 432000 ∷ [])

pub leap_logged : entries_of start leap_script ≡ leap_entries
unfolding every_rule
leap_logged = refl

-- two openings that are done, one that is refused: no log before the first, then two, each from block 0 on
abbrev pub three_openings : List Call
three_openings =
    arrival 0 100 1 ∷ two_flows ∷ arrival 0 100 7 ∷ pick ∷ two_flows ∷ arrival 1 100 8 ∷ opening [] [] 0 ∷ pick ∷ []

pub openings_logged : logs_of start three_openings
    ≡ []
    ∷ (content_of 0 (entry 1 0 100 7 0 ∷ entry 2 0 100 7 72000 ∷ []) ∷ [])
    ∷ (content_of 0 (entry 1 1 100 8 0 ∷ []) ∷ [])
    ∷ []
unfolding every_rule
openings_logged = refl

-- as many blocks as n entries take
abbrev blocks_of : ℕ → ℕ
blocks_of n = length (log_of (replicate n idle_entry))

abbrev numbers_of : List Block → List ℕ
numbers_of [] = []
numbers_of (b ∷ blocks) = b.number ∷ numbers_of blocks

abbrev counts_of : List Block → List ℕ
counts_of [] = []
counts_of (b ∷ blocks) = b.count ∷ counts_of blocks

pub blocks_taken : blocks_of 0 ∷ blocks_of 1 ∷ blocks_of 31 ∷ blocks_of 32 ∷ blocks_of 62 ∷ blocks_of 63 ∷ []
    ≡ 0 ∷ 1 ∷ 1 ∷ 2 ∷ 2 ∷ 3 ∷ []
unfolding listed
blocks_taken = refl

-- numbered from 0, each of 31 entries but the last
pub sixty_three : (numbers_of (log_of (replicate 63 idle_entry)) ≡ 0 ∷ 1 ∷ 2 ∷ [])
    × (counts_of (log_of (replicate 63 idle_entry)) ≡ 31 ∷ 31 ∷ 1 ∷ [])
unfolding listed
sixty_three = (refl, refl)
