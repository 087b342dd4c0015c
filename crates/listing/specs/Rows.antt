-- Worked lines: an arrival, a pick, a leap, an Idle, a block of two entries and a refused block, computed.
-- Assumes nothing.
use Rattle.std.specs.Prelude.{◌≡◌, refl, List, [], ◌∷◌, ◌++◌, ℕ, Result, Ok, Err, replicate}
use Rattle.std.proofs.Common.{ap, ◌∙◌, arith}
use Rattle.lines.proofs.Digits.{decimal_more}
use Rattle.lines.specs.Number.{digits_of, decimal}
use Rattle.lines.specs.Output.{field_texts}
use Rattle.entries.specs.Entry.{no_entry}
use Rattle.entries.specs.Legal.{kind_of}
use Rattle.entries.specs.declared.Entry.{Entry}
use Rattle.card.specs.declared.Block.{Block}
use Rattle.card.specs.declared.Refusal.{Refusal}
use Rattle.card.specs.declared.Refusal.TheVariants.{Sums}
use Rattle.card.specs.Card.{accepted, refused}
use Rattle.listing.specs.Listing.{entry_line, entries_lines, block_lines, reading_lines}

-- 100 bytes with handle 7 come to flow 0, clock 0
abbrev arrival : Entry
arrival = record { kind = 1; flow = 0; length = 100; handle = 7; clock = 0 }

-- "first pick from P1 is flow 0, clock 72,000"
abbrev pick : Entry
pick = record { kind = 2; flow = 0; length = 100; handle = 7; clock = 72000 }

-- "leap to 360,000, clock then 432,000"
abbrev leap : Entry
leap = record { kind = 3; flow = 0; length = 100; handle = 12; clock = 432000 }

-- "Idle has zeros in all these."
abbrev idle : Entry
idle = record { kind = 4; flow = 0; length = 0; handle = 0; clock = 0 }

-- 0 1 arrival 0 100 7 0
abbrev pub arrival_text : List ℕ
arrival_text =
    48 ∷ 32 ∷ 49 ∷ 32 ∷ 97 ∷ 114 ∷ 114 ∷ 105 ∷ 118 ∷ 97 ∷ 108 ∷ 32 ∷ 48 ∷ 32 ∷ 49 ∷ 48 ∷ 48 ∷ 32 ∷ 55 ∷ 32 ∷ 48 ∷
    10 ∷ []

pub arrival_row : entry_line 0 1 arrival ≡ arrival_text
unfolding kind_of decimal digits_of field_texts
arrival_row = refl

-- 0 2 pick 0 100 7 72000
abbrev pub pick_text : List ℕ
pick_text =
    48 ∷ 32 ∷ 50 ∷ 32 ∷ 112 ∷ 105 ∷ 99 ∷ 107 ∷ 32 ∷ 48 ∷ 32 ∷ 49 ∷ 48 ∷ 48 ∷ 32 ∷ 55 ∷ 32 ∷ 55 ∷ 50 ∷ 48 ∷ 48 ∷ 48 ∷
    10 ∷ []

pub pick_row : entry_line 0 2 pick ≡ pick_text
unfolding kind_of decimal digits_of field_texts
pick_row = refl

clock_tens : decimal 43200 ≡ 52 ∷ 51 ∷ 50 ∷ 48 ∷ 48 ∷ []
unfolding decimal digits_of
clock_tens = refl

-- 432,000 in digits: those of a tenth of it, and a zero
clock_digits : decimal 432000 ≡ 52 ∷ 51 ∷ 50 ∷ 48 ∷ 48 ∷ 48 ∷ []
clock_digits = decimal_more 432000 (omega arith) ∙ ap (λ (ds : List ℕ). ds ++ 48 ∷ []) clock_tens

-- a leap's line by the digits of its clock
leap_at : (clock : ℕ) → entry_line 10 31 (record { kind = 3; flow = 0; length = 100; handle = 12; clock = clock })
    ≡ 49 ∷ 48 ∷ 32 ∷ 51 ∷ 49 ∷ 32 ∷ 108 ∷ 101 ∷ 97 ∷ 112 ∷ 32 ∷ 48 ∷ 32 ∷ 49 ∷ 48 ∷ 48 ∷ 32 ∷ 49 ∷ 50 ∷
    32 ∷ (decimal clock ++ []) ++ 10 ∷ []
unfolding kind_of decimal digits_of field_texts
leap_at clock = refl

-- 10 31 leap 0 100 12 432000
pub leap_row : entry_line 10 31 leap
    ≡ 49 ∷ 48 ∷ 32 ∷ 51 ∷ 49 ∷ 32 ∷ 108 ∷ 101 ∷ 97 ∷ 112 ∷ 32 ∷ 48 ∷ 32 ∷ 49 ∷ 48 ∷ 48 ∷ 32 ∷ 49 ∷ 50 ∷
    32 ∷ 52 ∷ 51 ∷ 50 ∷ 48 ∷ 48 ∷ 48 ∷ 10 ∷ []
leap_row = leap_at 432000 ∙ ap (λ (ds : List ℕ). 49 ∷ 48 ∷ 32 ∷ 51 ∷ 49 ∷ 32 ∷ 108 ∷ 101 ∷ 97 ∷ 112 ∷ 32 ∷ 48 ∷ 32 ∷ 49 ∷
    48 ∷ 48 ∷ 32 ∷ 49 ∷ 50 ∷ 32 ∷ (ds ++ []) ++ 10 ∷ []) clock_digits

-- 0 3 idle 0 0 0 0
pub idle_row : entry_line 0 3 idle
    ≡ 48 ∷ 32 ∷ 51 ∷ 32 ∷ 105 ∷ 100 ∷ 108 ∷ 101 ∷ 32 ∷ 48 ∷ 32 ∷ 48 ∷ 32 ∷ 48 ∷ 32 ∷ 48 ∷ 10 ∷ []
unfolding kind_of decimal digits_of field_texts
idle_row = refl

-- a block of these two entries
abbrev two_entries : Block
two_entries = record { number = 0; count = 2; entries = arrival ∷ pick ∷ replicate 29 no_entry }

abbrev two : Result Block Refusal
two = accepted two_entries

pub block_row : block_lines 0 (Ok two_entries) ≡ arrival_text ++ pick_text
unfolding block_lines entries_lines kind_of decimal digits_of field_texts
block_row = refl

-- the same as a reader found it
pub reading_row : reading_lines 0 two ≡ arrival_text ++ pick_text
unfolding reading_lines block_lines entries_lines kind_of decimal digits_of field_texts
reading_row = refl

-- 3 refused 11
abbrev pub refused_text : List ℕ
refused_text = 51 ∷ 32 ∷ 114 ∷ 101 ∷ 102 ∷ 117 ∷ 115 ∷ 101 ∷ 100 ∷ 32 ∷ 49 ∷ 49 ∷ 10 ∷ []

pub refused_row : block_lines 3 (Err 11) ≡ refused_text
unfolding block_lines decimal digits_of field_texts
refused_row = refl

pub refused_reading_row : reading_lines 3 (refused Sums) ≡ refused_text
unfolding reading_lines block_lines decimal digits_of field_texts
refused_reading_row = refl
