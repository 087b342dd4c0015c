-- The whole example of document 01, "The script program", computed by the definitions.
-- Assumes nothing.
use Rattle.std.specs.Prelude.{◌≡◌, refl, List, [], ◌∷◌, ℕ}
use Rattle.uplink.specs.Calls.{every_rule}
use Rattle.lines.specs.Text.{before, parts_of}
use Rattle.lines.specs.Number.{all_digits, value_from, number_of, digits_of, decimal}
use Rattle.lines.specs.Line.{line_of}
use Rattle.lines.specs.Output.{field_texts}
use Rattle.lines.specs.Step.{row_step, opening_by, arrival_by, pick_by, step_by}
use Rattle.lines.specs.Whole.{no_empty_rest, output_by, program_output}

-- "Input lines"
abbrev pub example_input : List ℕ
example_input =
    -- f 500 100
    102 ∷ 32 ∷ 53 ∷ 48 ∷ 48 ∷ 32 ∷ 49 ∷ 48 ∷ 48 ∷ 10 ∷
    -- f 500 100
    102 ∷ 32 ∷ 53 ∷ 48 ∷ 48 ∷ 32 ∷ 49 ∷ 48 ∷ 48 ∷ 10 ∷
    -- o
    111 ∷ 10 ∷
    -- a 0 100 7
    97 ∷ 32 ∷ 48 ∷ 32 ∷ 49 ∷ 48 ∷ 48 ∷ 32 ∷ 55 ∷ 10 ∷
    -- a 1 100 8
    97 ∷ 32 ∷ 49 ∷ 32 ∷ 49 ∷ 48 ∷ 48 ∷ 32 ∷ 56 ∷ 10 ∷
    -- p
    112 ∷ 10 ∷
    -- p
    112 ∷ 10 ∷
    -- p
    112 ∷ 10 ∷
    -- a 2 1 9
    97 ∷ 32 ∷ 50 ∷ 32 ∷ 49 ∷ 32 ∷ 57 ∷ 10 ∷
    []

-- "Whole output"
abbrev pub example_output : List ℕ
example_output =
    -- o 0 0
    111 ∷ 32 ∷ 48 ∷ 32 ∷ 48 ∷ 10 ∷
    -- a 0
    97 ∷ 32 ∷ 48 ∷ 10 ∷
    -- a 0
    97 ∷ 32 ∷ 48 ∷ 10 ∷
    -- p 0 0 100 7 144000 0 72000
    112 ∷ 32 ∷ 48 ∷ 32 ∷ 48 ∷ 32 ∷ 49 ∷ 48 ∷ 48 ∷ 32 ∷ 55 ∷ 32 ∷ 49 ∷ 52 ∷
    52 ∷ 48 ∷ 48 ∷ 48 ∷ 32 ∷ 48 ∷ 32 ∷ 55 ∷ 50 ∷ 48 ∷ 48 ∷ 48 ∷ 10 ∷
    -- p 0 1 100 8 144000 0 144000
    112 ∷ 32 ∷ 48 ∷ 32 ∷ 49 ∷ 32 ∷ 49 ∷ 48 ∷ 48 ∷ 32 ∷ 56 ∷ 32 ∷ 49 ∷ 52 ∷
    52 ∷ 48 ∷ 48 ∷ 48 ∷ 32 ∷ 48 ∷ 32 ∷ 49 ∷ 52 ∷ 52 ∷ 48 ∷ 48 ∷ 48 ∷ 10 ∷
    -- p idle
    112 ∷ 32 ∷ 105 ∷ 100 ∷ 108 ∷ 101 ∷ 10 ∷
    -- a 7
    97 ∷ 32 ∷ 55 ∷ 10 ∷
    []

pub whole_example : program_output example_input ≡ example_output
unfolding every_rule before parts_of all_digits value_from number_of digits_of decimal line_of field_texts
    row_step opening_by arrival_by pick_by step_by no_empty_rest output_by
whole_example = refl
