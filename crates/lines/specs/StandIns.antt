-- Wrong readings of a line and a wrong run, each made of the rule itself, and a named input where it leaves the rule.
-- Assumes nothing.
use Rattle.std.specs.Prelude.{◌≡◌, refl, cond, List, [], ◌∷◌, map, ℕ, Option, None, Some, max, ltb, length, replicate}
use Rattle.below.specs.Truth.{apart}
use Rattle.uplink.specs.Calls.{start}
use Rattle.lines.specs.declared.Line.{Line}
use Rattle.lines.specs.Text.{parts_of}
use Rattle.lines.specs.Number.{all_digits, value_from, number_of}
use Rattle.lines.specs.Line.{line_of}
use Rattle.lines.specs.Step.{ScriptState, Made, bad_step, row_step, step_by}
use Rattle.lines.specs.Whole.{Ended, ended, no_empty_rest, lines_by, run_from}

-- 0 where a line is bad
abbrev said : Option Line → ℕ
said (Some (Line.Row share largest)) = 1
said (Some Line.Opening) = 2
said (Some (Line.Arrival flow length handle)) = 3
said (Some Line.Pick) = 4
said None = 0

-- "Fields are parted by one space": by any byte up to the space, and so by a tab
abbrev pub parts_at_tabs : List ℕ → Option Line
parts_at_tabs line = line_of (map (max 32) line)

-- f, a tab, 1, a space, 2
pub parts_at_tabs_differs : parts_at_tabs (102 ∷ 9 ∷ 49 ∷ 32 ∷ 50 ∷ []) ≡ line_of (102 ∷ 9 ∷ 49 ∷ 32 ∷ 50 ∷ []) → ⊥
unfolding line_of parts_of number_of all_digits value_from
parts_at_tabs_differs = apart said _ _ refl

-- "an `f` line after the 65th, writes `bad`": the 65th does
abbrev pub refuses65 : ScriptState → ℕ → ℕ → Made
refuses65 s share largest = cond (ltb (length s.shares) 64) (row_step s share largest) (bad_step s)

-- 64 rows are taken
abbrev rows64 : ScriptState
rows64 = record { shares = replicate 64 1; largest = replicate 64 1; held = start }

pub refuses_65_differs : refuses65 rows64 1 1 ≡ row_step rows64 1 1 → ⊥
unfolding row_step
refuses_65_differs = apart (λ m. length m.output) _ _ refl

-- a run that wants room for two lines, and so leaves a line that there is room for
abbrev pub wants_more_room : ℕ → ScriptState → List ℕ → ℕ → Ended
wants_more_room room s input from = cond (ltb room 320) (ended s from []) (run_from room s input from)

-- the line x, with room for one line
pub wants_more_room_differs : wants_more_room 160 rows64 (120 ∷ []) 0 ≡ run_from 160 rows64 (120 ∷ []) 0 → ⊥
unfolding lines_by no_empty_rest step_by line_of parts_of
wants_more_room_differs = apart (λ e. e.at) _ _ refl
