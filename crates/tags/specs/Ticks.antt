-- Link time, server time and tags, and the steps that arrivals and picks make on them: document 01, "Shares, cost and
-- the two clocks" and "The three calls".
-- `src/steps.rt` cites it, and the rules of the calls are put together from it.
-- Assumes nothing.
use Rattle.std.specs.Prelude.{ℕ, ◌+◌, ◌*◌, max, Bool, cond, nat_lt}
use Rattle.cost.specs.Charge.{charge_ticks}
use Rattle.tags.specs.declared.ServerTicks.{ServerTicks}
use Rattle.tags.specs.declared.steps.Leapt.{Leapt}

abbrev pub ticks : ℕ → ServerTicks
ticks n = record { 0 = n }

-- "If T is greater than clock + 2Δ"
abbrev pub leaps : ℕ → ℕ → ℕ → Bool
leaps clock width T = nat_lt (clock + 2 * width) T

-- "add Δ to the clock, once"
abbrev pub leap_clock : ℕ → ℕ → ℕ → ℕ
leap_clock clock width T = cond (leaps clock width T) (clock + width) clock

unfoldable pub leap_rule : ServerTicks → ℕ → ServerTicks → Leapt
leap_rule clock width T =
    record { leapt = leaps clock.0 width T.0; clock = ticks (leap_clock clock.0 width T.0) }

-- "the larger of tag and clock, plus n × cost (000, equation 3)", n being the packet's charge (02 a)
abbrev pub front_tag : ℕ → ℕ → ℕ → ℕ → ℕ
front_tag tag clock cost charge = max tag clock + charge_ticks cost charge
