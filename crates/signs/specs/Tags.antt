-- Tags with a sign: the tag's side of the plain engine, which leaps backward. Document 02 c); document 01, "Idle tags
-- may fall below zero". `src/` cites it, and the plain engine's rules are put together from it.
-- Assumes nothing.
use Rattle.std.specs.Prelude.{cond, ℕ, suc, ◌+◌, ◌-◌, ltb, ℤ, pos, negsuc, ◌-ℤ◌}
use Rattle.tags.specs.Ticks as forward
use Rattle.tags.specs.Choice.{no_tag}

-- What a tag at or under zero means. A tag falls that low only while its flow has nothing waiting: a waiting flow's tag
-- is at least the clock. Of a flow with nothing waiting nothing is used but the larger of its tag and the clock, and
-- the clock is never below zero. So a tag at or under zero, however far under, says "this flow starts at the clock", as
-- any tag at or below the clock does, and it counts as zero.
abbrev pub natural : ℤ → ℕ
natural (pos a) = a
natural (negsuc a) = 0

-- "the larger of tag and clock, plus n × cost": never below zero
abbrev pub front_tag : ℤ → ℕ → ℕ → ℕ → ℤ
front_tag tag clock cost charge = pos (forward.front_tag (natural tag) clock cost charge)

-- "every tag goes down by Δ"
abbrev pub lowered : ℕ → ℤ → ℤ
lowered width tag = tag -ℤ pos width

-- the tag with the sum of the widths leapt added: "with that added to clock and tags, its record is judged by 01's
-- form". A tag that is below zero even so is none of 01's, and what is above every tag stands for it, which no form
-- takes
abbrev pub raised : ℕ → ℤ → ℕ
raised sum (pos a) = a + sum
raised sum (negsuc a) = cond (ltb a sum) (sum - suc a) no_tag
