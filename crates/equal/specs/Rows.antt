-- The plain engine on worked input: document 01's examples in its own figures, and the limits of its form and of
-- refusal 10 on both sides, with sums, clocks and tags of any 64 bits. The numbers are the documents' own, written out.
-- Assumes nothing.
use Rattle.std.specs.Prelude.{◌≡◌, refl, true, false, List, [], ◌∷◌, ◌++◌, ℕ, ◌+◌, ◌-◌, ◌^◌, ℤ, pos, ◌-ℤ◌, replicate}
use Rattle.reply.specs.Reply.{Reply, idle, done, refused, packet}
use Rattle.reply.specs.State.{state}
use Rattle.queues.specs.Queues.{queues_of}
use Rattle.tags.specs.Ticks.{ticks}
use Rattle.uplink.specs.Record.{link_time}
use Rattle.uplink.specs.Calls.{Call, opening, arrival, pick, every_rule}
use Rattle.backward.specs.Record.{signed_tags, tag_of, put, turned, lowered}
use Rattle.backward.specs.State.{State}
use Rattle.backward.specs.Opening.{opening_rule}
use Rattle.backward.specs.Arrival.{store_rule, arrival_rule}
use Rattle.backward.specs.Pick.{served_rule, serve_rule, idle_rule, choose_rule, pick_rule}
use Rattle.backward.specs.Calls.{start}
use Rattle.backward.specs.declared.Record.{Record}
use Rattle.equal.specs.Runs.{Event, run_of, end_of}

-- a theorem that is computed says `unfolding every_step`, which opens every rule that the plain engine's calls are made
-- of
unfoldable pub every_step : Unit {0}
unfolding every_rule put lowered opening_rule store_rule arrival_rule served_rule serve_rule idle_rule choose_rule pick_rule
every_step = tt

-- the replies of a run
abbrev replies_of : List Event → List Reply
replies_of [] = []
replies_of (x ∷ xs) = x.outcome.reply ∷ replies_of xs

-- n below zero
abbrev pub minus : ℕ → ℤ
minus n = pos 0 -ℤ pos n

-- the figures: sum, clock, and the tags of flows 0 and 1
abbrev figures_of : Record → List ℤ
figures_of r = pos r.sum.0 ∷ pos r.clock.0 ∷ tag_of r 0 ∷ tag_of r 1 ∷ []

-- A row: the state that it starts from, its calls, the reply to each, and the figures that they leave; and that it
-- holds.
pub record Row : Type 0 where
  pub given : State
  pub calls : List Call
  pub says : List Reply
  pub leaves : List ℤ
  pub said : replies_of (run_of given calls) ≡ says
  pub left : figures_of (end_of given calls).held ≡ leaves

abbrev row : (given : State) (calls : List Call) (says : List Reply) (leaves : List ℤ)
    → replies_of (run_of given calls) ≡ says → figures_of (end_of given calls).held ≡ leaves → Row
row given calls says leaves said left =
    record { given = given; calls = calls; says = says; leaves = leaves; said = said; left = left }

-- the table of document 01's examples: cost 1,440, Δ 144,000
abbrev pub opened : Call
opened = opening (500 ∷ 500 ∷ []) (100 ∷ 100 ∷ []) 0

-- four packets of 100 at flow 0 alone, and four picks: P5 and P6
abbrev pub four_picked : List Call
four_picked =
    opened ∷ arrival 0 100 1 ∷ arrival 0 100 2 ∷ arrival 0 100 3 ∷ arrival 0 100 4 ∷ pick ∷ pick ∷ pick ∷ pick ∷ []

abbrev four_said : List Reply
four_said =
    done [] ∷ done [] ∷ done [] ∷ done [] ∷ done []
    ∷ packet 0 100 1 144000 false 72000 ∷ packet 0 100 2 288000 false 144000 ∷ packet 0 100 3 432000 false 216000
    ∷ packet 0 100 4 432000 true 288000 ∷ []

-- document 01's examples in the plain engine's own figures
pub examples : List Row
unfolding every_step
examples =
    -- P1 to P3: nothing leaps, and the figures are 01's
    row start (opened ∷ arrival 0 100 7 ∷ arrival 1 100 8 ∷ pick ∷ pick ∷ [])
    (done [] ∷ done [] ∷ done [] ∷ packet 0 100 7 144000 false 72000 ∷ packet 1 100 8 144000 false 144000 ∷ [])
    (pos 0 ∷ pos 144000 ∷ pos 144000 ∷ pos 144000 ∷ []) refl refl
    -- P4: Idle
    ∷ row start (opened ∷ arrival 0 100 7 ∷ pick ∷ pick ∷ [])
    (done [] ∷ done [] ∷ packet 0 100 7 144000 false 72000 ∷ idle ∷ []) (pos 0 ∷ pos 0 ∷ pos 0 ∷ pos 0 ∷ []) refl refl
    -- P5, P6: at the fourth pick 576,000 is above 504,000. The clock stays at 216,000, all tags go down by 144,000,
    -- flow 1's below zero, and the packet takes the clock to 288,000
    ∷ row start four_picked four_said (pos 144000 ∷ pos 288000 ∷ pos 432000 ∷ minus 144000 ∷ []) refl refl
    -- P7, P8: the larger of tag and clock, plus 144,000
    ∷ row start (four_picked ++ arrival 1 100 5 ∷ arrival 0 100 6 ∷ []) (four_said ++ done [] ∷ done [] ∷ [])
    (pos 144000 ∷ pos 288000 ∷ pos 576000 ∷ pos 432000 ∷ []) refl refl
    -- the sum is "0 again at Idle"
    ∷ row start (four_picked ++ pick ∷ []) (four_said ++ idle ∷ []) (pos 0 ∷ pos 0 ∷ pos 0 ∷ pos 0 ∷ []) refl refl
    -- 02 e): of equal tags the first flow after the one picked last. Flow 0's second packet and flow 1's only one have
    -- tag 144,000, and flow 0 was picked last
    ∷ row start (opened ∷ arrival 0 50 7 ∷ arrival 0 50 7 ∷ arrival 1 100 8 ∷ pick ∷ pick ∷ pick ∷ [])
    (done [] ∷ done [] ∷ done [] ∷ done [] ∷ packet 0 50 7 72000 false 36000 ∷ packet 1 100 8 144000 false 108000
    ∷ packet 0 50 7 144000 false 144000 ∷ []) (pos 0 ∷ pos 144000 ∷ pos 144000 ∷ pos 144000 ∷ []) refl refl
    ∷ []

-- one flow of share 500 and largest packet 100, cost 1,440, Δ 144,000: sum, clock, link time, number waiting, its tag,
-- and the tag of the 63 flows beyond it
abbrev holding : ℕ → ℕ → ℕ → ℕ → ℤ → ℤ → State
holding sum clock link waiting tag rest =
    let only : ℕ → List ℕ = λ n. n ∷ replicate 63 0 in
    let memory : List ℕ = replicate waiting 100 ++ replicate (4096 - waiting) 0 in
    state record {
      flows = 1;
      header = 0;
      width = 144000;
      sum = ticks sum;
      clock = ticks clock;
      link = link_time link;
      tags = signed_tags (tag ∷ replicate 63 rest);
      queues = queues_of (only 500) (only 100) (only 0) (only waiting);
      turn = 0;
    } memory memory

-- the blank sum and clocks, nothing waiting, and this turn
abbrev turning : ℕ → State
turning turn = let s = holding 0 0 0 0 (pos 0) (pos 0) in state (turned s.held turn) s.lengths s.handles

-- a pick on this state is Idle: the record is inside the form
abbrev Idles : State → Type 0
Idles s = (pick_rule s).reply ≡ idle

-- a pick on this state is refused with this number, and leaves all as it was
abbrev Refuses : ℕ → State → Type 0
Refuses number s = pick_rule s ≡ record { reply = refused number 0; state = s }

-- The limits of the form, "with that added to clock and tags": link time, clock, sum, tag, the tags beyond; and the
-- turn.
pub record Limits : Type 0 where
  -- "The blank record is all zeros. It is not well formed."
  blank_out : Refuses 2 start
  -- clock + sum is below 2^62 + 1,127,206,080, whichever of the two it stands in
  clock_in : Idles (holding 0 (2 ^ 62 + 1127206079) 0 0 (pos 0) (pos 0))
  clock_out : Refuses 2 (holding 0 (2 ^ 62 + 1127206080) 0 0 (pos 0) (pos 0))
  sum_in : Idles (holding (2 ^ 62 + 1127206079) 0 0 0 (pos 0) (minus (2 ^ 62 + 1127206079)))
  sum_out : Refuses 2 (holding (2 ^ 62 + 1127206080) 0 0 0 (pos 0) (minus (2 ^ 62 + 1127206080)))
  both_in : Idles (holding (2 ^ 62) 1127206079 0 0 (pos 0) (minus (2 ^ 62)))
  both_out : Refuses 2 (holding (2 ^ 62) 1127206080 0 0 (pos 0) (minus (2 ^ 62)))
  -- sums and clocks of which the sum does not fit 64 bits
  sum_full : Refuses 2 (holding (2 ^ 64 - 1) 0 0 0 (pos 0) (pos 0))
  clock_full : Refuses 2 (holding 0 (2 ^ 64 - 1) 0 0 (pos 0) (pos 0))
  both_full : Refuses 2 (holding (2 ^ 64 - 1) (2 ^ 64 - 1) (2 ^ 64 - 1) 0 (pos (2 ^ 63 - 1)) (minus (2 ^ 63)))
  -- link time is at most clock + sum
  link_in : Idles (holding 144000 5 144005 0 (pos 0) (minus 144000))
  link_out : Refuses 2 (holding 144000 5 144006 0 (pos 0) (minus 144000))
  -- the tag of a flow with nothing waiting: not below zero with the sum added, and at most clock + 2Δ
  idle_low : Idles (holding 144000 5 5 0 (minus 144000) (minus 144000))
  idle_below : Refuses 2 (holding 144000 5 5 0 (minus 144001) (minus 144000))
  idle_high : Idles (holding 144000 5 5 0 (pos 288005) (minus 144000))
  idle_above : Refuses 2 (holding 144000 5 5 0 (pos 288006) (minus 144000))
  least : Refuses 2 (holding 144000 5 5 0 (minus (2 ^ 63)) (minus 144000))
  most : Refuses 2 (holding 144000 5 5 0 (pos (2 ^ 63 - 1)) (minus 144000))
  -- the tag of a flow that waits: from the clock to clock + 3Δ; below zero is below the clock, and zero is not
  waits_low : (pick_rule (holding 144000 5 5 1 (pos 5) (minus 144000))).reply ≡ packet 0 100 100 5 false 72005
  waits_behind : Refuses 2 (holding 144000 5 5 1 (pos 4) (minus 144000))
  waits_zero : (pick_rule (holding 144000 0 0 1 (pos 0) (minus 144000))).reply ≡ packet 0 100 100 0 false 72000
  waits_below : Refuses 2 (holding 144000 0 0 1 (minus 1) (minus 144000))
  waits_high : (pick_rule (holding 144000 5 5 1 (pos 432005) (minus 144000))).reply ≡ packet 0 100 100 288005 true 72005
  waits_above : Refuses 2 (holding 144000 5 5 1 (pos 432006) (minus 144000))
  -- all fields of the flows beyond are 0, their tags with the sum added
  rest_less : Refuses 2 (holding 144000 5 5 0 (pos 0) (minus 144001))
  rest_more : Refuses 2 (holding 144000 5 5 0 (pos 0) (minus 143999))
  rest_zero : Refuses 2 (holding 144000 5 5 0 (pos 0) (pos 0))
  -- 02 e): "the turn, 0 to 63"
  turn_in : Idles (turning 63)
  turn_out : Refuses 2 (turning 64)
  turn_full : Refuses 2 (turning (2 ^ 64 - 1))
  -- 10: "something waits and the clock is 2^62 or more", clock and sum together
  late_not : (pick_rule (holding (2 ^ 62 - 6) 5 5 1 (pos 5) (minus (2 ^ 62 - 6)))).reply ≡ packet 0 100 100 5 false 72005
  late : Refuses 10 (holding (2 ^ 62 - 5) 5 5 1 (pos 5) (minus (2 ^ 62 - 5)))
  late_sum : Refuses 10 (holding (2 ^ 62) 0 0 1 (pos 0) (minus (2 ^ 62)))
  late_clock : Refuses 10 (holding 0 (2 ^ 62) (2 ^ 62) 1 (pos (2 ^ 62)) (pos 0))
  -- Idle comes before it
  late_idle : Idles (holding (2 ^ 62) 0 0 0 (pos 0) (minus (2 ^ 62)))

pub limits : Limits
unfolding every_step
limits =
    record {
      blank_out = refl;
      clock_in = refl;
      clock_out = refl;
      sum_in = refl;
      sum_out = refl;
      both_in = refl;
      both_out = refl;
      sum_full = refl;
      clock_full = refl;
      both_full = refl;
      link_in = refl;
      link_out = refl;
      idle_low = refl;
      idle_below = refl;
      idle_high = refl;
      idle_above = refl;
      least = refl;
      most = refl;
      waits_low = refl;
      waits_behind = refl;
      waits_zero = refl;
      waits_below = refl;
      waits_high = refl;
      waits_above = refl;
      rest_less = refl;
      rest_more = refl;
      rest_zero = refl;
      turn_in = refl;
      turn_out = refl;
      turn_full = refl;
      late_not = refl;
      late = refl;
      late_sum = refl;
      late_clock = refl;
      late_idle = refl;
    }
