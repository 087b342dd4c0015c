-- The statements bite: worked runs (`Worked`).
-- `fair` meets what demand 3 asks, and W and S are not 0. `tight` shows that the 3 of 3Δ cannot be 2.
-- `headed` has a header (document 02 a): W and S are charges, and by the packets' own bytes demand 3 would not hold.
-- `lazy` shows that the stand-in that keeps its books on the first pick, and afterwards only reports, breaks demand 3.
-- Assumes nothing.
use Rattle.std.specs.Prelude.{◌≡◌, refl, Bool, true, false, cond, List, [], ◌∷◌, ℕ, zero, suc, ◌+◌, ◌*◌, ◌≤◌, ◌<◌, eqb, replicate}
use Rattle.std.proofs.Common.{arith, lit<, lit≤}
use Rattle.uplink.specs.Flow.{flow_cost}
use Rattle.uplink.specs.Record.{flow_at, tag_of}
use Rattle.uplink.specs.State.{State, Outcome}
use Rattle.uplink.specs.Pick.{pick_rule}
use Rattle.uplink.specs.Calls.{Call, opening, arrival, pick, after_call, every_rule}
use Rattle.shares.specs.Runs.{take_rule, Taken, value_in, Event, of_packet, total, picked}
use Rattle.shares.specs.Worked.{Worked, begin_of, stretch_of, bound_of, Shows, by_lean, rule_shows}
use Rattle.shares.specs.Worked.{other_shows}

-- two flows of 500: flow 0 waits while it is picked once and flow 1 is picked once
abbrev pub fair : Worked
fair =
    record {
      shares = 500 ∷ 500 ∷ [];
      largest = 100 ∷ 100 ∷ [];
      header = 0;
      before = arrival 0 100 7 ∷ arrival 0 100 8 ∷ arrival 1 100 9 ∷ [];
      stretch = replicate 2 pick;
    }

-- W is 200 and S is 100
pub fair_shows : Shows fair (stretch_of fair) 0 200 100 1440 144000
unfolding every_rule
fair_shows = rule_shows fair 0 200 100 1440 144000 refl refl refl refl

-- and so it is for flow 1
pub fair_other : Shows fair (stretch_of fair) 1 200 100 1440 144000
unfolding every_rule
fair_other = rule_shows fair 1 200 100 1440 144000 refl refl refl refl

-- both front packets of `fair` have the tag 144,000
tied_least : (g : ℕ) → g < 2 → tag_of (begin_of fair).held 1 ≤ tag_of (begin_of fair).held g
unfolding every_rule
tied_least zero l = by_lean fair fair_shows.begun (λ s run. tag_of s.held 1 ≤ tag_of s.held 0) (lit≤ tt)
tied_least (suc zero) l = omega arith
tied_least (suc (suc g)) l = absurd (omega arith)

-- so a pick may take flow 1
pub tied : Taken (begin_of fair) (take_rule (begin_of fair) 1)
unfolding every_rule
tied =
    record {
      flow = 1;
      smallest = λ _.
          record {
            counts = fair_other.counts;
            waits = fair_other.waits.0 refl;
            least = λ g l _. tied_least g l;
          };
      taken = refl;
    }

-- where document 01's takes flow 0
pub tied_apart : let s = begin_of fair in (value_in 0 (take_rule s 1).reply ≡ 1) × (value_in 0 (pick_rule s).reply ≡ 0)
unfolding every_rule take_rule
tied_apart = by_lean fair fair_shows.begun
    (λ s run. (value_in 0 (take_rule s 1).reply ≡ 1) × (value_in 0 (pick_rule s).reply ≡ 0)) (refl, refl)

-- flow 0 has sent two of its four packets of one byte when flow 1 comes with five of n bytes, and waits at five picks
abbrev pub overtaken : List ℕ → ℕ → ℕ → Worked
overtaken shares n header =
    record {
      shares = shares;
      largest = 1 ∷ n ∷ [];
      header = header;
      before = arrival 0 1 1 ∷ arrival 0 1 2 ∷ arrival 0 1 3 ∷ arrival 0 1 4 ∷ pick ∷ pick
          ∷ arrival 1 n 5 ∷ arrival 1 n 6 ∷ arrival 1 n 7 ∷ arrival 1 n 8 ∷ arrival 1 n 9 ∷ [];
      stretch = replicate 5 pick;
    }

-- with shares 1 and 999, packets of 998 bytes and no header
abbrev pub tight : Worked
tight = overtaken (1 ∷ 999 ∷ []) 998 0

-- W is 3,993 and S is 1
pub tight_shows : Shows tight (stretch_of tight) 0 3993 1 720000 720000
unfolding every_rule
tight_shows = rule_shows tight 0 3993 1 720000 720000 refl refl refl refl

-- 2Δ would be too few
pub two_too_few : bound_of tight (stretch_of tight) 0 2 < 720 * picked (stretch_of tight)
two_too_few = rw (tight_shows.all, tight_shows.own, tight_shows.cost_is, tight_shows.width_is) (lit< tt)

-- the same with shares 50 and 950, packets of 1,000 bytes and a header of 64
abbrev pub headed : Worked
headed = overtaken (50 ∷ 950 ∷ []) 1000 64

-- W is 4,321, four packets of 1,064 and one of 65, and S is 65
pub headed_shows : Shows headed (stretch_of headed) 0 4321 65 14400 936000
unfolding every_rule
headed_shows = rule_shows headed 0 4321 65 14400 936000 refl refl refl refl

-- the packets' own bytes in the place of their charges
abbrev pub bytes_in : Outcome → ℕ
bytes_in o = value_in 1 o.reply

abbrev pub bytes_for : ℕ → Outcome → ℕ
bytes_for f o = of_packet (λ flow rest. cond (eqb flow f) (bytes_in o) 0) o.reply

-- so counted, all is 4,001 and flow 0's is 1
pub headed_bytes : (total bytes_in (stretch_of headed) ≡ 4001) × (total (bytes_for 0) (stretch_of headed) ≡ 1)
unfolding every_rule
headed_bytes = by_lean headed headed_shows.begun
    (λ s run. (total bytes_in run ≡ 4001) × (total (bytes_for 0) run ≡ 1)) (refl, refl)

-- and demand 3 would not hold
pub bytes_break : total (bytes_for 0) (stretch_of headed) * flow_cost (flow_at (begin_of headed).held 0)
    + 3 * (begin_of headed).held.width < 720 * total bytes_in (stretch_of headed)
bytes_break = rw (headed_bytes.0, headed_bytes.1, headed_shows.cost_is, headed_shows.width_is) (lit< tt)

-- the stand-in: with true it has made a pick, and from then on a pick only reports
abbrev pub lazy_after : Bool → State → Call → Outcome
lazy_after made s (opening shares largest header) = after_call s (opening shares largest header)
lazy_after made s (arrival flow length handle) = after_call s (arrival flow length handle)
lazy_after false s pick = pick_rule s
lazy_after true s pick = record { reply = (pick_rule s).reply; state = s }

-- whether it has made a pick after this call
abbrev pub lazy_made : Bool → Call → Bool
lazy_made made (opening shares largest header) = false
lazy_made made (arrival flow length handle) = made
lazy_made made pick = true

-- its run of a list of calls
abbrev pub lazy_run : Bool → State → List Call → List Event
lazy_run made s [] = []
lazy_run made s (call ∷ calls) =
    record { call = call; outcome = lazy_after made s call }
    ∷ lazy_run (lazy_made made call) (lazy_after made s call).state calls

-- the table and the packets of `fair`, and nine picks: all but the first report the one packet of flow 1
abbrev pub lazy : Worked
lazy =
    record {
      shares = fair.shares;
      largest = fair.largest;
      header = fair.header;
      before = fair.before;
      stretch = replicate 9 pick;
    }

abbrev pub lazy_from : State → List Event
lazy_from s = lazy_run false s lazy.stretch

abbrev pub lazy_stretch : List Event
lazy_stretch = lazy_from (begin_of lazy)

-- flow 0 waits at every pick, W is 900 and S is 100
pub lazy_shows : Shows lazy lazy_stretch 0 900 100 1440 144000
unfolding every_rule
lazy_shows = other_shows lazy 0 900 100 1440 144000 refl refl refl lazy_from refl

-- the stand-in breaks demand 3
pub lazy_breaks : bound_of lazy lazy_stretch 0 3 < 720 * picked lazy_stretch
lazy_breaks = rw (lazy_shows.all, lazy_shows.own, lazy_shows.cost_is, lazy_shows.width_is) (lit< tt)
