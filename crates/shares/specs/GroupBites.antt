-- The statements of `Groups` and the sharper demand 3 bite: worked runs, computed by the rules themselves.
-- `tight` meets what they ask of two flows, with no figure 0, and shows that no 3 can be a 2, and no 2 a 1.
-- `late` has a front packet that leaves after 2.99Δ, `soon` one that has left after 3Δ / 720 picks.
-- `quiet` shows that both flows have to wait: there the figures differ by more than 6Δ. So they do with the stand-in
-- `lazy` of `Bites`, where both wait.
-- Assumes nothing.
use Rattle.std.specs.Prelude.{◌≡◌, refl, Bool, true, ◌&&◌, List, [], ◌∷◌, ◌++◌, ℕ, ◌+◌, ◌*◌, ◌/◌, ◌≤◌, ◌<◌, eqb, ltb, replicate}
use Rattle.std.proofs.Common.{arith, lit<, lit≤, ltb-true, eqb-true}
use Rattle.below.specs.Truth.{four_true}
use Rattle.uplink.specs.Flow.{flow_cost}
use Rattle.uplink.specs.Record.{flow_at, waiting_of}
use Rattle.uplink.specs.State.{State, Outcome}
use Rattle.uplink.specs.Pick.{pick_rule}
use Rattle.uplink.specs.Calls.{Call, arrival, pick, every_rule}
use Rattle.shares.specs.Runs.{end_of, waiting_charge, start_of, charge_for, picked, picked_of, figure_of, picks_of}
use Rattle.shares.specs.Runs.{WaitsAtPicks}
use Rattle.shares.specs.Shares.{share_with_front}
use Rattle.shares.specs.Groups.{nobody_ahead, both_wait_lem}
use Rattle.shares.specs.Rule.{rule_stretch, rule_overdraws, rule_both_wait, rule_front_waits, rule_front_leaves}
use Rattle.shares.specs.Rule.{rule_front_turns}
use Rattle.shares.specs.Worked.{Worked, begin_of, stretch_of, bound_of, lean_begin, lean_stretch, Shows, rule_shows}
use Rattle.shares.specs.Worked.{other_shows, by_lean}
use Rattle.shares.specs.Bites.{fair, tight, tight_shows, lazy, lazy_from, lazy_stretch, lazy_shows}

-- of flow 1 too: it waits at every pick, and its S is 3,992
pub tight_other : Shows tight (stretch_of tight) 1 3993 3992 721 720000
unfolding every_rule
tight_other = rule_shows tight 1 3993 3992 721 720000 refl refl refl refl

-- the starts where the stretch begins, and the charge of flow 0's front packet at its end
pub tight_starts : (start_of (begin_of tight) 0 ≡ 1440000) × (start_of (begin_of tight) 1 ≡ 1440)
unfolding every_rule start_of
tight_starts = by_lean tight tight_shows.begun
    (λ s run. (start_of s 0 ≡ 1440000) × (start_of s 1 ≡ 1440)) (refl, refl)

pub tight_front : waiting_charge (end_of (begin_of tight) (stretch_of tight)) 0 ≡ 1
unfolding every_rule waiting_charge
tight_front = by_lean tight tight_shows.begun (λ s run. waiting_charge (end_of s run) 0 ≡ 1) refl

-- nobody is far ahead: flow 0 is ahead of flow 1 by 1,438,560
pub tight_ahead : start_of (begin_of tight) 0 ≤ start_of (begin_of tight) 1 + 2 * (begin_of tight).held.width
tight_ahead = nobody_ahead tight_shows.begun.carried 0 1 tight_shows.counts tight_other.counts

-- Δ would be too few
pub one_ahead : start_of (begin_of tight) 1 + 1 * (begin_of tight).held.width < start_of (begin_of tight) 0
one_ahead = rw (tight_starts.0, tight_starts.1, tight_shows.width_is) (lit< tt)

-- the bound of demand 3 with so many Δ and flow f's front packet at the end counted as picked
abbrev pub counted_of : Worked → ℕ → ℕ → ℕ
counted_of w f most = let n = waiting_charge (end_of (begin_of w) (stretch_of w)) f in
    (picked_of f (stretch_of w) + n) * flow_cost (flow_at (begin_of w).held f) + most * (begin_of w).held.width

-- demand 3, sharper: 720 × 3,994 are at most 2 × 720,000 + 2Δ
pub tight_share : 720 * (picked (stretch_of tight) + waiting_charge (end_of (begin_of tight) (stretch_of tight)) 0)
    ≤ counted_of tight 0 2
tight_share = (share_with_front tight_shows.begun.carried 0 tight_shows.counts (stretch_of tight)
    (rule_stretch (begin_of tight) tight.stretch tight_shows.begun.plain) tight_shows.waits).0

-- Δ would be too few
pub one_share : counted_of tight 0 1
    < 720 * (picked (stretch_of tight) + waiting_charge (end_of (begin_of tight) (stretch_of tight)) 0)
one_share = rw (tight_shows.all, tight_shows.own, tight_front, tight_shows.cost_is, tight_shows.width_is) (lit< tt)

-- nobody overdraws: 3,992 × 721 are at most 1 × 720,000 + 3Δ
pub tight_overdraws : figure_of 1 (begin_of tight) (stretch_of tight) ≤ bound_of tight (stretch_of tight) 0 3
tight_overdraws = rule_overdraws tight_shows.begun.carried tight.stretch tight_shows.begun.plain 0 1
    tight_shows.counts tight_other.counts tight_shows.waits

-- 2Δ would be too few
pub two_overdraws : bound_of tight (stretch_of tight) 0 2 < figure_of 1 (begin_of tight) (stretch_of tight)
two_overdraws =
    rw (tight_shows.own, tight_other.own, tight_shows.cost_is, tight_other.cost_is, tight_shows.width_is) (lit< tt)

-- nor would Δ do with the front packet counted
pub one_overdraws : counted_of tight 0 1 < figure_of 1 (begin_of tight) (stretch_of tight)
one_overdraws =
    rw (
      tight_shows.own,
      tight_other.own,
      tight_front,
      tight_shows.cost_is,
      tight_other.cost_is,
      tight_shows.width_is,
    ) (lit< tt)

-- both wait: the two figures differ by at most 6Δ
pub tight_both : (figure_of 0 (begin_of tight) (stretch_of tight) ≤ bound_of tight (stretch_of tight) 1 6)
    × (figure_of 1 (begin_of tight) (stretch_of tight) ≤ bound_of tight (stretch_of tight) 0 6)
tight_both = rule_both_wait tight_shows.begun.carried tight.stretch tight_shows.begun.plain 0 1
    tight_shows.counts tight_other.counts tight_shows.waits tight_other.waits

-- flow 0's third packet of one byte is in front, far ahead, when flow 1 comes with three of 997, which go first
abbrev pub late : List Call → Worked
late before =
    record {
      shares = 1 ∷ 999 ∷ [];
      largest = 1 ∷ 997 ∷ [];
      header = 0;
      before = before;
      stretch = arrival 1 997 4 ∷ arrival 1 997 5 ∷ arrival 1 997 6 ∷ replicate 3 pick;
    }

-- the pick of the packet before it brought it to the front
abbrev pub followed : Worked
followed = late (arrival 0 1 1 ∷ arrival 0 1 2 ∷ arrival 0 1 3 ∷ pick ∷ pick ∷ [])

-- an arrival at the empty flow did
abbrev pub arrived : Worked
arrived = late (arrival 0 1 1 ∷ arrival 0 1 2 ∷ pick ∷ pick ∷ arrival 0 1 3 ∷ [])

-- what such a run shows: the packet waits, the stretch does not pick it, the next pick does, and these are the link
-- times at the begin and when it has left
abbrev pub leaving : Worked → Outcome
leaving w = pick_rule (end_of (begin_of w) (stretch_of w))

pub record Leaves (w : Worked) : Type 0 where
  pub shows : Shows w (stretch_of w) 0 2991 0 720000 720000
  pub waits : 0 < waiting_of (begin_of w).held 0
  pub left : 0 < charge_for 0 (leaving w)
  pub begin : (begin_of w).held.link.0 ≡ 1440
  pub end : (leaving w).state.held.link.0 ≡ 2155680

-- as a test to be computed
abbrev leaves_all : State → Outcome → Bool
leaves_all s o = ltb 0 (waiting_of s.held 0) && ltb 0 (charge_for 0 o) && eqb s.held.link.0 1440
    && eqb o.state.held.link.0 2155680

-- and what it says
leaves_of : (w : Worked) → Shows w (stretch_of w) 0 2991 0 720000 720000
    → leaves_all (lean_begin w) (pick_rule (end_of (lean_begin w) (lean_stretch w))) ≡ true → Leaves w
leaves_of w shows e =
    let same = by_lean w shows.begun (λ s run. leaves_all s (pick_rule (end_of s run)) ≡ true) e in
    let four = four_true (ltb 0 (waiting_of (begin_of w).held 0)) (ltb 0 (charge_for 0 (leaving w))) _ _ same in
    record {
      shows = shows;
      waits = ltb-true _ _ four.0;
      left = ltb-true _ _ four.1;
      begin = eqb-true _ _ four.2;
      end = eqb-true _ _ four.3;
    }

pub followed_leaves : Leaves followed
unfolding every_rule
followed_leaves = leaves_of followed (rule_shows followed 0 2991 0 720000 720000 refl refl refl refl) refl

pub arrived_leaves : Leaves arrived
unfolding every_rule
arrived_leaves = leaves_of arrived (rule_shows arrived 0 2991 0 720000 720000 refl refl refl refl) refl

-- what is said of such a packet
pub record InTime (w : Worked) : Type 0 where
  -- while it still waits, link time has grown by at most 3Δ, the ticks of its own charge included
  pub waiting : let end = end_of (begin_of w) (stretch_of w) in
      end.held.link.0 + 720 * waiting_charge end 0 ≤ (begin_of w).held.link.0 + 3 * (begin_of w).held.width
  -- and so it has when it has left
  pub left : (leaving w).state.held.link.0 ≤ (begin_of w).held.link.0 + 3 * (begin_of w).held.width
  -- 2Δ would be too few
  pub two_late : (begin_of w).held.link.0 + 2 * (begin_of w).held.width < (leaving w).state.held.link.0

late_in_time : (w : Worked) → Leaves w → InTime w
late_in_time w leaves =
    let shows = leaves.shows in
    let c = shows.begun.carried in
    let plain = shows.begun.plain in
    record {
      waiting = rule_front_waits c w.stretch plain 0 shows.counts leaves.waits shows.own;
      left = rule_front_leaves c w.stretch plain 0 shows.counts leaves.waits shows.own leaves.left;
      two_late = rw (leaves.begin, leaves.end, shows.width_is) (lit< tt);
    }

-- whichever call brought it to the front
pub followed_in_time : InTime followed
followed_in_time = late_in_time followed followed_leaves

pub arrived_in_time : InTime arrived
arrived_in_time = late_in_time arrived arrived_leaves

-- two flows of 500 with packets of one byte: 3Δ / 720 is 6
abbrev pub soon : Worked
soon =
    record {
      shares = 500 ∷ 500 ∷ [];
      largest = 1 ∷ 1 ∷ [];
      header = 0;
      before = replicate 4 (arrival 0 1 1) ++ replicate 4 (arrival 1 1 2);
      stretch = replicate 6 pick;
    }

-- three packets of each flow go
pub soon_shows : Shows soon (stretch_of soon) 0 6 3 1440 1440
unfolding every_rule
soon_shows = rule_shows soon 0 6 3 1440 1440 refl refl refl refl

-- as at least one of flow 0 has to, six picks not having been refused
pub soon_leaves : 0 < picked_of 0 (stretch_of soon)
unfolding every_rule
soon_leaves = rule_front_turns soon_shows.begun.carried soon.stretch soon_shows.begun.plain 0
    soon_shows.counts (soon_shows.waits.0 refl)
    (by_lean soon soon_shows.begun (λ s run. 3 * s.held.width / 720 ≤ picks_of run) (lit≤ tt))

-- `fair`'s table, nine packets at flow 0 and one at flow 1
abbrev pub quiet : Worked
quiet =
    record {
      shares = fair.shares;
      largest = fair.largest;
      header = fair.header;
      before = arrival 1 100 9 ∷ replicate 9 (arrival 0 100 7);
      stretch = replicate 9 pick;
    }

-- flow 0 waits at every pick, and its S is 800
pub quiet_shows : Shows quiet (stretch_of quiet) 0 900 800 1440 144000
unfolding every_rule
quiet_shows = rule_shows quiet 0 900 800 1440 144000 refl refl refl refl

-- that of flow 1 is 100, and its figure
pub quiet_other : figure_of 1 (begin_of quiet) (stretch_of quiet) ≡ 144000
unfolding every_rule
quiet_other = by_lean quiet quiet_shows.begun (λ s run. figure_of 1 s run ≡ 144000) refl

-- the figures differ by more than 6Δ
pub quiet_differs : figure_of 1 (begin_of quiet) (stretch_of quiet) + 6 * (begin_of quiet).held.width
    < figure_of 0 (begin_of quiet) (stretch_of quiet)
quiet_differs = rw (quiet_other, quiet_shows.own, quiet_shows.cost_is, quiet_shows.width_is) (lit< tt)

-- flow 1 is one of the table's
quiet_counts : 1 < (begin_of quiet).held.flows
unfolding every_rule
quiet_counts = by_lean quiet quiet_shows.begun (λ s run. 1 < s.held.flows) (lit< tt)

-- so flow 1 does not wait at every pick: that both wait is needed
pub quiet_alone : WaitsAtPicks 1 (begin_of quiet) (stretch_of quiet) → ⊥
quiet_alone waits = let stretch = rule_stretch (begin_of quiet) quiet.stretch quiet_shows.begun.plain in
    omega (
      arith,
      quiet_differs,
      both_wait_lem quiet_shows.begun.carried 0 1 quiet_shows.counts quiet_counts
          (stretch_of quiet) stretch quiet_shows.waits waits,
    )

-- the stand-in that only reports: flow 1 waits at every pick, and its S is 800
pub lazy_other : Shows lazy lazy_stretch 1 900 800 1440 144000
unfolding every_rule
lazy_other = other_shows lazy 1 900 800 1440 144000 refl refl refl lazy_from refl

-- both wait, and the figures differ by more than 6Δ
pub lazy_differs : figure_of 0 (begin_of lazy) lazy_stretch + 6 * (begin_of lazy).held.width
    < figure_of 1 (begin_of lazy) lazy_stretch
lazy_differs =
    rw (lazy_shows.own, lazy_other.own, lazy_shows.cost_is, lazy_other.cost_is, lazy_shows.width_is) (lit< tt)
