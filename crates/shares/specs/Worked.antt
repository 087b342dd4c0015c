-- Worked runs: a table, the calls before a stretch, and the stretch, computed by the rules themselves on memories of
-- 4,096 places; and what a run of the stretch shows of a flow, as a test to be computed.
-- No carried call is refused with 1 or 2, so what is computed leaves these two tests out: `lean_run` is the same run.
-- Assumes nothing.
use Rattle.std.specs.Prelude.{◌≡◌, refl, Bool, true, false, ◌&&◌, List, [], ◌∷◌, ℕ, ◌+◌, ◌*◌, ◌<◌, eqb, ltb}
use Rattle.std.proofs.Common.{sym, ap, ◌∙◌, arith, ltb-true, eqb-true}
use Rattle.below.specs.Truth.{true_false, both_true, four_true}
use Rattle.reply.specs.Reply.{done}
use Rattle.uplink.specs.Flow.{flow_cost}
use Rattle.uplink.specs.Record.{flow_at, waiting_of}
use Rattle.uplink.specs.State.{State, Outcome}
use Rattle.uplink.specs.Arrival.{join_rule}
use Rattle.uplink.specs.Pick.{choose_rule}
use Rattle.uplink.specs.Calls.{Call, opening, arrival, pick, start, after_call}
use Rattle.shares.specs.Runs.{NoOpening, Plain, Event, end_of, run_of, opening_in, Carried, opened, charge_in}
use Rattle.shares.specs.Runs.{charge_for, picked, picked_of, figure_of, WaitsAtPicks}
use Rattle.shares.specs.Keep.{Table}
use Rattle.shares.specs.Bridge.{table_of, Steady}
use Rattle.shares.specs.Calls.{checked_on, call_keeps}
use Rattle.shares.specs.Stretches.{carried_steady, kept_stretch}
use Rattle.shares.specs.Rule.{rule_gives, rule_stretch, rule_carried}

-- a worked run: a table and a header, the calls before the stretch, and the stretch
pub record Worked : Type 0 where
  pub shares : List ℕ
  pub largest : List ℕ
  pub header : ℕ
  pub before : List Call
  pub stretch : List Call

-- the state after the opening
abbrev pub opened_of : Worked → State
opened_of w = (opening_in start w.shares w.largest w.header).state

-- the state in which the stretch begins, and the stretch by document 01's rule
abbrev pub begin_of : Worked → State
begin_of w = end_of (opened_of w) (run_of (opened_of w) w.before)

abbrev pub stretch_of : Worked → List Event
stretch_of w = run_of (begin_of w) w.stretch

-- the bound of demand 3 with so many Δ
abbrev pub bound_of : Worked → List Event → ℕ → ℕ → ℕ
bound_of w run f most = figure_of f (begin_of w) run + most * (begin_of w).held.width

-- what a call gives that is refused with neither 1 nor 2: no length of a memory and no form is looked at
abbrev lean_call : State → Call → Outcome
lean_call s (opening shares largest header) = after_call s (opening shares largest header)
lean_call s (arrival flow length handle) = join_rule s flow length handle
lean_call s pick = choose_rule s

-- on a steady state that is what the call gives
lean_call_lem : (s : State) → Steady s → (call : Call) → Plain call → lean_call s call ≡ after_call s call
lean_call_lem s S (opening shares largest header) plain = absurd plain
lean_call_lem s S (arrival flow length handle) plain = sym (checked_on s S)
lean_call_lem s S pick plain = sym (checked_on s S)

-- the run of such calls
abbrev pub lean_run : State → List Call → List Event
lean_run s [] = []
lean_run s (call ∷ calls) = record { call = call; outcome = lean_call s call } ∷ lean_run (lean_call s call).state calls

-- and that it is document 01's
lean_run_lem : (s : State) → Steady s → (calls : List Call) → NoOpening calls → lean_run s calls ≡ run_of s calls
lean_run_lem s S [] plain = refl
lean_run_lem s S (call ∷ calls) plain =
    let kept = (call_keeps s S call (after_call s call) plain.0 (rule_gives s call)).0 in
    rw (lean_call_lem s S call plain.0, lean_run_lem (after_call s call).state kept calls plain.1)

-- the state in which the stretch begins, and the stretch, so computed
abbrev pub lean_begin : Worked → State
lean_begin w = end_of (opened_of w) (lean_run (opened_of w) w.before)

abbrev pub lean_stretch : Worked → List Event
lean_stretch w = lean_run (lean_begin w) w.stretch

-- a worked run whose opening is accepted, with no other in it
pub record Begun (w : Worked) : Type 0 where
  pub carried : Carried (begin_of w)
  pub plain : NoOpening w.stretch
  pub table : table_of (begin_of w) ≡ table_of (opened_of w)
  pub begin : begin_of w ≡ lean_begin w
  pub stretch : stretch_of w ≡ lean_stretch w

-- no call is an opening, as a test to be computed
abbrev plain_all : List Call → Bool
plain_all [] = true
plain_all (opening shares largest header ∷ calls) = false
plain_all (arrival flow length handle ∷ calls) = plain_all calls
plain_all (pick ∷ calls) = plain_all calls

-- and what it says
plain_of : (calls : List Call) → plain_all calls ≡ true → NoOpening calls
plain_of [] e = tt
plain_of (opening shares largest header ∷ calls) e = true_false (sym e)
plain_of (arrival flow length handle ∷ calls) e = (tt, plain_of calls e)
plain_of (pick ∷ calls) e = (tt, plain_of calls e)

-- so a worked run is begun
begun_of : (w : Worked) → (opening_in start w.shares w.largest w.header).reply ≡ done []
    → plain_all w.before ≡ true → plain_all w.stretch ≡ true → Begun w
begun_of w accepted before stretch =
    let c : Carried (opened_of w) = opened start w.shares w.largest w.header accepted in
    let S = carried_steady c in
    let run = rule_stretch (opened_of w) w.before (plain_of w.before before) in
    let kept = kept_stretch (opened_of w) (run_of (opened_of w) w.before) S run in
    let begin = ap (end_of (opened_of w)) (lean_run_lem (opened_of w) S w.before (plain_of w.before before)) in
    let plain = plain_of w.stretch stretch in
    record {
      carried = rule_carried c w.before (plain_of w.before before);
      plain = plain;
      table = kept.1;
      begin = sym begin;
      stretch = rw begin (sym (lean_run_lem (begin_of w) kept.0 w.stretch plain));
    }

-- what is computed holds of the run
pub by_lean : (w : Worked) → Begun w → (P : State → List Event → Type 0) → P (lean_begin w) (lean_stretch w)
    → P (begin_of w) (stretch_of w)
by_lean w begun P p = rw (begun.stretch, begun.begin) p

-- what a run of the stretch shows of flow f: it meets what demand 3 asks, and these are W, S, the flow's cost and Δ
pub record Shows (w : Worked) (run : List Event) (f W S cost width : ℕ) : Type 0 where
  pub begun : Begun w
  pub counts : f < (begin_of w).held.flows
  pub waits : WaitsAtPicks f (begin_of w) run
  pub all : picked run ≡ W
  pub own : picked_of f run ≡ S
  pub cost_is : flow_cost (flow_at (begin_of w).held f) ≡ cost
  pub width_is : (begin_of w).held.width ≡ width

-- flow f waits at every call, and with what came before these are all charges and its own: a test, in one pass
abbrev counts_all : ℕ → State → List Event → ℕ → ℕ → ℕ → ℕ → Bool
counts_all f s [] all own W S = eqb all W && eqb own S
counts_all f s (x ∷ xs) all own W S =
    ltb 0 (waiting_of s.held f)
    && counts_all f x.outcome.state xs (all + charge_in x.outcome) (own + charge_for f x.outcome) W S

-- and what it says
counts_of_lem : (f : ℕ) (s : State) (xs : List Event) (all own W S : ℕ) → counts_all f s xs all own W S ≡ true
    → WaitsAtPicks f s xs × (all + picked xs ≡ W) × (own + picked_of f xs ≡ S)
counts_of_lem f s [] all own W S e = let both = both_true (eqb all W) (eqb own S) e in
    (tt, omega (arith, eqb-true all W both.0), omega (arith, eqb-true own S both.1))
counts_of_lem f s (x ∷ xs) all own W S e =
    let both = both_true (ltb 0 (waiting_of s.held f)) _ e in
    let rest = counts_of_lem f x.outcome.state xs (all + charge_in x.outcome) (own + charge_for f x.outcome) W S
    both.1 in
    ((λ _. ltb-true 0 _ both.0, rest.0), omega (arith, rest.1), omega (arith, rest.2))

-- what a run from state s on shows of flow f, with the table of the opening: a test
abbrev shows_all : Worked → State → List Event → ℕ → ℕ → ℕ → ℕ → ℕ → Bool
shows_all w s run f W S cost width = let r = (opened_of w).held in
    counts_all f s run 0 0 W S && ltb f r.flows && eqb (flow_cost (flow_at r f)) cost && eqb r.width width

-- and what it says
shows_of : (w : Worked) (run : List Event) (f W S cost width : ℕ) → Begun w
    → shows_all w (begin_of w) run f W S cost width ≡ true → Shows w run f W S cost width
shows_of w run f W S cost width begun e =
    let r = (opened_of w).held in
    let four = four_true (counts_all f (begin_of w) run 0 0 W S) (ltb f r.flows) _ _ e in
    let counts = counts_of_lem f (begin_of w) run 0 0 W S four.0 in
    record {
      begun = begun;
      counts = rw (ap (λ (X : Table). X.size) begun.table) (ltb-true _ _ four.1);
      waits = counts.0;
      all = omega (arith, counts.1);
      own = omega (arith, counts.2);
      cost_is = ap (λ (X : Table). X.cost f) begun.table ∙ eqb-true _ _ four.2;
      width_is = ap (λ (X : Table). X.width) begun.table ∙ eqb-true _ _ four.3;
    }

module _ (w : Worked) (f W S cost width : ℕ)
    (accepted : (opening_in start w.shares w.largest w.header).reply ≡ done [])
    (before : plain_all w.before ≡ true) (stretch : plain_all w.stretch ≡ true) where
  -- of document 01's run of the stretch
  pub rule_shows : shows_all w (lean_begin w) (lean_stretch w) f W S cost width ≡ true
      → Shows w (stretch_of w) f W S cost width
  rule_shows e = let begun = begun_of w accepted before stretch in
      shows_of w (stretch_of w) f W S cost width begun
      (by_lean w begun (λ s run. shows_all w s run f W S cost width ≡ true) e)

  -- and of a run that a rule makes of the state in which it begins
  pub other_shows : (run_from : State → List Event)
      → shows_all w (lean_begin w) (run_from (lean_begin w)) f W S cost width ≡ true
      → Shows w (run_from (begin_of w)) f W S cost width
  other_shows run_from e = let begun = begun_of w accepted before stretch in
      shows_of w (run_from (begin_of w)) f W S cost width begun
      (by_lean w begun (λ s run. shows_all w s (run_from s) f W S cost width ≡ true) e)
