-- The crew of flow 9 in worked runs, by the rule and with the lowest number winning; and that with the lowest number
-- winning the flow picked last does not lose every tie.
-- Ten flows of share 100 and largest packet 100, no header: a byte costs 7,200, so that 50 bytes are tagged 360,000 and
-- 100 bytes, or 50 behind 50, are tagged 720,000.
-- Assumes nothing.
use Rattle.std.specs.Prelude.{◌≡◌, refl, false, List, [], ◌∷◌, ◌++◌, ℕ, ◌<◌, replicate}
use Rattle.std.proofs.Common.{arith}
use Rattle.reply.specs.Reply.{done, packet}
use Rattle.reply.specs.State.{state}
use Rattle.tags.specs.Choice.{from_turn}
use Rattle.uplink.specs.Record.{tag_of, waiting_of, turned}
use Rattle.uplink.specs.State.{State, Outcome}
use Rattle.uplink.specs.Pick.{pick_rule}
use Rattle.uplink.specs.Calls.{Call, opening, arrival, pick, start, after_call, every_rule}
use Rattle.uplink.specs.declared.Record.{Record}
use Rattle.turns.specs.Fair.{nobody, Engine, LosesTies, replies_of}
use Rattle.turns.specs.Engines.{first_engine}

-- "On equal tags the lowest number wins": the first engine, but that a pick finds the turn at 0
abbrev lowest_call : State → Call → Outcome
lowest_call s (opening shares largest header) = after_call s (opening shares largest header)
lowest_call s (arrival f length handle) = after_call s (arrival f length handle)
lowest_call s pick = pick_rule (state (turned s.held 0) s.lengths s.handles)

abbrev pub lowest_wins : Engine Record
lowest_wins =
    record {
      after = lowest_call;
      flows = λ r. r.flows;
      tag = tag_of;
      waiting = waiting_of;
      turn = λ r. r.turn;
    }

-- from a turn of 0 the first flow is the one of the lowest number
pub lowest_first : (f : ℕ) → f < 64 → from_turn 0 f ≡ f
lowest_first f h = omega arith

-- ten flows, these arrivals, and three picks
abbrev ten_flows : List Call → List Call
ten_flows arrivals = opening (replicate 10 100) (replicate 10 100) 0 ∷ (arrivals ++ (pick ∷ pick ∷ pick ∷ []))

-- two packets of 50 bytes at flow 0, one of 100 at flow 9
abbrev pub flow_nine_waits : List Call
flow_nine_waits = ten_flows (arrival 0 50 1 ∷ arrival 0 50 2 ∷ arrival 9 100 3 ∷ [])

-- By the rule flow 0 goes, and of the equal tags then flow 9.
pub crew_of_flow_nine : replies_of first_engine start flow_nine_waits
    ≡ replicate 4 (done [])
    ++ (packet 0 50 1 360000 false 36000 ∷ packet 9 100 3 720000 false 108000 ∷ packet 0 50 2 720000 false 144000 ∷ [])
unfolding every_rule
crew_of_flow_nine = refl

-- With the lowest number winning flow 0 goes twice,
pub lowest_goes_twice : replies_of lowest_wins start flow_nine_waits
    ≡ replicate 4 (done [])
    ++ (packet 0 50 1 360000 false 36000 ∷ packet 0 50 2 720000 false 72000 ∷ packet 9 100 3 720000 false 144000 ∷ [])
unfolding every_rule
lowest_goes_twice = refl

-- and so the flow picked last does not lose every tie.
pub lowest_is_not_fair : LosesTies lowest_wins nobody start flow_nine_waits → ⊥
unfolding every_rule
lowest_is_not_fair fair =
    let less : 720000 < 720000 =
    fair.1.1.1.1.1.0 refl 0 _ refl refl 9 (omega arith) (omega arith) (λ e. absurd (omega arith)) in
    absurd (omega arith)

-- 50 bytes at flow 8, 100 at flows 0 and 9: after flow 8 it is flow 9's turn, and then flow 0's
pub after_flow_eight :
    replies_of first_engine start (ten_flows (arrival 0 100 1 ∷ arrival 8 50 2 ∷ arrival 9 100 3 ∷ []))
    ≡ replicate 4 (done [])
    ++ (packet 8 50 2 360000 false 36000 ∷ packet 9 100 3 720000 false 108000 ∷ packet 0 100 1 720000 false 180000 ∷ [])
unfolding every_rule
after_flow_eight = refl
