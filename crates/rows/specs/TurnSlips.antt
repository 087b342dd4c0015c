-- Wrong ways to break a tie and to keep document 02 e)'s turn, each the rule's own outcome with one thing altered, and
-- a named state at which it leaves the rule. `after8` and `after62` are those of `TurnRows`.
-- Assumes nothing.
use Rattle.std.specs.Prelude.{◌≡◌, refl, [], ◌∷◌, ℕ, ◌+◌, ◌-◌}
use Rattle.below.specs.Truth.{apart}
use Rattle.tags.specs.Choice.{lead_by}
use Rattle.uplink.specs.Record.{tag_of, waiting_of, turned}
use Rattle.uplink.specs.State.{State, Outcome}
use Rattle.uplink.specs.Arrival.{arrival_rule}
use Rattle.uplink.specs.Pick.{serve_rule, pick_rule}
use Rattle.uplink.specs.Calls.{arrival}
use Rattle.rows.specs.Script.{run}
use Rattle.rows.specs.Altered.{reheld, when_done, when_idle, when_picked}
use Rattle.rows.specs.StandIns.{flow_told}
use Rattle.rows.specs.TurnRows.{after8, after62}

-- the lowest number wins again: the search begins at flow 0, whatever the turn
abbrev pub lowest_wins : State → Outcome
lowest_wins s = pick_rule (reheld s (turned s.held 0))

-- flow 9 is due, and it takes flow 0
pub lowest_wins_differs : lowest_wins after8 ≡ pick_rule after8 → ⊥
unfolding after8
lowest_wins_differs = apart (λ o. flow_told o.reply) _ _ refl

-- counting down: the first flow at or before the turn. It is the rule's search with every number f read as 63 − f.
abbrev pub counts_down : State → Outcome
counts_down = when_picked (λ s f. let r = s.held in
    serve_rule s (63 - (lead_by (63 - r.turn) (λ g. tag_of r (63 - g)) (λ g. waiting_of r (63 - g)) 64).flow))

-- flows 0 and 61 wait with equal tags, and the turn is 63
unfoldable pub low61 : State
unfolding run after62
low61 = run after62 (arrival 0 100 7 ∷ arrival 61 100 7 ∷ [])

-- flow 0 is due, and it takes flow 61
pub counts_down_differs : counts_down low61 ≡ pick_rule low61 → ⊥
unfolding low61
counts_down_differs = apart (λ o. flow_told o.reply) _ _ refl

-- the last flow picked keeps the turn, and wins the next tie too
abbrev pub last_keeps_turn : State → Outcome
last_keeps_turn = when_picked (λ s f. when_done (λ r. turned r f) (serve_rule s f))

-- the turn is 10, and it says 9
pub last_keeps_turn_differs : last_keeps_turn after8 ≡ pick_rule after8 → ⊥
unfolding after8
last_keeps_turn_differs = apart (λ o. o.state.held.turn) _ _ refl

-- the turn does not go round: 64 after flow 63, which no record may hold
abbrev pub turn_runs_on : State → Outcome
turn_runs_on = when_picked (λ s f. when_done (λ r. turned r (f + 1)) (serve_rule s f))

-- 100 bytes wait at flow 63
unfoldable pub at63 : State
unfolding run after62
at63 = run after62 (arrival 63 100 7 ∷ [])

pub turn_runs_on_differs : turn_runs_on at63 ≡ pick_rule at63 → ⊥
unfolding at63
turn_runs_on_differs = apart (λ o. o.state.held.turn) _ _ refl

-- Idle keeps the turn
abbrev pub idle_keeps_turn : State → Outcome
idle_keeps_turn s = when_idle (λ r. turned r s.held.turn) (pick_rule s)

-- nothing waits after 62: the turn is 0, and it says 63
pub idle_keeps_turn_differs : idle_keeps_turn after62 ≡ pick_rule after62 → ⊥
unfolding after62
idle_keeps_turn_differs = apart (λ o. o.state.held.turn) _ _ refl

-- an arrival moves the turn
abbrev pub arrival_takes_turn : State → ℕ → ℕ → ℕ → Outcome
arrival_takes_turn s f n handle = when_done (λ r. turned r f) (arrival_rule s f n handle)

pub arrival_takes_turn_differs : arrival_takes_turn after8 0 100 7 ≡ arrival_rule after8 0 100 7 → ⊥
unfolding after8
arrival_takes_turn_differs = apart (λ o. o.state.held.turn) _ _ refl
