-- The calls of document 01's examples, "Two flows, q = 500, largest 100", and the states that they lead to.
-- The rows are made of the calls; the wrong schedulers are told from the rules at the states.
-- Handles are 7 at flow 0 and 8 at flow 1, as in document 01's script.
-- Assumes nothing.
use Rattle.std.specs.Prelude.{List, [], ◌∷◌, ◌++◌, ℕ, replicate}
use Rattle.uplink.specs.State.{State}
use Rattle.uplink.specs.Calls.{Call, opening, arrival, pick, start}
use Rattle.rows.specs.Script.{run}

-- a list of two
abbrev pub pair : ℕ → ℕ → List ℕ
pair a b = a ∷ b ∷ []

-- "Two flows, q = 500, largest 100", with this header
abbrev pub opened_with : ℕ → List Call
opened_with header = opening (pair 500 500) (pair 100 100) header ∷ []

-- "The script opens with 0 for it .. and the examples here are read so."
abbrev pub opened : List Call
opened = opened_with 0

-- "100 bytes at flows 0 and 1"
abbrev pub one_each : List Call
one_each = arrival 0 100 7 ∷ arrival 1 100 8 ∷ []

-- "four packets of 100 at flow 0 alone"
abbrev pub four_alone : List Call
four_alone = replicate 4 (arrival 0 100 7)

-- n picks
abbrev pub picks : ℕ → List Call
picks n = replicate n pick

-- as P1 leaves it and P2 finds it: both flows wait, and both clocks are 0
unfoldable pub both_wait : State
unfolding run
both_wait = run start (opened ++ one_each)

-- as P3 finds it: flow 0's packet is picked, flow 1 waits, both clocks are 72,000
unfoldable pub flow1_waits : State
unfolding run
flow1_waits = run start (opened ++ one_each ++ picks 1)

-- as P4 finds it: nothing waits, both clocks and both tags are 144,000
unfoldable pub none_waits : State
unfolding run
none_waits = run start (opened ++ one_each ++ picks 2)

-- as P5 finds it: T is equal to clock + 2Δ
unfoldable pub at_equality : State
unfolding run
at_equality = run start (opened ++ four_alone ++ picks 2)

-- as P6 finds it: T is greater than clock + 2Δ
unfoldable pub before_leap : State
unfolding run
before_leap = run start (opened ++ four_alone ++ picks 3)

-- as P6 leaves it: nothing waits, flow 0's tag is 576,000, the clock is 432,000
unfoldable pub after_leap : State
unfolding run
after_leap = run start (opened ++ four_alone ++ picks 4)

-- both flows wait, and flow 1, with a packet of 50 bytes, has the smaller tag
unfoldable pub flow1_leads : State
unfolding run
flow1_leads = run start (opened ++ (arrival 0 100 7 ∷ arrival 1 50 8 ∷ []))
