-- Document 02 e): "On equal tags the lowest number wins, and the crew of flow 9 noticed." By the turn the flow picked
-- last loses every tie: it is picked again only where every other flow that waits has a larger tag. Here that is said
-- of any engine's runs, and proved of an engine that goes by the turn.
-- Assumes nothing.
use Rattle.std.specs.Prelude.{◌≡◌, List, [], ◌∷◌, ℕ, ◌≤◌, ◌<◌}
use Rattle.std.proofs.Common.{ap, ◌∙◌, arith}
use Rattle.std.proofs.Math.Decide.{ℕ_discrete}
use Rattle.reply.specs.Reply.{Reply, idle, done, refused}
use Rattle.reply.specs.State.{StateOf, OutcomeOf}
use Rattle.tags.specs.Choice.{First, turn_after}
use Rattle.tags.specs.Chosen.{last_farthest}
use Rattle.uplink.specs.Calls.{Call, opening, arrival, pick}

-- the flow picked last; nobody after an opening, after an Idle and before the first pick
pub data Last : Type 0 where
  nobody : Last
  flow : ℕ → Last

-- the flow picked last after a pick, by its reply: a refusal leaves it
abbrev pub last_picked : Last → Reply → Last
last_picked last idle = nobody
last_picked last (done []) = last
last_picked last (done (f ∷ rest)) = flow f
last_picked last (refused number f) = last

-- and after any call: an opening, accepted or not, begins anew; an arrival leaves it
abbrev pub last_after : Last → Call → Reply → Last
last_after last (opening shares largest header) reply = nobody
last_after last (arrival f length handle) reply = last
last_after last pick reply = last_picked last reply

-- "one past the last flow picked, 63 to 0, and 0 after an opening or Idle"
abbrev pub turn_of : Last → ℕ
turn_of nobody = 0
turn_of (flow f) = turn_after f

-- flow f has the smallest tag alone: every other of the first n flows that waits has a larger one
abbrev pub Alone : (ℕ → ℕ) → (ℕ → ℕ) → ℕ → ℕ → Type 0
Alone tag waiting n f = (g : ℕ) → g < n → 0 < waiting g → (g ≡ f → ⊥) → tag f < tag g

-- an engine: what a call gives, and of its record the number of flows, their tags and numbers waiting, and the turn
pub record Engine (R : Type 0) : Type 0 where
  pub after : StateOf R → Call → OutcomeOf R
  pub flows : R → ℕ
  pub tag : R → ℕ → ℕ
  pub waiting : R → ℕ → ℕ
  pub turn : R → ℕ

module _ {R : Type 0} (engine : Engine R) where
  -- the two things that are said of a flow of a record
  abbrev pub AloneIn : R → ℕ → Type 0
  AloneIn r = Alone (engine.tag r) (engine.waiting r) (engine.flows r)

  abbrev pub FirstIn : R → ℕ → Type 0
  FirstIn r f = First (engine.turn r) (engine.tag r) (engine.waiting r) (engine.flows r) f × (engine.flows r ≤ 64)

  -- the flow picked last loses every tie of a run: a pick that tells it again finds it alone
  abbrev pub LosesTies : Last → StateOf R → List Call → Type 0
  LosesTies last s [] = Unit {0}
  LosesTies last s (call ∷ calls) =
      let o = engine.after s call in
      (call ≡ pick → (f : ℕ) (rest : List ℕ) → last ≡ flow f → o.reply ≡ done (f ∷ rest) → AloneIn s.held f)
      × LosesTies (last_after last call o.reply) o.state calls

  -- the replies of a run, the state at its end, and the flow picked last then
  abbrev pub replies_of : StateOf R → List Call → List Reply
  replies_of s [] = []
  replies_of s (call ∷ calls) = let o = engine.after s call in o.reply ∷ replies_of o.state calls

  abbrev pub end_of : StateOf R → List Call → StateOf R
  end_of s [] = s
  end_of s (call ∷ calls) = end_of (engine.after s call).state calls

  abbrev pub last_of : Last → StateOf R → List Call → Last
  last_of last s [] = last
  last_of last s (call ∷ calls) =
      let o = engine.after s call in last_of (last_after last call o.reply) o.state calls

  -- what a pick gives by the turn: this goes on with the flow picked last, and the flow told is the first from it on
  pub record Picked (s : StateOf R) (o : OutcomeOf R) : Type 0 where
    pub moves : (last : Last) → engine.turn s.held ≡ turn_of last
        → engine.turn o.state.held ≡ turn_of (last_picked last o.reply)
    pub first : (f : ℕ) (rest : List ℕ) → o.reply ≡ done (f ∷ rest) → FirstIn s.held f

  -- an engine that goes by the turn
  pub record ByTurn : Type 0 where
    pub opens : (s : StateOf R) (shares largest : List ℕ) (header : ℕ)
        → engine.turn (engine.after s (opening shares largest header)).state.held ≡ 0
    pub arrives : (s : StateOf R) (f length handle : ℕ)
        → engine.turn (engine.after s (arrival f length handle)).state.held ≡ engine.turn s.held
    pub picks : (s : StateOf R) → Picked s (engine.after s pick)

-- fair among equals, of an engine and the state before its first call
pub record Fair {R : Type 0} (engine : Engine R) (start : StateOf R) : Type 0 where
  -- the flow that a pick tells, on any record and memories: of the waiting flows of smallest tag it is the first at or
  -- after the turn, counting round
  pub tells : (s : StateOf R) (f : ℕ) (rest : List ℕ) → (engine.after s pick).reply ≡ done (f ∷ rest)
      → FirstIn engine s.held f
  -- in every run the flow picked last loses every tie,
  pub loses : (calls : List Call) → LosesTies engine nobody start calls
  -- also from any state whose turn is one past the flow picked last
  pub loses_from : (last : Last) (s : StateOf R) (calls : List Call) → engine.turn s.held ≡ turn_of last
      → LosesTies engine last s calls
  -- "The record gains the turn ..: one past the last flow picked, 63 to 0, and 0 after an opening or Idle", in every
  -- run
  pub turns : (calls : List Call)
      → engine.turn (end_of engine start calls).held ≡ turn_of (last_of engine nobody start calls)

-- the first from the turn on has the smallest tag alone where it is the flow picked last
last_alone : (tag waiting : ℕ → ℕ) (n f : ℕ) → n ≤ 64 → First (turn_after f) tag waiting n f → Alone tag waiting n f
last_alone tag waiting n f few F g l w other = elim (ℕ_discrete (tag g) (tag f)) as (λ _. tag f < tag g) [
  | yes same ↦ absurd (omega (
    arith,
    F.nearest g l w same,
    last_farthest f g (omega (arith, F.smallest.counts)) (omega arith) other,
  ))
  | no differ ↦ omega (arith, F.smallest.least g l w)
]

module _ {R : Type 0} (engine : Engine R) (B : ByTurn engine) where
  -- the turn after a call
  turn_after_lem : (last : Last) (s : StateOf R) (call : Call) → engine.turn s.held ≡ turn_of last
      → engine.turn (engine.after s call).state.held ≡ turn_of (last_after last call (engine.after s call).reply)
  turn_after_lem last s (opening shares largest header) t = B.opens s shares largest header
  turn_after_lem last s (arrival f length handle) t = B.arrives s f length handle ∙ t
  turn_after_lem last s pick t = (B.picks s).moves last t

  -- and after all of them
  turn_is_lem : (last : Last) (s : StateOf R) (calls : List Call) → engine.turn s.held ≡ turn_of last
      → engine.turn (end_of engine s calls).held ≡ turn_of (last_of engine last s calls)
  turn_is_lem last s [] t = t
  turn_is_lem last s (call ∷ calls) t =
      turn_is_lem (last_after last call (engine.after s call).reply) (engine.after s call).state calls
      (turn_after_lem last s call t)

  -- the flow picked last loses every tie, in every run
  loses_ties : (last : Last) (s : StateOf R) (calls : List Call) → engine.turn s.held ≡ turn_of last
      → LosesTies engine last s calls
  loses_ties last s [] t = tt
  loses_ties last s (call ∷ calls) t = (
    here call,
    loses_ties (last_after last call (engine.after s call).reply) (engine.after s call).state calls
        (turn_after_lem last s call t),
  )
    where
      here : (c : Call) → c ≡ pick → (f : ℕ) (rest : List ℕ) → last ≡ flow f
          → (engine.after s c).reply ≡ done (f ∷ rest) → AloneIn engine s.held f
      here c is f rest l told =
          let F = (B.picks s).first f rest (rw is at told) in
          last_alone (engine.tag s.held) (engine.waiting s.held) (engine.flows s.held) f F.1
          (rw (t ∙ ap turn_of l) at F.0)

  -- so an engine that goes by the turn is fair, from a turn of 0 on
  pub by_turn_fair : (start : StateOf R) → engine.turn start.held ≡ 0 → Fair engine start
  by_turn_fair start zero =
      record {
        tells = λ s. (B.picks s).first;
        loses = λ calls. loses_ties nobody start calls zero;
        loses_from = loses_ties;
        turns = λ calls. turn_is_lem nobody start calls zero;
      }
