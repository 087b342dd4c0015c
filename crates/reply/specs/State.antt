-- What a call is given and what it gives back: a record, each engine its own, the two memories, and the reply.
-- Assumes nothing.
use Rattle.std.specs.Prelude.{◌≡◌, refl, Bool, cond, List, ℕ, replicate}
use Rattle.std.proofs.Common.{ap, ap₂}
use Rattle.reply.specs.Reply.{Reply, idle, done, refused}

-- the record and every place of both memories
pub record StateOf (R : Type 0) : Type 0 where
  pub held : R
  pub lengths : List ℕ
  pub handles : List ℕ

-- the reply, the next record and every place of both memories
pub record OutcomeOf (R : Type 0) : Type 0 where
  pub reply : Reply
  pub state : StateOf R

abbrev pub state : {R : Type 0} → R → List ℕ → List ℕ → StateOf R
state r lengths handles = record { held = r; lengths = lengths; handles = handles }

abbrev pub outcome : {R : Type 0} → Reply → R → List ℕ → List ℕ → OutcomeOf R
outcome reply r lengths handles = record { reply = reply; state = state r lengths handles }

-- "A refusal returns the record as given .. and changes no place of either memory."
abbrev pub kept : {R : Type 0} → ℕ → StateOf R → OutcomeOf R
kept number s = record { reply = refused number 0; state = s }

-- the call goes on where the test holds, and is refused with the number where it does not
abbrev pub demand : {R : Type 0} → Bool → ℕ → StateOf R → OutcomeOf R → OutcomeOf R
demand test number s on = cond test on (kept number s)

-- the call goes on where nothing is refused
abbrev pub unless_refused : {R : Type 0} → Reply → StateOf R → OutcomeOf R → OutcomeOf R
unless_refused idle s on = on
unless_refused (done values) s on = on
unless_refused (refused number flow) s on = record { reply = refused number flow; state = s }

-- an opening, by its reply: the new record, and it "sets all 4,096 places of both memories to 0"; a refusal gives the
-- blank record and changes no place
abbrev pub opened_by : {R : Type 0} → Reply → R → R → List ℕ → List ℕ → OutcomeOf R
opened_by (done values) new blank lengths handles = outcome (done values) new (replicate 4096 0) (replicate 4096 0)
opened_by (refused number flow) new blank lengths handles = outcome (refused number flow) blank lengths handles
opened_by idle new blank lengths handles = outcome idle blank lengths handles

-- an opening gives the reply that it is made by
pub opened_reply : {R : Type 0} (reply : Reply) (new blank : R) (lengths handles : List ℕ)
    → (opened_by reply new blank lengths handles).reply ≡ reply
opened_reply idle new blank lengths handles = refl
opened_reply (done values) new blank lengths handles = refl
opened_reply (refused number flow) new blank lengths handles = refl

-- an outcome in the paper's numbers tells the answer, the record and both memories
pub outcome_one : {R A B : Type 0} (give : A → Reply) (made : R → A → B) → ((a b : A) → give a ≡ give b → a ≡ b)
    → (a b : A) (r q : R) (lengths handles lengths' handles' : List ℕ)
    → outcome (give a) r lengths handles ≡ outcome (give b) q lengths' handles'
    → (made r a ≡ made q b) × (lengths ≡ lengths') × (handles ≡ handles')
outcome_one {R} give made same a b r q lengths handles lengths' handles' e = (
  ap₂ made (ap (λ (o : OutcomeOf R). o.state.held) e) (same a b (ap (λ (o : OutcomeOf R). o.reply) e)),
  ap (λ (o : OutcomeOf R). o.state.lengths) e,
  ap (λ (o : OutcomeOf R). o.state.handles) e,
)
