-- Refusals 1 and 2, with which every call on a record begins, and what is past them. What the form of the record is,
-- each engine says.
-- Assumes nothing.
use Rattle.std.specs.Prelude.{◌≡◌, refl, ℕ, Bool, true, false, not, cond, List, [], length, ◌==◌}
use Rattle.std.proofs.Common.{sym, ◌∙◌, eqb-true}
use Rattle.std.proofs.lemmas.Bool.{not-true, not-false}
use Rattle.below.specs.Truth.{both_true}
use borrow.Author.Tests.{eq-eqb, ne_eqb}
use Rattle.reply.specs.Reply.{Reply, done, refused}
use Rattle.reply.specs.Replies.{refused_done}
use Rattle.reply.specs.State.{StateOf, OutcomeOf, state, outcome, demand, unless_refused}
use Rattle.queues.specs.Places.{lent}

-- 1, then 2 where the record is not well formed; then the call goes on
abbrev pub checked_by : {R : Type 0} → Bool → StateOf R → OutcomeOf R → OutcomeOf R
checked_by formed s on = demand (lent s.lengths s.handles) 1 s (demand formed 2 s on)

-- past 1 the reply alone: 2, then this reply
abbrev pub formed_reply : Bool → Reply → Reply
formed_reply formed reply = cond formed reply (refused 2 0)

-- where nothing is refused the record is well formed
pub formed_done : (formed : Bool) (reply : Reply) → formed_reply formed reply ≡ done [] → (formed ≡ true) × (reply ≡ done [])
formed_done true reply e = (refl, e)
formed_done false reply e = refused_done e

-- the call goes on where that reply refuses nothing
unless_formed : {R : Type 0} (formed : Bool) (s : StateOf R) (reply : Reply) (on : OutcomeOf R)
    → unless_refused (formed_reply formed reply) s on ≡ demand formed 2 s (unless_refused reply s on)
unless_formed true s reply on = refl
unless_formed false s reply on = refl

-- a call by what its steps find: the number of places in each memory, then whether the record is well formed
module _ {R : Type 0} (r : R) (formed : Bool) (lengths handles : List ℕ) where
  -- 1
  pub lengths_unlent : (on : OutcomeOf R) → (length lengths ≡ 4096 → ⊥)
      → outcome (refused 1 0) r lengths handles ≡ checked_by formed (state r lengths handles) on
  lengths_unlent on h = rw (ne_eqb (length lengths) 4096 h)

  module _ (first : length lengths ≡ 4096) where
    pub handles_unlent : (on : OutcomeOf R) → (length handles ≡ 4096 → ⊥)
        → outcome (refused 1 0) r lengths handles ≡ checked_by formed (state r lengths handles) on
    handles_unlent on h = rw (eq-eqb (length lengths) 4096 first, ne_eqb (length handles) 4096 h)

    module _ (second : length handles ≡ 4096) where
      -- past 1
      pub checked_lent : (on : OutcomeOf R)
          → demand formed 2 (state r lengths handles) on ≡ checked_by formed (state r lengths handles) on
      checked_lent on = rw (eq-eqb (length lengths) 4096 first, eq-eqb (length handles) 4096 second)

      -- past 1, by the reply
      pub checked_reply : (reply : Reply) (on : OutcomeOf R)
          → unless_refused (formed_reply formed reply) (state r lengths handles) on
          ≡ checked_by formed (state r lengths handles) (unless_refused reply (state r lengths handles) on)
      checked_reply reply on = unless_formed formed (state r lengths handles) reply on ∙ checked_lent _

      module _ (b : Bool) (e : b ≡ formed) (on : OutcomeOf R) where
        -- 2
        pub refused_unformed : b ≡ false
            → outcome (refused 2 0) r lengths handles ≡ checked_by formed (state r lengths handles) on
        refused_unformed h =
            rw (eq-eqb (length lengths) 4096 first, eq-eqb (length handles) 4096 second, ← e, h)

        -- the call goes on
        pub goes_on : b ≡ true → on ≡ checked_by formed (state r lengths handles) on
        goes_on h =
            rw (eq-eqb (length lengths) 4096 first, eq-eqb (length handles) 4096 second, ← e, h)

-- the same by what a test of both memories and then one of the form found
-- memories that are lent have 4,096 places each
pub both_lent : (lengths handles : List ℕ) (a : Bool) → a ≡ lent lengths handles → not a ≡ false
    → (length lengths ≡ 4096) × (length handles ≡ 4096)
both_lent lengths handles a e h =
    let b = both_true (length lengths == 4096) (length handles == 4096) (sym e ∙ not-false a h) in
    (eqb-true (length lengths) 4096 b.0, eqb-true (length handles) 4096 b.1)

module _ {R : Type 0} (r : R) (formed : Bool) (lengths handles : List ℕ) (on : OutcomeOf R) (a : Bool)
    (l : a ≡ lent lengths handles) where
  pub checked_unlent : not a ≡ true
      → outcome (refused 1 0) r lengths handles ≡ checked_by formed (state r lengths handles) on
  checked_unlent h = rw (← l, not-true a h)

  module _ (lends : not a ≡ false) (b : Bool) (e : b ≡ formed) where
    pub checked_unformed : not b ≡ true
        → outcome (refused 2 0) r lengths handles ≡ checked_by formed (state r lengths handles) on
    checked_unformed h = rw (← l, not-false a lends, ← e, not-true b h)

    pub checked_on : (o : OutcomeOf R) → not b ≡ false → o ≡ on → o ≡ checked_by formed (state r lengths handles) on
    checked_on o h q = rw (← l, not-false a lends, ← e, not-false b h) q
