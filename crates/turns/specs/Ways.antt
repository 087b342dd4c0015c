-- The turn through the ways that a call may go, said once for both engines: their rules are put together alike, from
-- refusals, an opening's two records, and a pick that serves who leads.
-- Assumes nothing.
use Rattle.std.specs.Prelude.{◌≡◌, refl, Bool, true, false, cond, List, ◌∷◌, ℕ, ◌≤◌, ◌<◌}
use Rattle.std.proofs.Common.{sym, ◌∙◌}
use Rattle.reply.specs.Reply.{Reply, idle, done, refused}
use Rattle.reply.specs.Replies.{refused_done, idle_done}
use Rattle.reply.specs.State.{StateOf, OutcomeOf, kept, demand, unless_refused, opened_by}
use Rattle.queues.specs.Places.{lent}
use Rattle.queues.specs.Checked.{checked_by}
use Rattle.tags.specs.Choice.{lead_by, turn_after}
use Rattle.tags.specs.Chosen.{leads}
use Rattle.tags.specs.Choice.{Lead}
use Rattle.turns.specs.Fair.{Engine, Picked}

-- the turn after an opening: the new record's or the blank one's
pub opening_turn : {R : Type 0} (engine : Engine R) (reply : Reply) (new blank : R) (lengths handles : List ℕ)
    → engine.turn new ≡ 0 → engine.turn blank ≡ 0
    → engine.turn (opened_by reply new blank lengths handles).state.held ≡ 0
opening_turn engine (done values) new blank lengths handles n b = n
opening_turn engine (refused number f) new blank lengths handles n b = b
opening_turn engine idle new blank lengths handles n b = b

module _ {R : Type 0} (engine : Engine R) (s : StateOf R) where
  -- and an arrival: as it was, where it is refused and where the packet is stored
  pub arrival_turn : (formed : Bool) (reply : Reply) (stored : OutcomeOf R)
      → engine.turn stored.state.held ≡ engine.turn s.held
      → engine.turn (checked_by formed s (unless_refused reply s stored)).state.held ≡ engine.turn s.held
  arrival_turn formed reply stored same = go (lent s.lengths s.handles) formed reply
    where
      go : (lends formed : Bool) (reply : Reply)
          → engine.turn (demand lends 1 s (demand formed 2 s (unless_refused reply s stored))).state.held
          ≡ engine.turn s.held
      go false formed reply = refl
      go true false reply = refl
      go true true idle = same
      go true true (done values) = same
      go true true (refused number f) = refl

  -- who leads among the flows of a record
  abbrev lead_in : R → Lead
  lead_in r = lead_by (engine.turn r) (engine.tag r) (engine.waiting r) (engine.flows r)

  -- a pick goes by the turn where it serves who leads, with the turn one past it, and an Idle makes the turn 0
  pub pick_picked : (formed soon : Bool) (served : ℕ → OutcomeOf R) (idled : OutcomeOf R) (rest : ℕ → List ℕ)
      → (formed ≡ true → (engine.turn s.held < 64) × (engine.flows s.held ≤ 64))
      → ((f : ℕ) → (served f).reply ≡ done (f ∷ rest f))
      → ((f : ℕ) → engine.turn (served f).state.held ≡ turn_after f)
      → idled.reply ≡ idle → engine.turn idled.state.held ≡ 0
      → let lead = lead_in s.held in
      Picked engine s (checked_by formed s (cond lead.waits (demand soon 10 s (served lead.flow)) idled))
  pick_picked formed soon served idled rest few tells turns still resets =
      go (lent s.lengths s.handles) formed refl (lead_in s.held).waits refl soon
    where
      f : ℕ
      f = (lead_in s.held).flow

      refuses : (number : ℕ) → Picked engine s (kept number s)
      refuses number = record { moves = λ last t. t; first = λ g other e. refused_done e }

      go : (lends b : Bool) → formed ≡ b → (waits : Bool) → (lead_in s.held).waits ≡ waits → (soon : Bool)
          → Picked engine s (demand lends 1 s (demand b 2 s (cond waits (demand soon 10 s (served f)) idled)))
      go false b p waits q soon = refuses 1
      go true false p waits q soon = refuses 2
      go true true p true q false = refuses 10
      go true true p true q true =
          record {
            moves = λ last t. rw (tells f) (turns f);
            first = λ g other e. let told = tells f in
                let same : f ≡ g = cc in
                rw (← same) ((leads _ _ _ (engine.flows s.held)).first (few p).0 (few p).1 q, (few p).1);
          }
      go true true p false q soon =
          record { moves = λ last t. rw still resets; first = λ g other e. idle_done (sym still ∙ e) }
