-- What each way through an exported call gives, as its definition has it.
-- Assumes nothing.
use mathlib.Core.Path.{◌≡◌, ap, ◌∙◌}
use mathlib.Core.List.{List, []}
use Prim.Native.Nat.{ℕ}
use Rattle.std.specs.Array.{IsWholeChunk}
use Rattle.std.specs.Prelude.{Result, Option}
use lib.ListN.{length}
use borrow.Author.Tests.{eq-eqb, ne_eqb}
use Rattle.reply.specs.Reply.{done_reply}
use Rattle.reply.specs.State.{state, outcome}
use Rattle.reply.specs.declared.Refusal.{Refusal}
use Rattle.uplink.specs.PickReply.{pick_reply}
use Rattle.uplink.specs.declared.Packet.{Packet}
use Rattle.backward.specs.Opening.{opening_rule}
use Rattle.backward.specs.Arrival.{arrival_rule}
use Rattle.backward.specs.Pick.{pick_rule}
use Rattle.backward.specs.declared.Record.{Record}
use Rattle.gateway.specs.Gateway.{lending, answered, number_of, with_flow, values_or}
use Rattle.gateway.specs.Told.{wordless, outcome_told}
use Rattle.sidegate.specs.Image.{plain_words, plain_of}
use Rattle.sidegate.specs.Plain.{plain_opening, plain_arrival, plain_pick}

-- an opening of a block of another size, and one that goes on
module _ (shares largest : List ℕ) (header : ℕ) (block lengths handles : List ℕ) where
  pub opening_unblocked : (length block ≡ 133 → ⊥)
      → answered 101 (lending block lengths handles [])
      ≡ plain_opening shares largest header (lending block lengths handles [])
  unfolding plain_opening
  opening_unblocked h = rw (ne_eqb (length block) 133 h)

  pub opening_told : (block' lengths' handles' : List ℕ) (reply : Result (Unit {0}) Refusal) (next : Record) (answer : ℕ)
      (words : List ℕ) → IsWholeChunk block words 133
      → outcome (done_reply reply) next lengths' handles' ≡ opening_rule shares largest header lengths handles
      → block' ≡ plain_words next → answer ≡ with_flow (done_reply reply)
      → answered answer (lending block' lengths' handles' [])
      ≡ plain_opening shares largest header (lending block lengths handles [])
  unfolding plain_opening
  opening_told block' lengths' handles' reply next answer words W e b a = rw (eq-eqb (length block) 133 W.long)
      (outcome_told plain_words with_flow (lending block lengths handles []) (done_reply reply) next lengths' handles' _
      e answer block' [] a b (wordless reply))

-- an arrival at a block of another size, and one that goes on
module _ (flow bytes handle : ℕ) (block lengths handles : List ℕ) where
  pub arrival_unblocked : (length block ≡ 133 → ⊥)
      → answered 101 (lending block lengths handles [])
      ≡ plain_arrival flow bytes handle (lending block lengths handles [])
  unfolding plain_arrival
  arrival_unblocked h = rw (ne_eqb (length block) 133 h)

  pub arrival_told : (block' lengths' handles' : List ℕ) (reply : Result (Unit {0}) Refusal) (held next : Record) (answer : ℕ)
      (words : List ℕ) → IsWholeChunk block words 133 → held ≡ plain_of words
      → outcome (done_reply reply) next lengths' handles' ≡ arrival_rule (state held lengths handles) flow bytes handle
      → block' ≡ plain_words next → answer ≡ number_of (done_reply reply)
      → answered answer (lending block' lengths' handles' [])
      ≡ plain_arrival flow bytes handle (lending block lengths handles [])
  unfolding plain_arrival
  arrival_told block' lengths' handles' reply held next answer words W r e b a =
      rw (eq-eqb (length block) 133 W.long, ← r ∙ ap plain_of W.same)
      (outcome_told plain_words number_of (lending block lengths handles []) (done_reply reply) next lengths' handles' _
      e answer block' [] a b (wordless reply))

-- a pick with a block or a reply of another size, and one that goes on
module _ (block lengths handles reply : List ℕ) where
  pub pick_unblocked : (length block ≡ 133 → ⊥)
      → answered 101 (lending block lengths handles reply) ≡ plain_pick (lending block lengths handles reply)
  unfolding plain_pick
  pick_unblocked h = rw (ne_eqb (length block) 133 h)

  pub pick_unreplied : length block ≡ 133 → (length reply ≡ 6 → ⊥)
      → answered 102 (lending block lengths handles reply) ≡ plain_pick (lending block lengths handles reply)
  unfolding plain_pick
  pick_unreplied h k = rw (eq-eqb (length block) 133 h, ne_eqb (length reply) 6 k)

  pub pick_told : (block' lengths' handles' reply' : List ℕ) (picked : Result (Option Packet) Refusal) (held next : Record) (answer : ℕ)
      (words six : List ℕ) → IsWholeChunk block words 133 → IsWholeChunk reply six 6 → held ≡ plain_of words
      → outcome (pick_reply picked) next lengths' handles' ≡ pick_rule (state held lengths handles)
      → block' ≡ plain_words next
      → (answer ≡ number_of (pick_reply picked)) × (reply' ≡ values_or (pick_reply picked) six)
      → answered answer (lending block' lengths' handles' reply') ≡ plain_pick (lending block lengths handles reply)
  unfolding plain_pick
  pick_told block' lengths' handles' reply' picked held next answer words six W S r e b a =
      rw (eq-eqb (length block) 133 W.long, eq-eqb (length reply) 6 S.long, ← r ∙ ap plain_of W.same)
      (outcome_told plain_words number_of (lending block lengths handles reply) (pick_reply picked) next lengths' handles'
      _ e answer block' reply' a.0 b (a.1 ∙ ap (values_or (pick_reply picked)) S.same))
