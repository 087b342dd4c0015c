-- What each way through an exported call gives, as its definition has it.
-- Assumes nothing.
use mathlib.Core.Path.{◌≡◌, refl, sym, ap, ◌∙◌}
use mathlib.Core.List.{List, []}
use Prim.Native.Nat.{ℕ, ◌%◌}
use Rattle.std.specs.Array.{IsWholeChunk}
use Rattle.std.specs.Prelude.{Result, Ok, Err, Option}
use lib.ListN.{length}
use borrow.Author.Tests.{eq-eqb, ne_eqb}
use borrow.Rule.Slice.PartMut.{put_mid}
use Rattle.reply.specs.Reply.{Reply, idle, done, refused, refusal, reply_number, done_reply}
use Rattle.reply.specs.Replies.{told, idle_done, idle_refused}
use Rattle.reply.specs.declared.Refusal.{Refusal}
use Rattle.queues.specs.Opening.{field64}
use Rattle.uplink.specs.PickReply.{pick_reply}
use Rattle.reply.specs.State.{state, outcome}
use Rattle.uplink.specs.Opening.{opening_rule}
use Rattle.uplink.specs.Arrival.{arrival_rule}
use Rattle.uplink.specs.Pick.{pick_rule}
use Rattle.uplink.specs.declared.Packet.{Packet}
use Rattle.uplink.specs.declared.Record.{Record}
use Rattle.gateway.specs.Image.{words_of, record_of}
use Rattle.gateway.specs.Images.{words_of_record, rows_read}
use Rattle.gateway.specs.Depth.{depth_reply}
use Rattle.gateway.specs.Gateway.{lending, answered, number_of, with_flow, values_or}
use Rattle.gateway.specs.Gateway.{gateway_opening, gateway_arrival, gateway_pick, gateway_depth}
use Rattle.gateway.specs.Told.{number_told, values_kept, wordless, outcome_told}
use Rattle.gateway.specs.Step.{step_words, flow_in, picked_words}
use Rattle.gateway.proofs.Stepping.{step_whole, step_rested}
use Rattle.gateway.proofs.Following.{Follows, arrival_follows, pick_follows}

-- what an outcome leaves in a block of 132 words
module _ (block lengths handles : List ℕ) (h : length block ≡ 132) (at : Reply → ℕ) (reply : Reply) (next : Record)
    (lengths' handles' : List ℕ)
    (F : Follows (state (record_of block) lengths handles) at (outcome reply next lengths' handles')) where
  -- the block of the next record
  block_busy : (reply ≡ idle → ⊥) → step_words block next (at reply) ≡ words_of next
  block_busy busy = step_whole block next (at reply) h F.kept (F.tags busy)

  -- idle: the same, with the tags written
  block_idle : (tags : List ℕ) → tags ≡ field64 next.tags.0
      → put_mid 3 64 (step_words block next (at reply)) tags ≡ words_of next
  block_idle tags t = step_rested block tags next (at reply) h F.kept t

-- an opening and an arrival are never idle
done_busy : (reply : Result (Unit {0}) Refusal) → done_reply reply ≡ idle → ⊥
done_busy (Ok _) e = idle_done (sym e)
done_busy (Err why) e = idle_refused (sym e ∙ (told why).says)

-- an opening of a block of another size, and one that goes on; the check of `uplink_opening` finds both by the
-- definition alone, and another crate has them here
module _ (shares largest : List ℕ) (header : ℕ) (block lengths handles : List ℕ) where
  pub opening_unblocked : (length block ≡ 132 → ⊥)
      → answered 101 (lending block lengths handles [])
      ≡ gateway_opening shares largest header (lending block lengths handles [])
  unfolding gateway_opening
  opening_unblocked h = rw (ne_eqb (length block) 132 h)

  pub opening_told : (block' lengths' handles' : List ℕ) (reply : Result (Unit {0}) Refusal) (next : Record) (answer : ℕ)
      (words : List ℕ) → IsWholeChunk block words 132
      → outcome (done_reply reply) next lengths' handles' ≡ opening_rule shares largest header lengths handles
      → block' ≡ words_of next → answer ≡ with_flow (done_reply reply)
      → answered answer (lending block' lengths' handles' [])
      ≡ gateway_opening shares largest header (lending block lengths handles [])
  unfolding gateway_opening
  opening_told block' lengths' handles' reply next answer words W e b a = rw (eq-eqb (length block) 132 W.long)
      (outcome_told words_of with_flow (lending block lengths handles []) (done_reply reply) next lengths' handles' _
      e answer block' [] a b (wordless reply))

-- an arrival at a block of another size, and one that goes on
module _ (flow bytes handle : ℕ) (block lengths handles : List ℕ) where
  pub arrival_unblocked : (length block ≡ 132 → ⊥)
      → answered 101 (lending block lengths handles [])
      ≡ gateway_arrival flow bytes handle (lending block lengths handles [])
  unfolding gateway_arrival
  arrival_unblocked h = rw (ne_eqb (length block) 132 h)

  pub arrival_told : (block' lengths' handles' : List ℕ) (reply : Result (Unit {0}) Refusal) (held next : Record)
      (answer : ℕ) (words : List ℕ) → IsWholeChunk block words 132 → held ≡ record_of words
      → outcome (done_reply reply) next lengths' handles' ≡ arrival_rule (state held lengths handles) flow bytes handle
      → block' ≡ step_words words next (flow % 64) → answer ≡ number_of (done_reply reply)
      → answered answer (lending block' lengths' handles' [])
      ≡ gateway_arrival flow bytes handle (lending block lengths handles [])
  unfolding gateway_arrival
  arrival_told block' lengths' handles' reply held next answer words W r' e b' a =
      let h = W.long in
      let r : held ≡ record_of block = r' ∙ ap record_of W.same in
      let b : block' ≡ step_words block next (flow % 64) = b' ∙ ap (λ l. step_words l next (flow % 64)) W.same in
      let follows : Follows (state (record_of block) lengths handles) (λ _. flow % 64)
      (outcome (done_reply reply) next lengths' handles')
      = rw (e, r) (arrival_follows (state (record_of block) lengths handles) (rows_read block h) flow bytes handle) in
      rw (eq-eqb (length block) 132 h, ← r)
      (outcome_told words_of number_of (lending block lengths handles []) (done_reply reply) next lengths' handles' _
      e answer block' [] a
      (b ∙ block_busy block lengths handles h (λ _. flow % 64) (done_reply reply) next lengths' handles' follows
      (done_busy reply)) (wordless reply))

-- the block that a pick leaves, by its reply
picked_whole : (block lengths handles : List ℕ) → length block ≡ 132 → (reply : Reply) (next : Record)
    (lengths' handles' : List ℕ)
    → Follows (state (record_of block) lengths handles) flow_in (outcome reply next lengths' handles')
    → picked_words block next reply ≡ words_of next
picked_whole block lengths handles h idle next lengths' handles' F =
    block_idle block lengths handles h flow_in idle next lengths' handles' F _ refl
picked_whole block lengths handles h (done values) next lengths' handles' F =
    block_busy block lengths handles h flow_in (done values) next lengths' handles' F (λ e. idle_done (sym e))
picked_whole block lengths handles h (refused number flow) next lengths' handles' F =
    block_busy block lengths handles h flow_in (refused number flow) next lengths' handles' F (λ e. idle_refused (sym e))

-- a pick with a block or a reply of another size, and one that goes on
module _ (block lengths handles reply : List ℕ) where
  pub pick_unblocked : (length block ≡ 132 → ⊥)
      → answered 101 (lending block lengths handles reply) ≡ gateway_pick (lending block lengths handles reply)
  unfolding gateway_pick
  pick_unblocked h = rw (ne_eqb (length block) 132 h)

  pub pick_unreplied : length block ≡ 132 → (length reply ≡ 6 → ⊥)
      → answered 102 (lending block lengths handles reply) ≡ gateway_pick (lending block lengths handles reply)
  unfolding gateway_pick
  pick_unreplied h k = rw (eq-eqb (length block) 132 h, ne_eqb (length reply) 6 k)

  pub pick_told : (block' lengths' handles' reply' : List ℕ) (picked : Result (Option Packet) Refusal)
      (held next : Record) (answer : ℕ) (words six : List ℕ) → IsWholeChunk block words 132 → IsWholeChunk reply six 6
      → held ≡ record_of words
      → outcome (pick_reply picked) next lengths' handles' ≡ pick_rule (state held lengths handles)
      → block' ≡ picked_words words next (pick_reply picked)
      → (answer ≡ number_of (pick_reply picked)) × (reply' ≡ values_or (pick_reply picked) six)
      → answered answer (lending block' lengths' handles' reply') ≡ gateway_pick (lending block lengths handles reply)
  unfolding gateway_pick
  pick_told block' lengths' handles' reply' picked held next answer words six W S r' e b' a =
      let h = W.long in
      let r : held ≡ record_of block = r' ∙ ap record_of W.same in
      let b : block' ≡ picked_words block next (pick_reply picked)
      = b' ∙ ap (λ l. picked_words l next (pick_reply picked)) W.same in
      let follows : Follows (state (record_of block) lengths handles) flow_in
      (outcome (pick_reply picked) next lengths' handles')
      = rw (e, r) (pick_follows (state (record_of block) lengths handles) (rows_read block h)) in
      rw (eq-eqb (length block) 132 h, eq-eqb (length reply) 6 S.long, ← r)
      (outcome_told words_of number_of (lending block lengths handles reply) (pick_reply picked) next lengths' handles'
      _ e answer block' reply' a.0
      (b ∙ picked_whole block lengths handles h (pick_reply picked) next lengths' handles' follows)
      (a.1 ∙ ap (values_or (pick_reply picked)) S.same))

module _ (flow : ℕ) (block reply : List ℕ) where
  pub depth_unblocked : (length block ≡ 132 → ⊥)
      → answered 101 (lending block [] [] reply) ≡ gateway_depth flow (lending block [] [] reply)
  unfolding gateway_depth
  depth_unblocked h = rw (ne_eqb (length block) 132 h)

  pub depth_unreplied : length block ≡ 132 → (length reply ≡ 4 → ⊥)
      → answered 102 (lending block [] [] reply) ≡ gateway_depth flow (lending block [] [] reply)
  unfolding gateway_depth
  depth_unreplied h k = rw (eq-eqb (length block) 132 h, ne_eqb (length reply) 4 k)

  module _ (words four : List ℕ) (W : IsWholeChunk block words 132) (S : IsWholeChunk reply four 4) where
    depth_told : (number : ℕ) (reply' : List ℕ) (given : Reply) → given ≡ depth_reply (record_of words) flow
        → number ≡ number_of given → reply' ≡ values_or given reply
        → answered number (lending block [] [] reply') ≡ gateway_depth flow (lending block [] [] reply)
    unfolding gateway_depth
    depth_told number reply' given e n w = rw (eq-eqb (length block) 132 W.long, eq-eqb (length reply) 4 S.long)
        (outcome_told words_of number_of (lending block [] [] reply) given (record_of block) [] [] _
        (ap (λ a. outcome a (record_of block) [] []) (rw W.same at e)) number block reply' n
        (sym (words_of_record block W.long)) w)

    pub depth_done : (depth : List ℕ) → done depth ≡ depth_reply (record_of words) flow
        → answered 0 (lending block [] [] depth) ≡ gateway_depth flow (lending block [] [] reply)
    depth_done depth e = depth_told 0 depth (done depth) e refl refl

    pub depth_refused : (number : ℕ) (why : Refusal) → number ≡ reply_number (refusal why)
        → refusal why ≡ depth_reply (record_of words) flow
        → answered number (lending block [] [] four) ≡ gateway_depth flow (lending block [] [] reply)
    depth_refused number why n e =
        depth_told number four (refusal why) e (n ∙ number_told why) (S.same ∙ values_kept why reply)
