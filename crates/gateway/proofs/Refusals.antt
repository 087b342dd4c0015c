-- What a refused call leaves in all that is lent: "A refusal returns the record as given (opening: the blank record)
-- and changes no place of either memory."
-- Assumes nothing.
use mathlib.Core.Path.{◌≡◌, refl}
use mathlib.Core.List.{List}
use Prim.Native.Nat.{ℕ}
use lib.Dec.{eqb}
use lib.ListN.{length, replicate}
use borrow.Author.Tests.{eq-eqb, eqb-true}
use Rattle.below.specs.Listed.{listed}
use Rattle.reply.specs.Reply.{Reply, idle, done, refused}
use Rattle.reply.specs.State.{opened_by, opened_reply}
use Rattle.queues.specs.Opening.{field64, lists_reply}
use Rattle.uplink.specs.Record.{blank}
use Rattle.uplink.specs.Opening.{new_record, opening_rule}
use Rattle.uplink.specs.Arrival.{arrival_rule}
use Rattle.uplink.specs.Pick.{pick_rule}
use Rattle.gateway.specs.Image.{field_words, words_of, record_of}
use Rattle.gateway.specs.Images.{words_of_record, rows_read}
use Rattle.gateway.specs.Depth.{depth_rule}
use Rattle.gateway.specs.Gateway.{Lent, lending, with_flow, told, held}
use Rattle.gateway.specs.Gateway.{gateway_opening, gateway_arrival, gateway_pick, gateway_depth}
use Rattle.gateway.specs.Told.{Refused, same_else, same_told}
use Rattle.gateway.proofs.Following.{arrival_follows, pick_follows}

-- the blank record's words are all 0
pub blank_words : words_of blank ≡ replicate 132 0
unfolding words_of field_words field64 listed
blank_words = refl

-- what an opening leaves by its reply, where that is not done
opened_blank : (shares largest : List ℕ) (header : ℕ) (lent : Lent) (reply : Reply) → (with_flow reply ≡ 0 → ⊥)
    → let o = opened_by reply (new_record shares largest header) blank lent.lengths lent.handles in
    (told words_of with_flow o lent).left
    ≡ lending (replicate 132 0) lent.lengths lent.handles lent.reply
unfolding told
opened_blank shares largest header lent idle n = rw blank_words
opened_blank shares largest header lent (done values) n = absurd (n refl)
opened_blank shares largest header lent (refused number flow) n = rw blank_words

-- an opening of a block of 132 words that is not done leaves 132 words of 0, and the rest as it came
pub refused_opening : (shares largest : List ℕ) (header : ℕ) (lent : Lent) → length lent.block ≡ 132
    → ((gateway_opening shares largest header lent).answer ≡ 0 → ⊥)
    → (gateway_opening shares largest header lent).left
    ≡ lending (replicate 132 0) lent.lengths lent.handles lent.reply
unfolding gateway_opening opening_rule told
refused_opening shares largest header lent h n =
    let reply = lists_reply shares largest header lent.lengths lent.handles in
    let block = eq-eqb (length lent.block) 132 h in
    rw block (opened_blank shares largest header lent reply
    (rw (block, opened_reply reply (new_record shares largest header) blank lent.lengths lent.handles) at n))

-- a refused arrival, pick or depth changes no word of anything that is lent
module _ (lent : Lent) where
  pub refused_arrival : (flow bytes handle : ℕ) → Refused (gateway_arrival flow bytes handle lent)
      → (gateway_arrival flow bytes handle lent).left ≡ lent
  unfolding gateway_arrival
  refused_arrival flow bytes handle = same_else (eqb (length lent.block) 132) 101 lent _ λ e.
      let h = eqb-true (length lent.block) 132 e in
      let o = arrival_rule (held lent) flow bytes handle in
      same_told words_of record_of lent o.reply o.state (words_of_record lent.block h)
      (arrival_follows (held lent) (rows_read lent.block h) flow bytes handle).same

  pub refused_pick : Refused (gateway_pick lent) → (gateway_pick lent).left ≡ lent
  unfolding gateway_pick
  refused_pick = same_else (eqb (length lent.block) 132) 101 lent _ λ e.
      same_else (eqb (length lent.reply) 6) 102 lent _ λ _.
      let h = eqb-true (length lent.block) 132 e in
      let o = pick_rule (held lent) in
      same_told words_of record_of lent o.reply o.state (words_of_record lent.block h)
      (pick_follows (held lent) (rows_read lent.block h)).same

  pub refused_depth : (flow : ℕ) → Refused (gateway_depth flow lent) → (gateway_depth flow lent).left ≡ lent
  unfolding gateway_depth
  refused_depth flow = same_else (eqb (length lent.block) 132) 101 lent _ λ e.
      same_else (eqb (length lent.reply) 4) 102 lent _ λ _.
      same_told words_of record_of lent (depth_rule (held lent) flow).reply (held lent)
      (words_of_record lent.block (eqb-true (length lent.block) 132 e)) (λ _ _ _. refl)
