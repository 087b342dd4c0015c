-- What each way through an arrival's queue side gives.
-- Assumes nothing.
use Rattle.std.proofs.Common.{◌≡◌, ℕ, ◌<◌, ◌≤◌, Bool, true, false, ◌||◌, ltb, [], refl, ltb-false, ltb-true, le-ltb, lt-ltb, le-leb}
use borrow.Author.Tests.{lt-leb}
use Rattle.below.specs.Truth.{true_false}
use Rattle.cost.specs.Cost.{within, within_of}
use Rattle.reply.specs.Reply.{done, refused}
use Rattle.queues.specs.Places.{join_reply}

outside : (n most : ℕ) → (ltb n 1 || ltb most n) ≡ true → within 1 most n ≡ false
outside n most e = go (ltb n 1) refl
  where
    go : (b : Bool) → ltb n 1 ≡ b → within 1 most n ≡ false
    go true t = rw (lt-leb 1 n (ltb-true n 1 t))
    go false t = rw (le-leb 1 n (ltb-false n 1 t), lt-leb n most (ltb-true most n (rw t at e)))

inside : (n most : ℕ) → (ltb n 1 || ltb most n) ≡ false → within 1 most n ≡ true
inside n most e = go (ltb n 1) refl
  where
    go : (b : Bool) → ltb n 1 ≡ b → within 1 most n ≡ true
    go true t = true_false (rw t at e)
    go false t = within_of 1 most n (ltb-false n 1 t) (ltb-false most n (rw t at e))

-- 7, 8, 9, and none of them
module _ (flows f n largest waiting : ℕ) where
  pub no_flow_lem : flows ≤ f → refused 7 0 ≡ join_reply flows f n largest waiting
  unfolding join_reply
  no_flow_lem h = rw (le-ltb f flows h)

  module _ (known : f < flows) (most : ℕ) (same : most ≡ largest) where
    pub bad_length : (ltb n 1 || ltb most n) ≡ true → refused 8 0 ≡ join_reply flows f n largest waiting
    unfolding join_reply
    bad_length h = rw (lt-ltb f flows known, ← same, outside n most h)

    module _ (fits : (ltb n 1 || ltb most n) ≡ false) (wait : ℕ) (held : wait ≡ waiting) where
      pub full : 64 ≤ wait → refused 9 0 ≡ join_reply flows f n largest waiting
      unfolding join_reply
      full h = rw (lt-ltb f flows known, ← same, inside n most fits, ← held, le-ltb wait 64 h)

      pub taken : wait < 64 → done [] ≡ join_reply flows f n largest waiting
      unfolding join_reply
      taken h = rw (lt-ltb f flows known, ← same, inside n most fits, ← held, lt-ltb wait 64 h)

-- what each way through refusals 7, 8 and 9 gives
pub ruleset joining = (no_flow_lem, bad_length, full, taken)
