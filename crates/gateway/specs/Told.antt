-- What the caller is told of a call, for any engine: an outcome by its parts, and what a refusal leaves.
-- Assumes nothing.
use Rattle.std.specs.Prelude.{◌≡◌, Bool, true, false, cond, List, [], ℕ, Result, Ok, Err}
use Rattle.std.proofs.Math.Path.{refl}
use Rattle.reply.specs.Reply.{Reply, idle, done, refused, refusal, reply_number, done_reply}
use Rattle.reply.specs.Replies as replies
use Rattle.reply.specs.State.{StateOf, OutcomeOf, outcome}
use Rattle.reply.specs.declared.Refusal.{Refusal}
use Rattle.gateway.specs.Gateway.{Lent, Answered, lending, answered, number_of, values_or, told, held_by}

-- a refusal's number is the one that the caller is told
pub number_told : (why : Refusal) → reply_number (refusal why) ≡ number_of (refusal why)
number_told why = rw (replies.told why).says

-- and it leaves the words of the reply
pub values_kept : (why : Refusal) (words : List ℕ) → words ≡ values_or (refusal why) words
values_kept why words = rw (replies.told why).says

-- an opening and an arrival have no words of a reply
pub wordless : (reply : Result (Unit {0}) Refusal) → [] ≡ values_or (done_reply reply) []
wordless (Ok _) = refl
wordless (Err why) = values_kept why []

-- the answer of a refusal: neither done nor idle
abbrev pub Refused : Answered → Type 0
Refused a = (a.answer ≡ 0 → ⊥) × (a.answer ≡ 100 → ⊥)

-- a call that is refused by a test leaves all as it came, where it does so past the test
pub same_else : (test : Bool) (number : ℕ) (lent : Lent) (on : Answered)
    → (test ≡ true → Refused on → on.left ≡ lent)
    → Refused (cond test on (answered number lent)) → (cond test on (answered number lent)).left ≡ lent
same_else true number lent on k r = k refl r
same_else false number lent on k r = refl

module _ {R : Type 0} (words : R → List ℕ) where
  -- an outcome as it is told to the caller, its answer, the block and the words of the reply by equations
  pub outcome_told : (tell : Reply → ℕ) (lent : Lent) (reply : Reply) (next : R) (lengths handles : List ℕ)
      (o : OutcomeOf R) → outcome reply next lengths handles ≡ o → (answer : ℕ) (block reply' : List ℕ)
      → answer ≡ tell reply → block ≡ words next → reply' ≡ values_or reply lent.reply
      → answered answer (lending block lengths handles reply') ≡ told words tell o lent
  unfolding told
  outcome_told tell lent reply next lengths handles o e answer block reply' a b w = rw (← e, a, b, w)

  -- a refusal that leaves the record as it came leaves all that is lent, where the record's words are the block
  pub same_told : (read : List ℕ → R) (lent : Lent) (reply : Reply) (s : StateOf R)
      → words (read lent.block) ≡ lent.block
      → ((number flow : ℕ) → reply ≡ refused number flow → s ≡ held_by read lent)
      → Refused (told words number_of record { reply = reply; state = s } lent)
      → (told words number_of record { reply = reply; state = s } lent).left ≡ lent
  unfolding told
  same_told read lent idle s h k r = absurd (r.1 refl)
  same_told read lent (done values) s h k r = absurd (r.0 refl)
  same_told read lent (refused number flow) s h k r = rw (k number flow refl, h)
