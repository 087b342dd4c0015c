-- What the two calls of include/card.h answer, and what they leave in all that is lent: reader and writer of the crate
-- `card`, over the content that the caller's words are. 101 where these are not 157.
-- Assumes nothing.
use Rattle.std.specs.Prelude.{cond, List, ℕ, Result, Ok, Err, eqb, length}
use Rattle.card.specs.declared.Block.{Block}
use Rattle.card.specs.declared.Refusal.{Refusal}
use Rattle.card.specs.Card.{refusal_number, Written, written, write_rule, read_rule}
use Rattle.cardgate.specs.declared.CallRefusal.{CallRefusal}
use Rattle.cardgate.specs.declared.CallRefusal.TheVariants.{Content, Card}
use Rattle.cardgate.specs.Content.{content_words, content_in, content_fit}

-- the number of a refusal: document 02 d)'s, and 101 where the content has not 157 words
abbrev pub call_number : CallRefusal → ℕ
call_number Content = 101
call_number (Card refusal) = refusal_number refusal

-- what is answered in one number: that of the refusal, and 0 where there is none
abbrev pub call_answer : {A : Type 0} → Result A CallRefusal → ℕ
call_answer (Ok found) = 0
call_answer (Err refusal) = call_number refusal

-- the content of these words into any bytes: 12 also for a word that does not fit its field, and 1 before it
unfoldable pub card_write : List ℕ → List ℕ → Written
card_write content bytes =
    cond (eqb (length content) 157)
    (cond (eqb (length bytes) 512)
    (cond (content_fit content)
    (write_rule (content_in content) bytes)
    (written 12 bytes))
    (written 1 bytes))
    (written 101 bytes)

-- what a reading answers, and every word of what it was lent
pub record Told : Type 0 where
  pub answer : ℕ
  pub content : List ℕ

abbrev pub told : ℕ → List ℕ → Told
told answer content = record { answer = answer; content = content }

-- the words of the content that was found; "nothing is written on any" refusal
abbrev pub tell_content : Result Block Refusal → List ℕ → Told
tell_content (Ok block) content = told 0 (content_words block)
tell_content (Err refusal) content = told (refusal_number refusal) content

-- any bytes into the caller's words
unfoldable pub card_read : List ℕ → List ℕ → Told
card_read bytes content = cond (eqb (length content) 157) (tell_content (read_rule bytes) content) (told 101 content)
