-- What a refused call leaves: "nothing is written on any" refusal, neither of document 02 d)'s nor of the library's
-- own.
-- Assumes nothing.
use mathlib.Core.Path.{◌≡◌, refl}
use mathlib.Core.Bool.{Bool, true, false, cond}
use mathlib.Core.List.{List}
use Prim.Native.Nat.{ℕ}
use lib.Dec.{eqb}
use lib.ListN.{length}
use Rattle.std.proofs.Common.{Result, Ok, Err}
use Rattle.card.specs.declared.Block.{Block}
use Rattle.card.specs.declared.Refusal.{Refusal}
use Rattle.card.specs.Block.{block_bytes, block_legal}
use Rattle.card.specs.Card.{Written, written, write_rule, read_rule}
use Rattle.cardgate.specs.Content.{content_in, content_fit}
use Rattle.cardgate.specs.Calls.{card_write, Told, told, tell_content, card_read}

-- a writing that is refused, by this test or past it, leaves the bytes as they came
same_bytes : (test : Bool) (number : ℕ) (bytes : List ℕ) (on : Written)
    → ((on.answer ≡ 0 → ⊥) → on.bytes ≡ bytes)
    → ((cond test on (written number bytes)).answer ≡ 0 → ⊥) → (cond test on (written number bytes)).bytes ≡ bytes
same_bytes true number bytes on k r = k r
same_bytes false number bytes on k r = refl

pub refused_write : (content bytes : List ℕ) → ((card_write content bytes).answer ≡ 0 → ⊥)
    → (card_write content bytes).bytes ≡ bytes
unfolding card_write write_rule
refused_write content bytes =
    let b = content_in content in
    same_bytes (eqb (length content) 157) 101 bytes _
    (same_bytes (eqb (length bytes) 512) 1 bytes _
    (same_bytes (content_fit content) 12 bytes _
    (same_bytes (eqb (length bytes) 512) 1 bytes _
    (same_bytes (block_legal b) 12 bytes (written 0 (block_bytes b)) (λ n. absurd (n refl))))))

-- and a reading the words
same_words : (test : Bool) (number : ℕ) (content : List ℕ) (on : Told)
    → ((on.answer ≡ 0 → ⊥) → on.content ≡ content)
    → ((cond test on (told number content)).answer ≡ 0 → ⊥) → (cond test on (told number content)).content ≡ content
same_words true number content on k r = k r
same_words false number content on k r = refl

-- what is told of an outcome: the words change only where it is accepted
same_told : (outcome : Result Block Refusal) (content : List ℕ) → ((tell_content outcome content).answer ≡ 0 → ⊥)
    → (tell_content outcome content).content ≡ content
same_told (Ok block) content n = absurd (n refl)
same_told (Err refusal) content n = refl

pub refused_read : (bytes content : List ℕ) → ((card_read bytes content).answer ≡ 0 → ⊥)
    → (card_read bytes content).content ≡ content
unfolding card_read
refused_read bytes content =
    same_words (eqb (length content) 157) 101 content (tell_content (read_rule bytes) content)
    (same_told (read_rule bytes) content)
