-- A tag and its word, as std's casts have them.
-- Assumes nothing.
use Rattle.std.specs.Prelude.{◌≡◌, refl, Bool, true, false, ℕ, ◌^◌, ltb, ℤ, pos, negsuc}
use Rattle.std.proofs.Common.{ap, arith}
use Rattle.std.specs.Int.{w64, cast_signed, cast_unsigned}
use Rattle.sidegate.specs.Image.{signed_of, word_of}

-- the number that a word is in two's complement
pub signed_cast : (word : ℕ) → cast_signed w64 word ≡ signed_of word
signed_cast word = go (ltb word (2 ^ 63)) refl
  where
    go : (b : Bool) → ltb word (2 ^ 63) ≡ b → cast_signed w64 word ≡ signed_of word
    go true e = rw e
    go false e = rw e (ap negsuc (omega arith))

-- and the word of a number
pub word_cast : (tag : ℤ) → cast_unsigned w64 tag ≡ word_of tag
word_cast (pos a) = refl
word_cast (negsuc a) = omega arith
