-- Words and record undo each other: a tag of 64 bits is told by its word and a record that fits by its block; any word
-- of 64 bits is that of the tag that it tells, and any 133 such words are the block of the record that they tell.
-- Assumes nothing.
use Rattle.std.specs.Prelude.{◌≡◌, refl, Bool, true, false, List, [], ◌∷◌, ◌++◌, ℕ, ◌+◌, ◌-◌, ◌^◌, ◌<◌, ltb, ℤ, pos, negsuc, length, get_or, drop}
use Rattle.std.proofs.Common.{sym, ap, ◌∙◌, arith, length-append, take-append-drop, ext_get_or, drop-cons, length-take-le, get_or-take, get_or-drop, take_at, lt-ltb, le-ltb}
use Rattle.std.proofs.Math.Seq.{drop-length}
use Rattle.std.proofs.lemmas.List.{get_or_at}
use Rattle.std.specs.Int.Signed.{mag}
use Rattle.below.specs.Listed.{listed_here, length_listed}
use Rattle.queues.specs.Laws.{field_length}
use Rattle.uplink.specs.declared.Record as forward
use Rattle.backward.specs.Record.{tag_of}
use Rattle.backward.specs.declared.Record.{Record}
use Rattle.gateway.specs.Image.{part, words_of, record_of}
use Rattle.gateway.specs.Images.{Fits, words_length, tags_long, words_of_record, record_of_words}
use Rattle.sidegate.specs.Image.{signed_of, word_of, signed_all, words_all, unsigned, plain_words, plain_of}

-- the word of the tag that a word tells
pub word_signed : (word : ℕ) → word < 2 ^ 64 → word_of (signed_of word) ≡ word
word_signed word h = go (ltb word (2 ^ 63)) refl
  where
    go : (b : Bool) → ltb word (2 ^ 63) ≡ b → word_of (signed_of word) ≡ word
    go true e = rw e
    go false e = rw e (omega (arith, h))

-- the tag that the word of a tag tells
pub signed_word : (tag : ℤ) → mag tag < 2 ^ 63 → signed_of (word_of tag) ≡ tag
signed_word (pos a) h = rw (lt-ltb a (2 ^ 63) h)
signed_word (negsuc a) h = rw (le-ltb (2 ^ 64 - 1 - a) (2 ^ 63) (omega (arith, h))) (ap negsuc (omega (arith, h)))

-- 64 words are those of the tags that they tell
tags_of_words : (words : List ℕ) → length words ≡ 64 → ((f : ℕ) → f < 64 → get_or words f 0 < 2 ^ 64)
    → words_all (signed_all words) ≡ words
tags_of_words words long small = ext_get_or 0 (words_all (signed_all words)) words (length_listed _ 0 64 ∙ sym long) λ f l.
    let h : f < 64 = rw length_listed at l in
    listed_here (λ k. word_of (get_or (signed_all words) k (pos 0))) 64 f 0 h
    ∙ ap word_of (listed_here (λ k. signed_of (get_or words k 0)) 64 f (pos 0) h)
    ∙ word_signed (get_or words f 0) (small f h)

module _ (words : List ℕ) (long : length words ≡ 133) (small : (k : ℕ) → get_or words k 0 < 2 ^ 64) where
  abbrev first : List ℕ
  first = part words 0 132

  first_long : length first ≡ 132
  first_long = length-take-le 132 (drop 0 words) (omega (arith, long))

  -- the tags of a block are words of 64 bits
  tag_small : (f : ℕ) → f < 64 → get_or (part first 3 64) f 0 < 2 ^ 64
  tag_small f h =
      rw (
        get_or-take 64 (drop 3 first) f 0 h,
        get_or-drop 3 first f 0,
        get_or-take 132 (drop 0 words) (3 + f) 0 (omega arith),
      )
      (small (3 + f))

  -- the last word, behind the first engine's
  last : first ++ get_or words 132 0 ∷ [] ≡ words
  last =
      let none : drop 133 words ≡ [] = ap (λ n. drop n words) (sym long) ∙ drop-length words in
      ap (λ rest. first ++ get_or words 132 0 ∷ rest) (sym none)
      ∙ ap (λ rest. first ++ rest) (sym (drop-cons words 132 0 (omega (arith, long))))
      ∙ take-append-drop 132 words

  -- any 133 words of 64 bits are the block of the record that they tell
  pub words_of_plain : plain_words (plain_of words) ≡ words
  unfolding plain_words plain_of record_of
  words_of_plain =
      rw (tags_of_words (part first 3 64) (tags_long first first_long) tag_small)
      (rw (words_of_record first first_long) last)

-- And back.

-- the block of the first engine has 132 words
first_length : (r : forward.Record) → length (words_of r) ≡ 132
unfolding words_of
first_length r = simp (length-append, field_length, words_length)

-- 64 tags of 64 bits are told by their words
words_of_tags : (tags : List ℤ) → length tags ≡ 64 → ((f : ℕ) → f < 64 → mag (get_or tags f (pos 0)) < 2 ^ 63)
    → signed_all (words_all tags) ≡ tags
words_of_tags tags long small =
    ext_get_or (pos 0) (signed_all (words_all tags)) tags (length_listed _ 0 64 ∙ sym long) λ f l.
    let h : f < 64 = rw length_listed at l in
    listed_here (λ k. signed_of (get_or (words_all tags) k 0)) 64 f (pos 0) h
    ∙ ap signed_of (listed_here (λ k. word_of (get_or tags k (pos 0))) 64 f 0 h)
    ∙ signed_word (get_or tags f (pos 0)) (small f h)

-- a record whose fields fit their types is the record of its block
pub plain_of_words : (r : Record) → Fits (unsigned r) → length r.tags.0 ≡ 64
    → ((f : ℕ) → f < 64 → mag (tag_of r f) < 2 ^ 63) → plain_of (plain_words r) ≡ r
unfolding plain_of plain_words
plain_of_words r F long small =
    let first = words_of (unsigned r) in
    rw (
      take_at first (r.sum.0 ∷ []) 132 (first_length (unsigned r)),
      get_or_at first r.sum.0 [] 0 132 (first_length (unsigned r)),
      record_of_words (unsigned r) F,
      words_of_tags r.tags.0 long small,
    )
