-- Words and record undo each other: a record whose fields fit their types is told by its 132 words, and any 132 words
-- are those of the record that they tell.
-- Assumes nothing.
use Rattle.std.specs.Prelude.{◌≡◌, refl, List, [], ◌∷◌, ◌++◌, ℕ, zero, suc, ◌+◌, ◌*◌, ◌/◌, ◌%◌, ◌^◌, ◌≤◌, ◌<◌, length, drop}
use Rattle.std.proofs.Common.{sym, ap, ◌∙◌, zero-add, length-drop, take-append-drop, ext_get_or, get_or-drop, drop-cons, drop-drop, length-take-le, take_at, drop_at}
use native.Mathlib.Omega.{arith}
use Rattle.std.proofs.Math.ListN.{get_or}
use Rattle.std.proofs.Math.Seq.{drop-length}
use Rattle.below.specs.Listed.{listed_at, length_listed}
use Rattle.queues.specs.Opening.{field64}
use Rattle.queues.specs.Laws.{field_at, field_length}
use Rattle.uplink.specs.Record.{Rows}
use Rattle.uplink.specs.declared.Record.{Record}
use Rattle.gateway.specs.Image.{four_at, field_words, quarter, field_in, head_word, part, words_of, record_of}

-- ---- one field

pub words_length : (field : List ℕ) → length (field_words field) ≡ 16
unfolding field_words
words_length field = length_listed (four_at field) 0 16

pub in_length_lem : (words : List ℕ) → length (field_in words) ≡ 64
unfolding field_in
in_length_lem words = length_listed _ 0 64

pub field_word : (field : List ℕ) (k : ℕ) → k < 16 → get_or (field_words field) k 0 ≡ four_at field k
unfolding field_words
field_word field k h = listed_at (four_at field) 0 16 k 0 h ∙ rw zero-add

pub entry_at : (words : List ℕ) (f : ℕ) → f < 64 → get_or (field_in words) f 0 ≡ quarter (get_or words (f / 4) 0) (f % 4)
unfolding field_in
entry_at words f h = listed_at (λ k. quarter (get_or words (k / 4) 0) (k % 4)) 0 64 f 0 h ∙ rw zero-add

-- the four entries of word k
pub entry : (words : List ℕ) (k j : ℕ) → k < 16 → j < 4
    → get_or (field_in words) (4 * k + j) 0 ≡ quarter (get_or words k 0) j
entry words k j h l =
    let a : (4 * k + j) / 4 ≡ k = omega arith in
    let b : (4 * k + j) % 4 ≡ j = omega arith in
    entry_at words (4 * k + j) (omega arith) ∙ rw (a, b)

-- any 16 words are those of the field that they tell
pub words_of_field : (words : List ℕ) → length words ≡ 16 → field_words (field_in words) ≡ words
words_of_field words h = ext_get_or 0 (field_words (field_in words)) words (words_length (field_in words) ∙ sym h) λ k l.
    let m : k < 16 = rw words_length at l in
    let z : 4 * k ≡ 4 * k + 0 = omega arith in
    let first = ap (λ n. get_or (field_in words) n 0) z ∙ entry words k 0 m (omega arith) in
    field_word (field_in words) k m
    ∙ omega (
      arith,
      first,
      entry words k 1 m (omega arith),
      entry words k 2 m (omega arith),
      entry words k 3 m (omega arith),
    )

-- ---- the block

pub field_same : (l : List ℕ) → length l ≡ 64 → field64 l ≡ l
field_same l h = ext_get_or 0 (field64 l) l (field_length l ∙ sym h) λ f k. field_at l f (rw field_length at k)

part_length : (words : List ℕ) (a n : ℕ) → a + n ≤ length words → length (part words a n) ≡ n
part_length words a n h = length-take-le n (drop a words) (rw length-drop (omega arith))

-- a part and what is behind it
part_on : (words : List ℕ) (a n e : ℕ) → a + n ≡ e → part words a n ++ drop e words ≡ drop a words
part_on words a n e h = rw (← h, ← drop-drop n a words) (take-append-drop n (drop a words))

module _ (words : List ℕ) (h : length words ≡ 132) where
  -- the tags of a block are 64
  pub tags_long : length (part words 3 64) ≡ 64
  tags_long = part_length words 3 64 (omega (arith, h))

  -- the parts of a block, one after the other
  parts : get_or words 0 0 ∷ get_or words 1 0 ∷ get_or words 2 0
      ∷ (part words 3 64 ++ (part words 67 16 ++ (part words 83 16 ++ (part words 99 16 ++ (part words 115 16
      ++ get_or words 131 0 ∷ [])))))
      ≡ words
  parts =
      let none : drop 132 words ≡ [] = ap (λ n. drop n words) (sym h) ∙ drop-length words in
      let last : get_or words 131 0 ∷ [] ≡ drop 131 words
      = ap (λ rest. get_or words 131 0 ∷ rest) (sym none) ∙ sym (drop-cons words 131 0 (omega (arith, h))) in
      rw (
        last,
        part_on words 115 16 131 refl,
        part_on words 99 16 115 refl,
        part_on words 83 16 99 refl,
        part_on words 67 16 83 refl,
        part_on words 3 64 67 refl,
        ← drop-cons words 2 0 (omega (arith, h)),
        ← drop-cons words 1 0 (omega (arith, h)),
        ← drop-cons words 0 0 (omega (arith, h)),
      )

  -- any 132 words are the block of the record that they tell
  pub words_of_record : words_of (record_of words) ≡ words
  unfolding words_of record_of
  words_of_record =
      let n = get_or words 0 0 in
      let head : n % 2 ^ 16 + 2 ^ 16 * (n / 2 ^ 16 % 2 ^ 16) + 2 ^ 32 * (n / 2 ^ 32) ≡ n = omega arith in
      rw (
        head,
        field_same (part words 3 64) tags_long,
        words_of_field (part words 67 16) (part_length words 67 16 (omega (arith, h))),
        words_of_field (part words 83 16) (part_length words 83 16 (omega (arith, h))),
        words_of_field (part words 99 16) (part_length words 99 16 (omega (arith, h))),
        words_of_field (part words 115 16) (part_length words 115 16 (omega (arith, h))),
      )
      parts

  -- a record that was read has its 64 rows
  pub rows_read : Rows (record_of words)
  unfolding record_of
  rows_read =
      record {
        tags = tags_long;
        queues =
            record { share = in_length_lem _; largest = in_length_lem _; first = in_length_lem _; waiting = in_length_lem _ };
      }

-- ---- and back

-- the fields of a record fit their types, and it has its 64 rows
pub record Fits (r : Record) : Type 0 where
  pub flows : r.flows < 2 ^ 16
  pub header : r.header < 2 ^ 16
  pub width : r.width < 2 ^ 32
  pub rows : Rows r
  pub share : (f : ℕ) → get_or r.queues.share f 0 < 2 ^ 16
  pub largest : (f : ℕ) → get_or r.queues.largest f 0 < 2 ^ 16
  pub first : (f : ℕ) → get_or r.queues.first f 0 < 2 ^ 16
  pub waiting : (f : ℕ) → get_or r.queues.waiting f 0 < 2 ^ 16

-- the quarters of four numbers of 16 bits
quarters : (field : List ℕ) → ((f : ℕ) → get_or field f 0 < 2 ^ 16) → (k j : ℕ) → j < 4
    → quarter (four_at field k) j ≡ get_or field (4 * k + j) 0
quarters field h k zero l =
    let z : 4 * k ≡ 4 * k + 0 = omega arith in
    rw (← z) (omega (arith, h (4 * k)))
quarters field h k (suc zero) l = omega (arith, h (4 * k), h (4 * k + 1))
quarters field h k (suc (suc zero)) l = omega (arith, h (4 * k), h (4 * k + 1), h (4 * k + 2))
quarters field h k (suc (suc (suc zero))) l = omega (arith, h (4 * k), h (4 * k + 1), h (4 * k + 2), h (4 * k + 3))
quarters field h k (suc (suc (suc (suc j)))) l = absurd (omega arith)

-- a field that fits is told by its words
field_of_words : (field : List ℕ) → length field ≡ 64 → ((f : ℕ) → get_or field f 0 < 2 ^ 16)
    → field_in (field_words field) ≡ field
field_of_words field long h = ext_get_or 0 (field_in (field_words field)) field (in_length_lem _ ∙ sym long) λ f l.
    let m : f < 64 = rw in_length_lem at l in
    let whole : 4 * (f / 4) + f % 4 ≡ f = omega arith in
    entry_at (field_words field) f m
    ∙ ap (λ word. quarter word (f % 4)) (field_word field (f / 4) (omega arith))
    ∙ quarters field h (f / 4) (f % 4) (omega arith)
    ∙ ap (λ n. get_or field n 0) whole

-- what is behind two lists, where what is behind the first is known
drop_on : (l p q : List ℕ) (a n e : ℕ) → drop a l ≡ p ++ q → length p ≡ n → a + n ≡ e → drop e l ≡ q
drop_on l p q a n e d h k = rw (← k, ← drop-drop n a l, d) (drop_at p q n h)

-- a record that fits is the record of its block
pub record_of_words : (r : Record) → Fits r → record_of (words_of r) ≡ r
unfolding record_of words_of
record_of_words r F =
    let tags = field64 r.tags.0 in
    let share = field_words r.queues.share in
    let largest = field_words r.queues.largest in
    let first = field_words r.queues.first in
    let waiting = field_words r.queues.waiting in
    let turn = r.turn ∷ [] in
    let fields = share ++ (largest ++ (first ++ (waiting ++ turn))) in
    let rest = tags ++ fields in
    let behind_tags = drop_at tags fields 64 (field_length r.tags.0) in
    let behind_share = drop_on rest share _ 64 16 80 behind_tags (words_length _) refl in
    let behind_largest = drop_on rest largest _ 80 16 96 behind_share (words_length _) refl in
    let behind_first = drop_on rest first _ 96 16 112 behind_largest (words_length _) refl in
    let behind_waiting = drop_on rest waiting _ 112 16 128 behind_first (words_length _) refl in
    let last : get_or rest 128 0 ≡ r.turn = sym (get_or-drop 128 rest 0 0) ∙ ap (λ l. get_or l 0 0) behind_waiting in
    let low : head_word r % 2 ^ 16 ≡ r.flows = omega (arith, F.flows) in
    let above : head_word r / 2 ^ 16 ≡ r.header + 2 ^ 16 * r.width = omega (arith, F.flows) in
    let middle : head_word r / 2 ^ 16 % 2 ^ 16 ≡ r.header = rw above (omega (arith, F.header)) in
    let high : head_word r / 2 ^ 32 ≡ r.width = omega (arith, F.flows, F.header) in
    rw (
      low,
      middle,
      high,
      behind_tags,
      behind_share,
      behind_largest,
      behind_first,
      last,
      take_at tags fields 64 (field_length r.tags.0),
      take_at share (largest ++ (first ++ (waiting ++ turn))) 16 (words_length _),
      take_at largest (first ++ (waiting ++ turn)) 16 (words_length _),
      take_at first (waiting ++ turn) 16 (words_length _),
      take_at waiting turn 16 (words_length _),
      field_same r.tags.0 F.rows.tags,
      field_of_words r.queues.share F.rows.queues.share F.share,
      field_of_words r.queues.largest F.rows.queues.largest F.largest,
      field_of_words r.queues.first F.rows.queues.first F.first,
      field_of_words r.queues.waiting F.rows.queues.waiting F.waiting,
    )
