-- How a block and a reply are read and written, word by word.
-- Assumes nothing.
use mathlib.Core.Path.{◌≡◌, refl, sym, ap, ◌∙◌}
use mathlib.Core.Bool.{and-false}
use mathlib.Core.Logic.{◌⊎◌, inl, inr}
use borrow.Author.Tests.{lt-ltb, le-ltb}
use mathlib.Core.List.{List, [], ◌∷◌, ◌++◌, append_assoc}
use Prim.Native.Nat.{ℕ, zero, suc, ◌+◌, ◌*◌, ◌/◌, ◌%◌, ◌^◌, ◌≤◌, ◌<◌}
use native.Mathlib.Omega.{arith}
use lib.ListN.{length, get_or, set, drop, replicate}
use lib.Seq.{drop-cons, drop-length, get_or-take, get_or-drop}
use borrow.Rule.Slice.PartMut.{put_mid}
use Rattle.std.proofs.lemmas.List.{set-append_right}
use Rattle.below.specs.Copied.{Copied, copied_more}
use Rattle.below.specs.Filled.{Filled, filled_more}
use Rattle.reply.specs.Reply.{Reply, idle, done, refused}
use Rattle.queues.specs.Queues.{queues_of}
use Rattle.queues.specs.Opening.{field64}
use Rattle.tags.specs.Ticks.{ticks}
use Rattle.uplink.specs.Record.{link_time, tags_of}
use Rattle.uplink.specs.declared.Record.{Record}
use Rattle.gateway.specs.Image.{field_words, quarter, field_in, head_word, part, words_of, record_of}
use Rattle.gateway.specs.Images.{in_length_lem, entry_at, entry, words_length, field_same}
use Rattle.gateway.specs.Depth.{depth_reply}
use Rattle.gateway.specs.Step.{step_words, picked_words}

-- one entry more, its number and its value told by equations
next_entry : (words : List ℕ) (n m : ℕ) (field : List ℕ) (x : ℕ) → n < 64 → m ≡ n + 1 → x ≡ get_or (field_in words) n 0
    → Copied (field_in words) (replicate 64 0) n field → Copied (field_in words) (replicate 64 0) m (set field n x)
next_entry words n m field x h e v c =
    rw (e, v) (copied_more (field_in words) (replicate 64 0) (in_length_lem words) n field 0 (rw in_length_lem h) c)

-- a turn of the reading of a field: four entries
pub entries_more : (words : List ℕ) (k : ℕ) (field : List ℕ) → k < 16
    → Copied (field_in words) (replicate 64 0) (4 * k) field
    → let word = get_or words k 0 in
    Copied (field_in words) (replicate 64 0) (4 * (k + 1))
    (set (set (set (set field (4 * k) (word % 2 ^ 16)) (4 * k + 1) (word / 2 ^ 16 % 2 ^ 16)) (4 * k + 2)
    (word / 2 ^ 32 % 2 ^ 16)) (4 * k + 3) (word / 2 ^ 48))
entries_more words k field h c =
    let z : 4 * k ≡ 4 * k + 0 = omega arith in
    next_entry words (4 * k + 3) (4 * (k + 1)) _ _ (omega arith) (omega arith) (sym (entry words k 3 h (omega arith)))
    (next_entry words (4 * k + 2) (4 * k + 3) _ _ (omega arith) (omega arith) (sym (entry words k 2 h (omega arith)))
    (next_entry words (4 * k + 1) (4 * k + 2) _ _ (omega arith) (omega arith) (sym (entry words k 1 h (omega arith)))
    (next_entry words (4 * k) (4 * k + 1) field _ (omega arith) (omega arith)
    (sym (ap (λ n. get_or (field_in words) n 0) z ∙ entry words k 0 h (omega arith))) c)))

-- the record whose parts were read one by one
pub record_read : (words tags share largest first waiting : List ℕ) → tags ≡ part words 3 64
    → share ≡ field_in (part words 67 16) → largest ≡ field_in (part words 83 16) → first ≡ field_in (part words 99 16)
    → waiting ≡ field_in (part words 115 16)
    → record {
      flows = get_or words 0 0 % 2 ^ 16;
      header = get_or words 0 0 / 2 ^ 16 % 2 ^ 16;
      width = get_or words 0 0 / 2 ^ 32;
      clock = ticks (get_or words 1 0);
      link = link_time (get_or words 2 0);
      tags = tags_of tags;
      queues = queues_of share largest first waiting;
      turn = get_or words 131 0;
    }
    ≡ record_of words
unfolding record_of
record_read words tags share largest first waiting t s l f w = rw (t, s, l, f, w)

-- a store past the first of two lists
pub set_past : (xs ys : List ℕ) (n k i a : ℕ) → length xs ≡ n → n + k ≡ i → set (xs ++ ys) i a ≡ xs ++ set ys k a
set_past xs ys n k i a h e =
    set-append_right xs ys n i a h (omega arith) ∙ ap (λ m. xs ++ set ys m a) (omega arith)

-- the first three words
head_filled : (w0 : List ℕ) (a b c : ℕ) → 3 ≤ length w0 → Filled w0 3 (a ∷ b ∷ c ∷ []) (set (set (set w0 0 a) 1 b) 2 c)
head_filled [] a b c h = absurd (omega arith)
head_filled (x ∷ []) a b c h = absurd (omega arith)
head_filled (x ∷ y ∷ []) a b c h = absurd (omega arith)
head_filled (x ∷ y ∷ z ∷ rest) a b c h = record { long = refl; room = h; so_far = refl }

regroup : (a b c d e f : List ℕ) → a ++ b ++ c ++ d ++ e ++ f ≡ a ++ (b ++ (c ++ (d ++ (e ++ f))))
regroup a b c d e f = simp append_assoc

-- a record written part by part
pub record_written : (w0 : List ℕ) → length w0 ≡ 132 → (r : Record) → (n : ℕ) → n ≡ head_word r
    → (tags : List ℕ) → tags ≡ r.tags.0 → length tags ≡ 64 → (share : List ℕ) → share ≡ field_words r.queues.share
    → (largest : List ℕ) → largest ≡ field_words r.queues.largest
    → (first : List ℕ) → first ≡ field_words r.queues.first
    → (waiting : List ℕ) → waiting ≡ field_words r.queues.waiting
    → set (put_mid 115 16 (put_mid 99 16 (put_mid 83 16 (put_mid 67 16 (put_mid 3 64
    (set (set (set w0 0 n) 1 r.clock.0) 2 r.link.0) tags) share) largest) first) waiting) 131 r.turn
    ≡ words_of r
unfolding words_of
record_written w0 long r n h tags t u share s largest l first f waiting w =
    let head = n ∷ r.clock.0 ∷ r.link.0 ∷ [] in
    let parts = head ++ tags ++ share ++ largest ++ first ++ waiting in
    let one = head_filled w0 n r.clock.0 r.link.0 (omega (arith, long)) in
    let two = filled_more w0 3 _ _ one 64 tags u (omega (arith, long)) in
    let same : tags ≡ field64 r.tags.0 = sym (field_same tags u) ∙ ap field64 t in
    let three = filled_more w0 67 _ _ two 16 share (rw s (words_length _)) (omega (arith, long)) in
    let four = filled_more w0 83 _ _ three 16 largest (rw l (words_length _)) (omega (arith, long)) in
    let five = filled_more w0 99 _ _ four 16 first (rw f (words_length _)) (omega (arith, long)) in
    let six = filled_more w0 115 _ _ five 16 waiting (rw w (words_length _)) (omega (arith, long)) in
    let none : drop 132 w0 ≡ [] = ap (λ m. drop m w0) (sym long) ∙ drop-length w0 in
    let last : drop 131 w0 ≡ get_or w0 131 0 ∷ []
    = drop-cons w0 131 0 (omega (arith, long)) ∙ ap (λ rest. get_or w0 131 0 ∷ rest) none in
    ap (λ b. set b 131 r.turn) (six.so_far ∙ ap (λ rest. parts ++ rest) last)
    ∙ set_past parts (get_or w0 131 0 ∷ []) 131 0 131 r.turn six.long refl
    ∙ ap (λ rest. head ++ rest) (regroup tags share largest first waiting (r.turn ∷ []))
    ∙ rw (h, same, s, l, f, w)

-- the entry of a word of 64 bits, by a shift
shifted : (word j : ℕ) → word < 2 ^ 64 → j < 4 → word / 2 ^ (16 * j) % 2 ^ 16 ≡ quarter word j
shifted word zero h l = omega arith
shifted word (suc zero) h l = refl
shifted word (suc (suc zero)) h l = refl
shifted word (suc (suc (suc zero))) h l = omega (arith, h)
shifted word (suc (suc (suc (suc j)))) h l = absurd (omega arith)

-- and so an entry of a field
pub entry_read : (words : List ℕ) (f : ℕ) → f < 64 → get_or words (f / 4) 0 < 2 ^ 64
    → get_or words (f / 4) 0 / 2 ^ (16 * (f % 4)) % 2 ^ 16 ≡ get_or (field_in words) f 0
entry_read words f h fits =
    shifted (get_or words (f / 4) 0) (f % 4) fits (omega arith) ∙ sym (entry_at words f h)

-- the words that a pick leaves where nothing waits
pub rested_written : (words stepped tags : List ℕ) (r : Record) (reply : Reply) → reply ≡ idle
    → (f : ℕ) → f ≡ 0 → stepped ≡ step_words words r f → tags ≡ r.tags.0 → length tags ≡ 64
    → put_mid 3 64 stepped tags ≡ picked_words words r reply
rested_written words stepped tags r reply q f z s t u =
    rw (q, s, z) (ap (put_mid 3 64 (step_words words r 0)) (sym (field_same tags u) ∙ ap field64 t))

-- the reply of a depth: 7 where the flow is not counted, or is none of 64
pub depth_refused : (block : List ℕ) (flow f : ℕ) → f ≡ flow → (get_or block 0 0 % 2 ^ 16 ≤ f) ⊎ (64 ≤ flow)
    → refused 7 0 ≡ depth_reply (record_of block) flow
unfolding record_of
depth_refused block flow f e (inl over) = let far : get_or block 0 0 % 2 ^ 16 ≤ flow = rw e at over in
    rw (le-ltb flow (get_or block 0 0 % 2 ^ 16) far)
depth_refused block flow f e (inr over) = rw (le-ltb flow 64 over, and-false)

-- and else four values
pub depth_given : (block : List ℕ) (flow f waiting share largest : ℕ) → f ≡ flow → f < get_or block 0 0 % 2 ^ 16
    → flow < 64 → waiting ≡ get_or (field_in (part block 115 16)) flow 0
    → share ≡ get_or (field_in (part block 67 16)) flow 0 → largest ≡ get_or (field_in (part block 83 16)) flow 0
    → done (waiting ∷ share ∷ largest ∷ get_or block (3 + flow) 0 ∷ []) ≡ depth_reply (record_of block) flow
unfolding record_of
depth_given block flow f waiting share largest e counted below w s l =
    let near : flow < get_or block 0 0 % 2 ^ 16 = rw e at counted in
    rw (
      w,
      s,
      l,
      lt-ltb flow (get_or block 0 0 % 2 ^ 16) near,
      lt-ltb flow 64 below,
      get_or-take 64 (drop 3 block) flow 0 below,
      get_or-drop 3 block flow 0,
    )
