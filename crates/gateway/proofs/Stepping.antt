-- The words that a call writes make the block of the next record: six words, and at Idle the tags.
-- Assumes nothing.
use mathlib.Core.Path.{◌≡◌, refl, sym, ap, ◌∙◌}
use mathlib.Core.List.{List, [], ◌∷◌, ◌++◌}
use Prim.Native.Nat.{ℕ, suc, ◌+◌, ◌*◌, ◌/◌, ◌<◌}
use native.Mathlib.Decide.{ℕ_discrete}
use native.Mathlib.Omega.{arith}
use lib.ListN.{length, get_or, set, length-set}
use lib.Seq.{get_or-set_same, get_or-set_other, set-append_left, ext_get_or, drop_at}
use borrow.Rule.Slice.PartMut.{put_mid}
use Rattle.queues.specs.Opening.{field64}
use Rattle.queues.specs.Laws.{field_length}
use Rattle.uplink.specs.Record.{tag_of, with, tags_of}
use Rattle.uplink.specs.declared.Record.{Record}
use Rattle.gateway.specs.Image.{four_at, field_words, head_word, words_of, record_of}
use Rattle.gateway.specs.Images.{words_length, field_word, field_same, rows_read, words_of_record}
use Rattle.gateway.specs.Step.{step_words, Kept}
use Rattle.gateway.proofs.Blocks.{set_past}

-- another entry of flow f changes one word of its field
set_field : (field : List ℕ) (f x : ℕ) → f < 64
    → set (field_words field) (f / 4) (four_at (set field f x) (f / 4)) ≡ field_words (set field f x)
set_field field f x h = let next = set field f x in
    ext_get_or 0 (set (field_words field) (f / 4) (four_at next (f / 4))) (field_words next)
    (length-set (field_words field) (f / 4) (four_at next (f / 4)) ∙ words_length field ∙ sym (words_length next)) λ k l.
    let m : k < 16 = rw (length-set, words_length) at l in
    elim (ℕ_discrete k (f / 4)) as
    (λ _. get_or (set (field_words field) (f / 4) (four_at next (f / 4))) k 0 ≡ get_or (field_words next) k 0) [
      | yes e ↦ rw e (get_or-set_same (field_words field) (f / 4) (four_at next (f / 4)) 0 (rw words_length (omega arith))
          ∙ sym (field_word next (f / 4) (omega arith)))
      | no d ↦ get_or-set_other (field_words field) (f / 4) k (four_at next (f / 4)) 0 d ∙ field_word field k m
          ∙ sym (field_word next k m ∙ rw (
            get_or-set_other field f (4 * k) x 0 (λ e. d (omega arith)),
            get_or-set_other field f (4 * k + 1) x 0 (λ e. d (omega arith)),
            get_or-set_other field f (4 * k + 2) x 0 (λ e. d (omega arith)),
            get_or-set_other field f (4 * k + 3) x 0 (λ e. d (omega arith)),
          ))
    ]

-- the record with other tags
abbrev pub retagged : Record → List ℕ → Record
retagged r tags = with r r.clock r.link (tags_of tags) r.queues r.turn

-- the first five words, in a block that is told part by part
five_words : (a b c c' l' t x y f : ℕ) (tags share largest first waiting : List ℕ) → f < 64 → length tags ≡ 64
    → length share ≡ 16 → length largest ≡ 16 → length first ≡ 16
    → set (set (set (set (set (a ∷ b ∷ c ∷ (tags ++ (share ++ (largest ++ (first ++ waiting))))) 1 c') 2 l') (3 + f) t)
    (99 + f / 4) x) (115 + f / 4) y
    ≡ a ∷ c' ∷ l' ∷ (set tags f t ++ (share ++ (largest ++ (set first (f / 4) x ++ set waiting (f / 4) y))))
five_words a b c c' l' t x y f tags share largest first waiting h g s l k =
    let one : 3 + f ≡ suc (suc (suc f)) = omega arith in
    let two : 99 + f / 4 ≡ suc (suc (suc (64 + (16 + (16 + f / 4))))) = omega arith in
    let three : 115 + f / 4 ≡ suc (suc (suc (64 + (16 + (16 + (16 + f / 4)))))) = omega arith in
    let m : length (set tags f t) ≡ 64 = length-set tags f t ∙ g in
    rw (
      one,
      two,
      three,
      set-append_left tags (share ++ (largest ++ (first ++ waiting))) f t (omega (arith, g)),
      set_past (set tags f t) (share ++ (largest ++ (first ++ waiting))) 64 (16 + (16 + f / 4)) _ x m refl,
      set_past share (largest ++ (first ++ waiting)) 16 (16 + f / 4) _ x s refl,
      set_past largest (first ++ waiting) 16 (f / 4) _ x l refl,
      set-append_left first waiting (f / 4) x (omega (arith, k)),
      set_past (set tags f t) (share ++ (largest ++ (set first (f / 4) x ++ waiting))) 64
          (16 + (16 + (16 + f / 4))) _ y m refl,
      set_past share (largest ++ (set first (f / 4) x ++ waiting)) 16 (16 + (16 + f / 4)) _ y s refl,
      set_past largest (set first (f / 4) x ++ waiting) 16 (16 + f / 4) _ y l refl,
      set_past (set first (f / 4) x) waiting 16 (f / 4) _ y (length-set first (f / 4) x ∙ k) refl,
    )

-- and the sixth, behind the fields
sixth_word : (a b c u u' : ℕ) (tags share largest first waiting : List ℕ) → length tags ≡ 64 → length share ≡ 16
    → length largest ≡ 16 → length first ≡ 16 → length waiting ≡ 16
    → set (a ∷ b ∷ c ∷ (tags ++ (share ++ (largest ++ (first ++ (waiting ++ u ∷ [])))))) 131 u'
    ≡ a ∷ b ∷ c ∷ (tags ++ (share ++ (largest ++ (first ++ (waiting ++ u' ∷ [])))))
sixth_word a b c u u' tags share largest first waiting g s l k w =
    ap (λ rest. a ∷ b ∷ c ∷ rest) (set_past tags _ 64 64 128 u' g refl
    ∙ ap (λ rest. tags ++ rest) (set_past share _ 16 48 64 u' s refl
    ∙ ap (λ rest. share ++ rest) (set_past largest _ 16 32 48 u' l refl
    ∙ ap (λ rest. largest ++ rest) (set_past first _ 16 16 32 u' k refl
    ∙ ap (λ rest. first ++ rest) (set_past waiting (u ∷ []) 16 0 16 u' w refl)))))

-- all six
six_words : (a b c c' l' t x y u u' f : ℕ) (tags share largest first waiting : List ℕ) → f < 64 → length tags ≡ 64
    → length share ≡ 16 → length largest ≡ 16 → length first ≡ 16 → length waiting ≡ 16
    → set (set (set (set (set (set (a ∷ b ∷ c ∷ (tags ++ (share ++ (largest ++ (first ++ (waiting ++ u ∷ []))))))
    1 c') 2 l') (3 + f) t) (99 + f / 4) x) (115 + f / 4) y) 131 u'
    ≡ a ∷ c' ∷ l' ∷ (set tags f t
    ++ (share ++ (largest ++ (set first (f / 4) x ++ (set waiting (f / 4) y ++ u' ∷ [])))))
six_words a b c c' l' t x y u u' f tags share largest first waiting h g s l k w =
    ap (λ words. set words 131 u')
    (five_words a b c c' l' t x y f tags share largest first (waiting ++ u ∷ []) h g s l k
    ∙ ap (λ rest. a ∷ c' ∷ l' ∷ (set tags f t ++ (share ++ (largest ++ (set first (f / 4) x ++ rest)))))
    (set-append_left waiting (u ∷ []) (f / 4) y (omega (arith, w))))
    ∙ sixth_word a c' l' u u' (set tags f t) share largest (set first (f / 4) x) (set waiting (f / 4) y)
    (length-set tags f t ∙ g) s l (length-set first (f / 4) x ∙ k) (length-set waiting (f / 4) y ∙ w)

-- the words of a field of which one entry changed
field_stepped : (old new : List ℕ) (f : ℕ) → f < 64 → new ≡ set old f (get_or new f 0)
    → set (field_words old) (f / 4) (four_at new (f / 4)) ≡ field_words new
field_stepped old new f h e = ap (λ l. set (field_words old) (f / 4) (four_at l (f / 4))) e
    ∙ set_field old f (get_or new f 0) h ∙ ap field_words (sym e)

-- the six words make the block of the next record, but for the other tags
pub step_words_lem : (words : List ℕ) (next : Record) (f : ℕ) → length words ≡ 132 → Kept (record_of words) next f
    → step_words words next f ≡ words_of (retagged next (set (record_of words).tags.0 f (tag_of next f)))
unfolding words_of
step_words_lem words next f h K =
    let r = record_of words in
    let t = tag_of next f in
    let long = (rows_read words h).tags in
    let tags : set (field64 r.tags.0) f t ≡ field64 (set r.tags.0 f t)
    = ap (λ l. set l f t) (field_same r.tags.0 long)
    ∙ sym (field_same (set r.tags.0 f t) (length-set r.tags.0 f t ∙ long)) in
    ap (λ l. step_words l next f) (sym (words_of_record words h))
    ∙ six_words (head_word r) r.clock.0 r.link.0 next.clock.0 next.link.0 t
    (four_at next.queues.first (f / 4)) (four_at next.queues.waiting (f / 4)) r.turn next.turn f
    (field64 r.tags.0)
    (field_words r.queues.share) (field_words r.queues.largest) (field_words r.queues.first)
    (field_words r.queues.waiting) K.below (field_length r.tags.0) (words_length _) (words_length _)
    (words_length _) (words_length _)
    ∙ rw (
      K.flows,
      K.header,
      K.width,
      K.share,
      K.largest,
      ← field_stepped r.queues.first next.queues.first f K.below K.first,
      ← field_stepped r.queues.waiting next.queues.waiting f K.below K.waiting,
      ← tags,
    )

-- all of it, where one tag changed at the most
pub step_whole : (words : List ℕ) (next : Record) (f : ℕ) → length words ≡ 132 → Kept (record_of words) next f
    → next.tags.0 ≡ set (record_of words).tags.0 f (tag_of next f) → step_words words next f ≡ words_of next
step_whole words next f h K t = step_words_lem words next f h K ∙ ap (λ l. words_of (retagged next l)) (sym t)

-- and at Idle with the tags put anew
pub step_rested : (words tags : List ℕ) (next : Record) (f : ℕ) → length words ≡ 132 → Kept (record_of words) next f
    → tags ≡ field64 next.tags.0 → put_mid 3 64 (step_words words next f) tags ≡ words_of next
unfolding words_of
step_rested words tags next f h K t =
    let old = set (record_of words).tags.0 f (tag_of next f) in
    let rest = field_words next.queues.share
    ++ (field_words next.queues.largest
    ++ (field_words next.queues.first ++ (field_words next.queues.waiting ++ next.turn ∷ []))) in
    ap (λ l. put_mid 3 64 l tags) (step_words_lem words next f h K)
    ∙ rw (drop_at (field64 old) rest 64 (field_length old), t)
