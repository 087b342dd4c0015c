-- Wrong libraries, each the rule's own answer with one thing altered, and a named input at which it leaves the rule.
-- Assumes nothing.
use Rattle.std.specs.Prelude.{◌≡◌, refl, cond, List, [], ◌∷◌, ◌++◌, ℕ, eqb, replicate, get_or, set}
use Rattle.below.specs.Truth.{apart}
use Rattle.uplink.specs.Calls.{every_rule}
use Rattle.gateway.specs.Image.{field_words, quarter, field_in, words_of, record_of}
use Rattle.gateway.specs.Gateway.{Lent, Answered, lending, answered, told}
use Rattle.gateway.specs.Gateway.{gateway_opening, gateway_arrival, gateway_pick, gateway_depth}

-- what a caller lends to an opening: a block of so many words, and both memories
abbrev fresh : ℕ → Lent
fresh words = lending (replicate words 1) (replicate 4096 0) (replicate 4096 0) []

-- and after it, with a reply of so many words: two flows of share 500 and largest packet 100, with no header
abbrev opened : ℕ → Lent
opened words = let left = (gateway_opening (500 ∷ 500 ∷ []) (100 ∷ 100 ∷ []) 0 (fresh 132)).left in
    lending left.block left.lengths left.handles (replicate words 1)

-- and with a packet of 100 bytes waiting in flow 0, and a reply of 6 words
abbrev waiting : Lent
waiting = let left = (gateway_arrival 0 100 7 (opened 0)).left in
    lending left.block left.lengths left.handles (replicate 6 1)

-- "record has not exactly UPLINK_RECORD_WORDS words": a block of 131 words is taken for one of 132
abbrev pub takes131 : List ℕ → List ℕ → ℕ → Lent → Answered
takes131 shares largest header lent =
    gateway_opening shares largest header (lending (lent.block ++ 0 ∷ []) lent.lengths lent.handles lent.reply)

pub takes_131_differs : takes131 (500 ∷ []) (100 ∷ []) 0 (fresh 131)
    ≡ gateway_opening (500 ∷ []) (100 ∷ []) 0 (fresh 131)
    → ⊥
unfolding every_rule told gateway_opening words_of field_words
takes_131_differs = apart (λ a. a.answer) _ _ refl

-- "The opening takes a header size, 0 to 64, which the record keeps" (02 a): an opening drops it, here a header of 12
abbrev pub drops_header : List ℕ → List ℕ → ℕ → Lent → Answered
drops_header shares largest header lent = gateway_opening shares largest 0 lent

pub drops_header_differs : drops_header (500 ∷ 500 ∷ []) (100 ∷ 100 ∷ []) 12 (fresh 132)
    ≡ gateway_opening (500 ∷ 500 ∷ []) (100 ∷ 100 ∷ []) 12 (fresh 132)
    → ⊥
unfolding every_rule told gateway_opening words_of field_words
drops_header_differs = apart (λ a. quarter (get_or a.left.block 0 0) 1) _ _ refl

-- "no such flow": a refused arrival is told as done, here at flow 2 of two
abbrev pub refused_is_done : ℕ → ℕ → ℕ → Lent → Answered
refused_is_done flow length handle lent = answered 0 (gateway_arrival flow length handle lent).left

pub refused_is_done_differs : refused_is_done 2 100 7 (opened 0) ≡ gateway_arrival 2 100 7 (opened 0) → ⊥
unfolding every_rule told gateway_opening gateway_arrival words_of record_of field_words field_in
refused_is_done_differs = apart (λ a. a.answer) _ _ refl

-- "with any other answer no word of reply changes": a pick clears the reply first, here at Idle
abbrev pub clears_reply : Lent → Answered
clears_reply lent = let a = gateway_pick lent in
    answered a.answer (lending a.left.block a.left.lengths a.left.handles (replicate 6 0))

pub clears_reply_differs : clears_reply (opened 6) ≡ gateway_pick (opened 6) → ⊥
unfolding every_rule told gateway_opening gateway_pick words_of record_of field_words field_in
clears_reply_differs = apart (λ a. get_or a.left.reply 0 0) _ _ refl

-- "the turn, 0 to 63: one past the last flow picked" (02 e): a pick leaves the turn's word as it was, here after flow 0
abbrev pub keeps_turn : Lent → Answered
keeps_turn lent = let a = gateway_pick lent in
    answered a.answer
    (lending (set a.left.block 131 (get_or lent.block 131 0)) a.left.lengths a.left.handles
    a.left.reply)

pub keeps_turn_differs : keeps_turn waiting ≡ gateway_pick waiting → ⊥
unfolding every_rule told gateway_opening gateway_arrival gateway_pick words_of record_of field_words field_in
keeps_turn_differs = apart (λ a. get_or a.left.block 131 0) _ _ refl

-- "UPLINK_IDLE": a pick on which nothing waits is told as done, with no packet
abbrev pub idle_is_done : Lent → Answered
idle_is_done lent = let a = gateway_pick lent in cond (eqb a.answer 100) (answered 0 a.left) a

pub idle_is_done_differs : idle_is_done (opened 6) ≡ gateway_pick (opened 6) → ⊥
unfolding every_rule told gateway_opening gateway_pick words_of record_of field_words field_in
idle_is_done_differs = apart (λ a. a.answer) _ _ refl

-- "no such flow": the depth of a flow past the last is told as 0, here of flow 2 of two
abbrev pub depth_past_last : ℕ → Lent → Answered
depth_past_last flow lent = let a = gateway_depth flow lent in
    cond (eqb a.answer 7)
    (answered 0 (lending lent.block lent.lengths lent.handles (replicate 4 0)))
    a

pub depth_past_last_differs : depth_past_last 2 (opened 4) ≡ gateway_depth 2 (opened 4) → ⊥
unfolding every_rule told gateway_opening gateway_depth words_of record_of field_words field_in
depth_past_last_differs = apart (λ a. a.answer) _ _ refl
