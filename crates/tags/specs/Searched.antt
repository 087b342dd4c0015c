-- The search for the smallest tag on its way: the order in which the flows are looked at, and who leads among those
-- that have been.
-- Assumes nothing.
use Rattle.std.specs.Prelude.{◌≡◌, ℕ, zero, suc, ◌+◌, ◌-◌, ◌<◌, ◌≤◌, Bool, true, false, cond, ◌==◌, nat_le, nat_lt}
use Rattle.std.proofs.Math.Path.{refl}
use Rattle.std.proofs.Common.{sym, ◌∙◌, arith}
use Rattle.std.proofs.Math.Decide.{ℕ_discrete}
use Rattle.std.proofs.Math.Numerals.{unary_clauses}
use borrow.Author.Tests.{leb-true, leb-false, eqb-true, eqb-false, ltb-true, ltb-false, lt-ltb, le-ltb}
use Rattle.below.specs.Truth.{true_false}
use Rattle.tags.specs.Choice.{Lead, from_turn, no_lead, lead_at, ahead, lead_on, search_from}

-- the search begins inside the table, or at its end
pub search_inside : (turn n : ℕ) → search_from turn n ≤ n
search_inside turn n = go (nat_lt turn n) refl
  where
    go : (b : Bool) → nat_lt turn n ≡ b → cond b turn 0 ≤ n
    go true e = omega (arith, ltb-true turn n e)
    go false e = omega arith

-- the place of flow g where the first n flows are looked at from flow `from` on, and then from 0 up to it
pub place_in : ℕ → ℕ → ℕ → ℕ
place_in from n g = cond (nat_lt g from) (g + (n - from)) (g - from)

module _ (from n : ℕ) where
  place_low : (g : ℕ) → g < from → place_in from n g ≡ g + (n - from)
  unfolding place_in
  place_low g h = rw (lt-ltb g from h)

  place_high : (g : ℕ) → from ≤ g → place_in from n g ≡ g - from
  unfolding place_in
  place_high g h = rw (le-ltb g from h)

  -- what holds of a place both ways
  placed : (g : ℕ) (P : ℕ → Type 0) → (g < from → P (g + (n - from))) → (from ≤ g → P (g - from)) → P (place_in from n g)
  placed g P low high = go (nat_lt g from) refl
    where
      go : (b : Bool) → nat_lt g from ≡ b → P (place_in from n g)
      go true e = let h = ltb-true g from e in rw (place_low g h) (low h)
      go false e = let h = ltb-false g from e in rw (place_high g h) (high h)

  module _ (h : from ≤ n) where
    -- every flow has its place among n
    pub place_below : (g : ℕ) → g < n → place_in from n g < n
    place_below g l = placed g (λ p. p < n) (λ a. omega arith) (λ a. omega arith)

    -- and no two the same
    place_one : (f g : ℕ) → f < n → g < n → place_in from n f ≡ place_in from n g → f ≡ g
    place_one f g l m = placed f (λ p. p ≡ place_in from n g → f ≡ g)
        (λ a. placed g (λ q. f + (n - from) ≡ q → f ≡ g) (λ b e. omega arith) (λ b e. omega arith))
        (λ a. placed g (λ q. f - from ≡ q → f ≡ g) (λ b e. omega arith) (λ b e. omega arith))

-- a flow that is looked at earlier is nearer the turn
pub earlier_nearer : (turn n f g : ℕ) → turn < 64 → n ≤ 64 → f < n → g < n
    → place_in (search_from turn n) n f ≤ place_in (search_from turn n) n g → from_turn turn f ≤ from_turn turn g
earlier_nearer turn n f g t few l m = go (nat_lt turn n) refl
  where
    Nearer : ℕ → ℕ → Type 0
    Nearer p q = p ≤ q → from_turn turn f ≤ from_turn turn g

    go : (b : Bool) → nat_lt turn n ≡ b → let from = cond b turn 0 in Nearer (place_in from n f) (place_in from n g)
    go true e = let inside = ltb-true turn n e in
        placed turn n f (λ p. Nearer p (place_in turn n g))
        (λ a. placed turn n g (Nearer (f + (n - turn))) (λ b h. omega arith) (λ b h. omega arith))
        (λ a. placed turn n g (Nearer (f - turn)) (λ b h. omega arith) (λ b h. omega arith))
    go false e = let past = ltb-false turn n e in
        placed 0 n f (λ p. Nearer p (place_in 0 n g))
        (λ a. absurd (omega arith))
        (λ a. placed 0 n g (Nearer (f - 0)) (λ b. absurd (omega arith)) (λ b h. omega arith))

-- So at any point the flows that have been looked at are those of a place before some other, and the leader is the
-- first among these.
module _ (tag waiting : ℕ → ℕ) (n from : ℕ) (inside : from ≤ n) where
  abbrev place : ℕ → ℕ
  place = place_in from n

  -- the leader among the flows of a place before `end`
  pub record LeadsBefore (end : ℕ) (lead : Lead) : Type 0 where
    pub counts : lead.waits ≡ true → lead.flow < n
    pub before : lead.waits ≡ true → place lead.flow < end
    pub waits : lead.waits ≡ true → 0 < waiting lead.flow
    pub own : lead.waits ≡ true → tag lead.flow ≡ lead.tag.0
    pub least : lead.waits ≡ true → (g : ℕ) → g < n → place g < end → 0 < waiting g → lead.tag.0 ≤ tag g
    pub earliest : lead.waits ≡ true → (g : ℕ) → g < n → place g < end → 0 < waiting g → tag g ≡ lead.tag.0
        → place lead.flow ≤ place g
    pub nobody : lead.waits ≡ false → (g : ℕ) → g < n → place g < end → waiting g ≡ 0

  -- nobody leads before anything is looked at
  none_before : LeadsBefore 0 no_lead
  none_before =
      record {
        counts = λ e. true_false (sym e);
        before = λ e. true_false (sym e);
        waits = λ e. true_false (sym e);
        own = λ e. true_false (sym e);
        least = λ e. true_false (sym e);
        earliest = λ e. true_false (sym e);
        nobody = λ e g l d. absurd (omega arith);
      }

  module _ (end f : ℕ) (lead : Lead) (L : LeadsBefore end lead) (l : f < n) (here : place f ≡ end) where
    -- what holds of the flows before flow f, and of flow f, holds of those before the next
    before_suc : (P : ℕ → Type 0) → ((g : ℕ) → g < n → place g < end → P g) → P f
        → (g : ℕ) → g < n → place g < suc end → P g
    before_suc P each this g m d = elim (ℕ_discrete g f) as (λ _. P g) [
      | yes q ↦ rw q this
      | no q ↦ each g m
          (elim (ℕ_discrete (place g) (place f)) as (λ _. place g < end) [
            | yes e ↦ absurd (q (place_one from n inside g f m l e))
            | no e ↦ omega arith
          ])
    ]

    -- the leader stays where flow f does not wait, or has no smaller tag
    leads_stay : (0 < waiting f → (lead.waits ≡ true) × (lead.tag.0 ≤ tag f)) → LeadsBefore (suc end) lead
    leads_stay h =
        record {
          counts = L.counts;
          before = λ e. omega (arith, L.before e);
          waits = L.waits;
          own = L.own;
          least = λ e. before_suc (λ g. 0 < waiting g → lead.tag.0 ≤ tag g) (L.least e) (λ w. (h w).1);
          earliest = λ e. before_suc (λ g. 0 < waiting g → tag g ≡ lead.tag.0 → place lead.flow ≤ place g)
              (L.earliest e) (λ w q. omega (arith, L.before e, here));
          nobody = λ e. before_suc (λ g. waiting g ≡ 0) (L.nobody e) (still e);
        }
      where
        still : lead.waits ≡ false → waiting f ≡ 0
        still e = elim (ℕ_discrete (waiting f) 0) as (λ _. waiting f ≡ 0) [
          | yes q ↦ q
          | no q ↦ true_false (sym (h (omega arith)).0 ∙ e)
        ]

    -- where flow f takes the lead, a waiting flow before it has a larger tag
    move_before : (lead.waits ≡ true → tag f < lead.tag.0) → (g : ℕ) → g < n → place g < end → 0 < waiting g
        → tag f < tag g
    move_before h g m d v = go lead.waits refl
      where
        go : (b : Bool) → lead.waits ≡ b → tag f < tag g
        go true e = omega (arith, h e, L.least e g m d v)
        go false e = absurd (omega (arith, L.nobody e g m d))

    -- flow f leads where it waits and nobody led, or its tag is smaller
    leads_move : 0 < waiting f → (lead.waits ≡ true → tag f < lead.tag.0)
        → LeadsBefore (suc end) (lead_at f (tag f))
    leads_move w h =
        record {
          counts = λ _. l;
          before = λ _. omega (arith, here);
          waits = λ _. w;
          own = λ _. refl;
          least = λ _. before_suc (λ g. 0 < waiting g → tag f ≤ tag g)
              (λ g m d v. omega (arith, move_before h g m d v)) (λ _. omega arith);
          earliest = λ _. before_suc (λ g. 0 < waiting g → tag g ≡ tag f → place f ≤ place g)
              (λ g m d v e. absurd (omega (arith, move_before h g m d v, e))) (λ _ _. omega arith);
          nobody = λ e. true_false e;
        }

    leads_more : LeadsBefore (suc end) (ahead lead (tag f) (waiting f) f)
    unfolding ahead
    leads_more = go (waiting f == 0) refl lead.waits refl (nat_le lead.tag.0 (tag f)) refl
      where
        go : (a : Bool) → (waiting f == 0) ≡ a → (b : Bool) → lead.waits ≡ b → (c : Bool)
            → nat_le lead.tag.0 (tag f) ≡ c
            → LeadsBefore (suc end) (cond a lead (cond b (cond c lead (lead_at f (tag f))) (lead_at f (tag f))))
        go true p b q c o = leads_stay λ w. absurd (omega (arith, eqb-true (waiting f) 0 p))
        go false p true q true o = leads_stay λ w. (q, leb-true lead.tag.0 (tag f) o)
        go false p true q false o =
            leads_move (omega (arith, eqb-false (waiting f) 0 p)) λ _. leb-false lead.tag.0 (tag f) o
        go false p false q c o = leads_move (omega (arith, eqb-false (waiting f) 0 p)) λ e. true_false (sym e ∙ q)

  -- a stretch of flows, of which the k-th has the k-th place behind those before
  leads_on : (end at count : ℕ) (lead : Lead) → LeadsBefore end lead → at + count ≤ n
      → ((k : ℕ) → k < count → place (at + k) ≡ end + k)
      → LeadsBefore (end + count) (lead_on tag waiting lead at count)
  unfolding lead_on
  leads_on end at zero lead L h each = simp unary_clauses L
  leads_on end at (suc count) lead L h each = simp unary_clauses
      (leads_more (end + count) (at + count) (lead_on tag waiting lead at count)
      (leads_on end at count lead L (omega arith) (λ k m. each k (omega arith)))
      (omega arith) (each count (omega arith)))

  -- from flow `from` on and then from 0 up to it: all of them
  pub leads_all : LeadsBefore (0 + (n - from) + from)
      (lead_on tag waiting (lead_on tag waiting no_lead from (n - from)) 0 from)
  leads_all = leads_on (0 + (n - from)) 0 from _
      (leads_on 0 from (n - from) no_lead none_before (omega arith)
      (λ k m. place_high from n (from + k) (omega arith) ∙ omega arith))
      (omega arith) (λ k m. place_low from n (0 + k) (omega arith) ∙ omega arith)
