-- What the leader among the flows is: the first one, counting round from the turn, of the waiting flows of smallest
-- tag; there is one such flow at most; and where nobody leads nobody waits.
-- Assumes nothing.
use Rattle.std.specs.Prelude.{◌≡◌, ℕ, zero, suc, ◌+◌, ◌-◌, ◌<◌, ◌≤◌, Bool, true, false, cond, List, ◌==◌, ◌≢◌, nat_eq, nat_le, nat_lt, slice_index, Option, Some, None, refl}
use Rattle.std.proofs.Common.{sym, ap, ap₂, ◌∙◌, arith, leb-true, leb-false, le-leb}
use Rattle.std.proofs.lemmas.Bool.{eqb-false, lt-leb}
use Rattle.tags.specs.Ticks.{ticks}
use Rattle.tags.specs.Choice.{Lead, Smallest, First, from_turn, turn_after, no_tag, no_lead, found, ahead, lead_on}
use Rattle.tags.specs.Choice.{search_from, lead_by}
use Rattle.tags.specs.Searched.{search_inside, place_in, place_below, earlier_nearer, LeadsBefore, leads_all}
use Rattle.tags.specs.declared.choice.Lead as told

-- two flows as far from the turn are one flow
same_distance : (turn f g : ℕ) → turn < 64 → f < 64 → g < 64 → from_turn turn f ≡ from_turn turn g → f ≡ g
same_distance turn f g t l m e = omega arith

-- so there is one first flow at most
pub first_one : (turn : ℕ) (tag waiting : ℕ → ℕ) (n f g : ℕ) → turn < 64 → n ≤ 64
    → First turn tag waiting n f → First turn tag waiting n g → f ≡ g
first_one turn tag waiting n f g t few F G =
    let S = F.smallest in
    let R = G.smallest in
    let same : tag g ≡ tag f = omega (
      arith,
      S.least g R.counts R.waits,
      R.least f S.counts S.waits,
    ) in
    same_distance turn f g t (omega (arith, S.counts)) (omega (arith, R.counts))
    (omega (arith, F.nearest g R.counts R.waits same, G.nearest f S.counts S.waits (sym same)))

-- the flow picked last is the farthest from the turn: of equals any other goes first
pub last_farthest : (f g : ℕ) → f < 64 → g < 64 → (g ≢ f)
    → from_turn (turn_after f) g < from_turn (turn_after f) f
last_farthest f g l m d = omega arith

-- the leader among the first n flows
pub record Leads (turn : ℕ) (tag waiting : ℕ → ℕ) (n : ℕ) (lead : Lead) : Type 0 where
  -- a leader is a waiting flow of smallest tag, whatever the turn, and the tag is its own
  pub smallest : lead.waits ≡ true → Smallest tag waiting n lead.flow
  pub own : lead.waits ≡ true → tag lead.flow ≡ lead.tag.0
  -- and of equals the first from the turn on
  pub first : turn < 64 → n ≤ 64 → lead.waits ≡ true → First turn tag waiting n lead.flow
  -- with no leader nothing waits
  pub nobody : lead.waits ≡ false → (g : ℕ) → g < n → waiting g ≡ 0

-- the leader among the first n flows, looked at from the turn on, is a waiting flow of smallest tag, and the first of
-- these
pub leads : (turn : ℕ) (tag waiting : ℕ → ℕ) (n : ℕ) → Leads turn tag waiting n (lead_by turn tag waiting n)
unfolding lead_by
leads turn tag waiting n =
    record {
      smallest = small;
      own = L.own;
      first = λ t few e.
          record {
            smallest = small e;
            nearest = λ g l w q. earlier_nearer turn n _ g t few (L.counts e) l
                (L.earliest e g l (reached g l) w (q ∙ L.own e));
          };
      nobody = λ e g l. L.nobody e g l (reached g l);
    }
  where
    from : ℕ
    from = search_from turn n

    inside : from ≤ n
    inside = search_inside turn n

    lead : Lead
    lead = lead_on tag waiting (lead_on tag waiting no_lead from (n - from)) 0 from

    L : LeadsBefore tag waiting n from inside (0 + (n - from) + from) lead
    L = leads_all tag waiting n from inside

    reached : (g : ℕ) → g < n → place_in from n g < 0 + (n - from) + from
    reached g l = omega (arith, inside, place_below from n inside g l)

    small : lead.waits ≡ true → Smallest tag waiting n lead.flow
    small e =
        record {
          counts = L.counts e;
          waits = L.waits e;
          least = λ g l w. omega (arith, L.own e, L.least e g l (reached g l) w);
        }

-- what the search's caller is told, read back
pub found_some : (lead : Lead) (l : told.Lead) → Some l ≡ found lead
    → (lead.waits ≡ true) × (l.flow ≡ lead.flow) × (l.tag ≡ lead.tag)
found_some lead l e = go lead.waits refl e
  where
    go : (b : Bool) → lead.waits ≡ b → Some l ≡ cond b (Some (record { flow = lead.flow; tag = lead.tag })) None
        → (lead.waits ≡ true) × (l.flow ≡ lead.flow) × (l.tag ≡ lead.tag)
    go true q e = (q, cc, cc)
    go false q e = cc

pub found_none : (lead : Lead) → ◌≡◌ {A = Option told.Lead} None (found lead) → lead.waits ≡ false
found_none lead e = go lead.waits refl e
  where
    go : (b : Bool) → lead.waits ≡ b → ◌≡◌ {A = Option told.Lead} None (cond b (Some (record { flow = lead.flow; tag = lead.tag })) None)
        → lead.waits ≡ false
    go true q e = cc
    go false q e = q

-- no tag of the first n is what stands for none
pub record Tagged (tags : List ℕ) (n : ℕ) : Type 0 where
  pub each : (f : ℕ) → f < n → slice_index tags f < no_tag

-- a leader told by its flow and its tag alone: 64 is nobody, and nobody's tag is what stands for none
pub record Led (lead : Lead) : Type 0 where
  pub told : lead.waits ≡ nat_lt lead.flow 64
  pub few : lead.flow ≤ 64
  pub high : lead.tag.0 ≤ no_tag
  pub none : lead.waits ≡ false → lead.tag.0 ≡ no_tag

-- a leader with s added to its tag
abbrev pub further : ℕ → Lead → Lead
further s lead =
    record { waits = lead.waits; flow = lead.flow; tag = ticks (cond lead.waits (lead.tag.0 + s) no_tag) }

-- it is passed where it is passed without
further_ahead : (s tag more waiting n : ℕ) (lead : Lead) → (0 < waiting → more ≡ tag + s)
    → ahead (further s lead) more waiting n ≡ further s (ahead lead tag waiting n)
unfolding ahead
further_ahead s tag more waiting n lead same = go (waiting == 0) refl lead.waits refl (nat_le lead.tag.0 tag) refl
  where
    more_waits : nat_eq waiting 0 ≡ false → more ≡ tag + s
    more_waits p = same (omega (arith, eqb-false waiting 0 p))

    go : (a : Bool) → (waiting == 0) ≡ a → (b : Bool) → lead.waits ≡ b → (c : Bool) → nat_le lead.tag.0 tag ≡ c
        → ahead (further s lead) more waiting n ≡ further s (ahead lead tag waiting n)
    go true p b q c t = rw p
    go false p true q true t = rw (
      p,
      q,
      more_waits p,
      t,
      le-leb (lead.tag.0 + s) (tag + s)
          (omega (arith, leb-true lead.tag.0 tag t)),
    )
    go false p true q false t = rw (
      p,
      q,
      more_waits p,
      t,
      lt-leb (lead.tag.0 + s) (tag + s)
          (omega (arith, leb-false lead.tag.0 tag t)),
    )
    go false p false q c t = rw (p, q, more_waits p)

further_on : (tag more waiting : ℕ → ℕ) (s from count : ℕ) (lead : Lead)
    → ((f : ℕ) → f < from + count → 0 < waiting f → more f ≡ tag f + s)
    → lead_on more waiting (further s lead) from count ≡ further s (lead_on tag waiting lead from count)
unfolding lead_on
further_on tag more waiting s from zero lead same = refl
further_on tag more waiting s from (suc count) lead same =
    let f = from + count in
    ap (λ leader. ahead leader (more f) (waiting f) f)
    (further_on tag more waiting s from count lead (λ g h. same g (omega arith)))
    ∙ further_ahead s (tag f) (more f) (waiting f) f (lead_on tag waiting lead from count) (same f (omega arith))

-- where the tags of all that wait are more by s, the same flow leads
pub leads_further : (turn : ℕ) (tag more waiting : ℕ → ℕ) (s n : ℕ)
    → ((f : ℕ) → f < n → 0 < waiting f → more f ≡ tag f + s)
    → lead_by turn more waiting n ≡ further s (lead_by turn tag waiting n)
unfolding lead_by
leads_further turn tag more waiting s n same = let from = search_from turn n in
    ap (λ lead. lead_on more waiting lead 0 from)
    (further_on tag more waiting s from (n - from) no_lead (λ f h. same f (omega (arith, search_inside turn n))))
    ∙ further_on tag more waiting s 0 from (lead_on tag waiting no_lead from (n - from))
    (λ f h. same f (omega (arith, search_inside turn n)))

same_on : (tag other waiting : ℕ → ℕ) (from count : ℕ) (lead : Lead) → ((f : ℕ) → f < from + count → other f ≡ tag f)
    → lead_on other waiting lead from count ≡ lead_on tag waiting lead from count
unfolding lead_on
same_on tag other waiting from zero lead same = refl
same_on tag other waiting from (suc count) lead same =
    let f = from + count in
    ap₂ (λ leader t. ahead leader t (waiting f) f)
    (same_on tag other waiting from count lead (λ g h. same g (omega arith)))
    (same f (omega arith))

-- where the first n have the same tags, the same flow leads
pub leads_same : (turn : ℕ) (tag other waiting : ℕ → ℕ) (n : ℕ) → ((f : ℕ) → f < n → other f ≡ tag f)
    → lead_by turn other waiting n ≡ lead_by turn tag waiting n
unfolding lead_by
leads_same turn tag other waiting n same = let from = search_from turn n in
    ap (λ lead. lead_on other waiting lead 0 from)
    (same_on tag other waiting from (n - from) no_lead (λ f h. same f (omega (arith, search_inside turn n))))
    ∙ same_on tag other waiting 0 from (lead_on tag waiting no_lead from (n - from))
    (λ f h. same f (omega (arith, search_inside turn n)))
