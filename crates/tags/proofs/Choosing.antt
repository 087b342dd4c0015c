-- The search for the smallest tag: its two stretches, what its caller is told of them, and a step: the flow looked at
-- takes the lead, or the leader keeps it.
-- Assumes nothing.
use Rattle.std.proofs.Common.{◌≡◌, ℕ, zero, suc, ◌+◌, ◌-◌, ◌<◌, ◌≤◌, Bool, true, false, cond, eqb, ltb, leb, List, Some, None, get_or, sym, refl, ◌∙◌, arith, ltb-false, ltb-true, le-ltb, lt-ltb, le-leb}
use borrow.Author.Tests.{lt-leb}
use Rattle.below.specs.Truth.{true_false}
use Rattle.tags.specs.Ticks.{ticks}
use Rattle.tags.specs.Choice.{Lead, no_tag, no_lead, found, lead_as, key_of, lead_at, ahead, lead_on, search_from, lead_by}
use Rattle.tags.specs.Searched.{search_inside}
use Rattle.tags.specs.Chosen.{Tagged, Led}

-- a flow that takes the lead is told so
pub flow_led : (flow key : ℕ) → flow < 64 → key ≤ no_tag → Led (lead_as flow key)
flow_led flow key h low =
    record { told = refl; few = omega arith; high = low; none = λ e. true_false (sym (lt-ltb flow 64 h) ∙ e) }

-- and one that goes ahead, or not, is told too
ahead_led : (lead : Lead) (tag waiting f : ℕ) → Led lead → tag < no_tag → f < 64 → Led (ahead lead tag waiting f)
unfolding ahead
ahead_led lead tag waiting f L low few = go (eqb waiting 0) lead.waits (leb lead.tag.0 tag)
  where
    moved : Led (lead_at f tag)
    moved = record { told = sym (lt-ltb f 64 few); few = omega arith; high = omega arith; none = λ e. true_false e }

    go : (a b c : Bool) → Led (cond a lead (cond b (cond c lead (lead_at f tag)) (lead_at f tag)))
    go true b c = L
    go false true true = L
    go false true false = moved
    go false false c = moved

on_led : (tag waiting : ℕ → ℕ) (from count n : ℕ) (lead : Lead) → from + count ≤ n → n ≤ 64
    → ((f : ℕ) → f < n → tag f < no_tag) → Led lead → Led (lead_on tag waiting lead from count)
unfolding lead_on
on_led tag waiting from zero n lead h few low L = L
on_led tag waiting from (suc count) n lead h few low L =
    ahead_led (lead_on tag waiting lead from count) (tag (from + count)) (waiting (from + count)) (from + count)
    (on_led tag waiting from count n lead (omega arith) few low L) (low (from + count) (omega arith)) (omega arith)

-- the two stretches of the search: what each is given, and what they come to
module _ (turn : ℕ) (tags waits : List ℕ) (n : ℕ) (few : n ≤ 64) (T : Tagged tags n) (from : ℕ)
    (begins : from ≡ search_from turn n) where
  abbrev tag : ℕ → ℕ
  tag g = get_or tags g 0

  abbrev waiting : ℕ → ℕ
  waiting g = get_or waits g 0

  inside : from ≤ n
  inside = omega (arith, begins, search_inside turn n)

  -- nobody leads before the first
  nobody_led : Led no_lead
  nobody_led = record { told = refl; few = omega arith; high = omega arith; none = λ _. refl }

  pub second_stretch : (flow key : ℕ) → lead_as flow key ≡ lead_on tag waiting (lead_as 64 no_tag) from (n - from)
      → (0 ≤ from) × (from ≤ 64) × Tagged tags from × Led (lead_as flow key)
  second_stretch flow key e = (
    omega arith,
    omega (arith, inside),
    record { each = λ f h. T.each f (omega (arith, inside)) },
    rw e (on_led tag waiting from (n - from) n no_lead (omega (arith, inside)) few T.each nobody_led),
  )

  module _ (flow key last least : ℕ)
      (e : lead_as flow key ≡ lead_on tag waiting (lead_as 64 no_tag) from (n - from))
      (q : lead_as last least ≡ lead_on tag waiting (lead_as flow key) 0 (from - 0)) where
    both_stretches : lead_as last least ≡ lead_by turn tag waiting n
    unfolding lead_by
    both_stretches = let all : from - 0 ≡ from = omega arith in rw (all, e, begins) at q

    -- what the caller is told of them
    pub found_some : last < 64 → Some (record { flow = last; tag = ticks least }) ≡ found (lead_by turn tag waiting n)
    found_some h = rw (← both_stretches, lt-ltb last 64 h)

    pub found_none : 64 ≤ last → None ≡ found (lead_by turn tag waiting n)
    found_none h = rw (← both_stretches, le-ltb last 64 h)

-- by the keys it takes the lead where its own is smaller
ahead_key : (flow least tag waiting n : ℕ) → Led (lead_as flow least) → tag < no_tag → n < 64
    → let key = key_of tag waiting in
    cond (ltb key least) (lead_as n key) (lead_as flow least) ≡ ahead (lead_as flow least) tag waiting n
unfolding ahead
ahead_key flow least tag waiting n L low few =
    go (eqb waiting 0) refl (ltb flow 64) refl (ltb tag least) refl
  where
    go : (a : Bool) → eqb waiting 0 ≡ a → (b : Bool) → ltb flow 64 ≡ b → (c : Bool) → ltb tag least ≡ c
        → let key = key_of tag waiting in
        cond (ltb key least) (lead_as n key) (lead_as flow least) ≡ ahead (lead_as flow least) tag waiting n
    go true p b q c t = rw (p, le-ltb no_tag least L.high)
    go false p true q true t = rw (p, q, t, lt-leb least tag (ltb-true tag least t), lt-ltb n 64 few)
    go false p true q false t = rw (p, q, t, le-leb least tag (ltb-false tag least t))
    go false p false q c t = rw (p, q, lt-ltb tag least (omega (arith, L.none q)), lt-ltb n 64 few)

-- before the first step the lead is as it came
pub lead_begins : (tag waiting : ℕ → ℕ) (from : ℕ) (lead : Lead) → lead ≡ lead_on tag waiting lead from (from - from)
unfolding lead_on
lead_begins tag waiting from lead = let none : from - from ≡ 0 = omega arith in rw none

-- a step: the flow at `at`, behind those from `from` on
module _ (tag waiting : ℕ → ℕ) (lead : Lead) (from at flow least key : ℕ)
    (led : lead_as flow least ≡ lead_on tag waiting lead from (at - from)) (L : Led (lead_as flow least))
    (here : key ≡ key_of (tag at) (waiting at)) (h : from ≤ at) (low : tag at < no_tag) (few : at < 64) where
  stepped : cond (ltb key least) (lead_as at key) (lead_as flow least)
      ≡ lead_on tag waiting lead from (at + 1 - from)
  unfolding lead_on
  stepped =
      let next : at + 1 - from ≡ suc (at - from) = omega arith in
      let same : from + (at - from) ≡ at = omega arith in
      rw (next, same, ← led, here) (ahead_key flow least (tag at) (waiting at) at L low few)

  pub lead_moves : key < least → lead_as at key ≡ lead_on tag waiting lead from (at + 1 - from)
  lead_moves k = rw (lt-ltb key least k) at stepped

  pub lead_stays : least ≤ key → lead_as flow least ≡ lead_on tag waiting lead from (at + 1 - from)
  lead_stays k = rw (le-ltb key least k) at stepped
