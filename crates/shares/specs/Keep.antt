-- The backlog and the tag bounds, over a table of shares and costs, and that front, leap, serve and reset keep them.
-- Assumes nothing.
use Rattle.std.specs.Prelude.{◌≡◌, refl, ◌≢◌, ℕ, ◌+◌, ◌-◌, ◌*◌, max, ◌≤◌, ◌<◌}
use Rattle.std.proofs.Math.Path.{fun_ext}
use Rattle.std.proofs.Common.{le_refl, le_trans, mul-le-mul_left, mul-le-mul_right, arith}
use Rattle.std.proofs.Math.Decide.{ℕ_discrete, dec_le}
use Rattle.below.specs.Below.{sum_below}
use Rattle.shares.specs.Sum.{sum_le, sum_less, sum_times, sum_one}
use Rattle.shares.specs.Own.{own, due_from, own_served, own_clock, own_low, own_front, own_far}

-- what an opening fixes: the number of flows, the leap width, and the share and cost of each flow
pub record Table : Type 0 where
  pub size : ℕ
  pub width : ℕ
  pub share : ℕ → ℕ
  pub cost : ℕ → ℕ

-- the table is one: shares of at most 1,000 thousandths, each paying for its bytes
pub record Sound (X : Table) : Type 0 where
  pub total : sum_below X.share X.size ≤ 1000
  pub covers : (j : ℕ) → j < X.size → 720000 ≤ X.share j * X.cost j

-- what the calls move: each flow's tag, and the charge of its front packet, 0 where nothing waits
pub record View : Type 0 where
  pub tag : ℕ → ℕ
  pub charge : ℕ → ℕ

-- the backlog by time t
abbrev pub backlog_by : Table → ℕ → View → ℕ → ℕ
backlog_by X c F t = sum_below (λ j. own c t (X.share j) (F.tag j) (F.charge j)) X.size

-- the room that the shares leave in a time
abbrev pub room : Table → ℕ → ℕ
room X time = sum_below X.share X.size * time

-- what is kept, with clock c and view F
pub record Good (X : Table) (c : ℕ) (F : View) : Type 0 where
  -- no more is promised by any time than the link has room for
  pub backlog : (t : ℕ) → backlog_by X c F t ≤ room X (t - c)
  -- the tag less its packet's own charge is at most 2Δ ahead of the clock
  pub near : (j : ℕ) → j < X.size → F.tag j ≤ c + 2 * X.width + F.charge j * X.cost j
  -- no packet is charged more than Δ
  pub fits : (j : ℕ) → j < X.size → F.charge j * X.cost j ≤ X.width
  -- no start is more than 2Δ ahead of the start of a flow that waits
  pub level : (a b : ℕ) → a < X.size → b < X.size → 0 < F.charge b
      → max (F.tag a) c + F.charge b * X.cost b ≤ F.tag b + 2 * X.width + F.charge a * X.cost a

-- only flow i changes: its tag becomes T and its front packet's charge n
pub record Change (i T n : ℕ) (F G : View) : Type 0 where
  pub tag_at : G.tag i ≡ T
  pub charge_at : G.charge i ≡ n
  pub tag_else : (j : ℕ) → j ≢ i → G.tag j ≡ F.tag j
  pub charge_else : (j : ℕ) → j ≢ i → G.charge j ≡ F.charge j

-- what holds at the changed flow, and held at every other, holds after the change
pub changed : {i T n : ℕ} {F G : View} → Change i T n F G → (P : ℕ → ℕ → ℕ → Type 0) → P i T n
    → ((j : ℕ) → P j (F.tag j) (F.charge j)) → (j : ℕ) → P j (G.tag j) (G.charge j)
changed {i} {G = G} h P here else j = elim (ℕ_discrete j i) as (λ _. P j (G.tag j) (G.charge j)) [
  | yes q ↦ rw (q, h.tag_at, h.charge_at) here
  | no q ↦ rw (h.tag_else j q, h.charge_else j q) (else j)
]

-- a change to what was there is none
pub unchanged : {i : ℕ} {F G : View} → Change i (F.tag i) (F.charge i) F G → G ≡ F
unchanged {F = F} {G = G} h =
    let tags : G.tag ≡ F.tag = fun_ext (changed h (λ j T n. T ≡ F.tag j) refl λ j. refl) in
    let charges : G.charge ≡ F.charge = fun_ext (changed h (λ j T n. n ≡ F.charge j) refl λ j. refl) in
    λ i. record { tag = tags i; charge = charges i }

-- two changes of one flow are the later one
pub change_again : {i T n U m : ℕ} {F M G : View} → Change i T n F M → Change i U m F G → Change i U m M G
change_again h k =
    record {
      tag_at = k.tag_at;
      charge_at = k.charge_at;
      tag_else = λ j q. rw (h.tag_else j q) (k.tag_else j q);
      charge_else = λ j q. rw (h.charge_else j q) (k.charge_else j q);
    }

-- a packet that waits will have been sent before the clock is at its tag
pub in_time : {X : Table} → Sound X → (c i : ℕ) {F : View} → Good X c F → i < X.size → 0 < F.charge i
    → c + 720 * F.charge i ≤ F.tag i
unfolding own
in_time {X} sound c i {F} g l waits =
    omega (
      arith,
      sum_one (λ j. own c (F.tag i) (X.share j) (F.tag j) (F.charge j)) X.size i l,
      due_from (F.tag i) (F.tag i) (F.charge i) (le_refl _),
      g.backlog (F.tag i),
      mul-le-mul_right (F.tag i - c) sound.total,
    )

-- the start of a flow that does not wait is the larger of its tag and the clock: it too has none more than 2Δ ahead
pub level_all : {X : Table} (c : ℕ) {F : View} → Good X c F → (a b : ℕ) → a < X.size → b < X.size
    → max (F.tag a) c + F.charge b * X.cost b ≤ max (F.tag b) c + 2 * X.width + F.charge a * X.cost a
level_all {X} c {F} g a b la lb = elim (dec_le 1 (F.charge b))
    as (λ _. max (F.tag a) c + F.charge b * X.cost b ≤ max (F.tag b) c + 2 * X.width + F.charge a * X.cost a) [
      | yes w ↦ omega (arith, g.level a b la lb w)
      | no w ↦ let none : F.charge b ≡ 0 = omega arith in rw none (omega (arith, g.near a la))
    ]

-- where each flow has no more than its room, so have all
backlog_low : (X : Table) (c d : ℕ) (F : View) (t : ℕ)
    → ((j : ℕ) → j < X.size → own c t (X.share j) (F.tag j) (F.charge j) ≤ X.share j * (t - d))
    → backlog_by X c F t ≤ room X (t - d)
backlog_low X c d F t each = rw (← (sum_times X.share X.size (t - d))) (sum_le X.size each)

-- a packet that comes to the front moves no start
pub front_start : (cost : ℕ → ℕ) (c i n : ℕ) {F G : View} → F.charge i ≡ 0
    → Change i (max (F.tag i) c + n * cost i) n F G
    → (a : ℕ) → max (G.tag a) c + F.charge a * cost a ≡ max (F.tag a) c + G.charge a * cost a
front_start cost c i n {F} idle h =
    changed h (λ a T m. max T c + F.charge a * cost a ≡ max (F.tag a) c + m * cost a) (rw idle (omega arith))
    (λ a. refl)

module _ {X : Table} (sound : Sound X) (c i n : ℕ) {F G : View} (l : i < X.size) (g : Good X c F)
    (idle : F.charge i ≡ 0) (h : Change i (max (F.tag i) c + n * X.cost i) n F G) where
  -- no tag that waits is below the clock
  front_ahead : (b : ℕ) → b < X.size → 0 < G.charge b → c ≤ G.tag b
  front_ahead = changed h (λ b T m. b < X.size → 0 < m → c ≤ T) (λ _ _. omega arith)
      (λ b m w. omega (arith, in_time sound c b g m w))

  -- front: a packet comes to the front of flow i, where nothing waits
  pub front_good : n * X.cost i ≤ X.width → Good X c G
  front_good fits =
      record {
        backlog = λ t. le_trans (sum_le X.size (changed h
            (λ j T m. j < X.size → own c t (X.share j) T m ≤ own c t (X.share j) (F.tag j) (F.charge j))
            (λ _. rw idle (own_front c t (X.share i) (F.tag i) n (X.cost i) (sound.covers i l)))
            (λ j _. le_refl _))) (g.backlog t);
        near = changed h (λ j T m. j < X.size → T ≤ c + 2 * X.width + m * X.cost j)
            (λ _. omega (arith, rw idle at (g.near i l))) g.near;
        fits = changed h (λ j T m. j < X.size → m * X.cost j ≤ X.width) (λ _. fits) g.fits;
        level = λ a b la lb w. let start = front_start X.cost c i n idle h in
            omega (arith, level_all c g a b la lb, start a, start b, front_ahead b lb w);
      }

-- leap: every tag that waits is above c + 2Δ
pub leap_good : {X : Table} → Sound X → (c : ℕ) {F : View} → Good X c F
    → ((j : ℕ) → j < X.size → 0 < F.charge j → c + 2 * X.width < F.tag j) → Good X (c + X.width) F
leap_good {X} sound c {F} g far =
    record {
      backlog = λ t. backlog_low X (c + X.width) (c + X.width) F t λ j l.
          own_far c t (X.share j) (F.tag j) (F.charge j) (X.cost j) X.width
          (sound.covers j l) (g.fits j l) (far j l);
      near = λ j l. omega (arith, g.near j l);
      fits = g.fits;
      level = λ a b la lb w. omega (arith, g.level a b la lb w, far b lb w, g.fits b lb);
    }

module _ {X : Table} (sound : Sound X) (c i : ℕ) {F G : View} (l : i < X.size) (g : Good X c F)
    (h : Change i (F.tag i) 0 F G) where
  -- the clock after the packet of flow i
  abbrev after : ℕ
  after = c + 720 * F.charge i

  -- the served flow's part falls by what was due
  served_part : (t : ℕ) → F.tag i ≤ t
      → own after t (X.share i) (F.tag i) 0 + 720000 * F.charge i ≤ own c t (X.share i) (F.tag i) (F.charge i)
  served_part t p = omega (
    arith,
    own_served after t (X.share i) (F.tag i) (F.charge i) p,
    own_clock c t (X.share i) (F.tag i) after (F.charge i) (omega arith),
  )

  -- and no other part grows
  served_less : (t : ℕ) → F.tag i ≤ t → backlog_by X after G t + 720000 * F.charge i ≤ backlog_by X c F t
  served_less t p = sum_less X.size i (720000 * F.charge i) l (rw (h.tag_at, h.charge_at) (served_part t p))
      (changed h
      (λ j T m. j < X.size → own after t (X.share j) T m ≤ own c t (X.share j) (F.tag j) (F.charge j))
      (λ _. omega (arith, served_part t p))
      λ j _. own_clock c t (X.share j) (F.tag j) after (F.charge j) (omega arith))

  -- from the served tag on the backlog falls by as much as the room, or more
  served_late : (t : ℕ) → F.tag i ≤ t → backlog_by X after G t ≤ room X (t - after)
  served_late t p = omega (
    arith,
    served_less t p,
    g.backlog t,
    mul-le-mul_left {m = t - c} {n = t - after + 720 * F.charge i} (sum_below X.share X.size) (omega arith),
    mul-le-mul_right (720 * F.charge i) sound.total,
  )

  -- before the served tag nothing that waits is due
  served_early : (t : ℕ) → t < F.tag i → ((j : ℕ) → j < X.size → 0 < F.charge j → F.tag i ≤ F.tag j)
      → backlog_by X after G t ≤ room X (t - after)
  served_early t p least = backlog_low X after after G t (changed h
      (λ j T m. j < X.size → own after t (X.share j) T m ≤ X.share j * (t - after))
      (λ _. own_low after t (X.share i) (F.tag i) 0 λ _. p)
      λ j b. own_low after t (X.share j) (F.tag j) (F.charge j) λ w. omega (arith, least j b w))

  -- the served tag and the clock after it are at most Δ ahead of the start of a flow that waits
  served_behind : 0 < F.charge i → (b : ℕ) → F.tag i ≤ F.tag b → F.charge b * X.cost b ≤ X.width
      → max (F.tag i) after + F.charge b * X.cost b ≤ F.tag b + X.width
  served_behind waits b least fits = omega (arith, in_time sound c i g l waits)

  -- serve: flow i has the smallest tag that waits, and its packet goes; the clock goes on by 720 times its charge
  pub serve_good : 0 < F.charge i → ((j : ℕ) → j < X.size → 0 < F.charge j → F.tag i ≤ F.tag j)
      → F.tag i ≤ c + 2 * X.width → Good X (c + 720 * F.charge i) G
  serve_good waits least high =
      record {
        backlog = λ t. elim (dec_le (F.tag i) t) as (λ _. backlog_by X after G t ≤ room X (t - after))
            [ yes p ↦ served_late t p | no p ↦ served_early t (omega arith) least ];
        near = changed h (λ j T m. j < X.size → T ≤ after + 2 * X.width + m * X.cost j)
            (λ _. omega arith) (λ j b. omega (arith, g.near j b));
        fits = changed h (λ j T m. j < X.size → m * X.cost j ≤ X.width) (λ _. omega arith) g.fits;
        level = λ a b la lb w. changed h
            (λ b U k. 0 < k → b < X.size
            → max (G.tag a) after + k * X.cost b ≤ U + 2 * X.width + G.charge a * X.cost a)
            (λ w _. absurd (omega arith))
            (λ b w lb. let behind = served_behind waits b (least b lb w) (g.fits b lb) in changed h
            (λ a T m. a < X.size → max T after + F.charge b * X.cost b ≤ F.tag b + 2 * X.width + m * X.cost a)
            (λ _. omega (arith, behind))
            (λ a la. omega (arith, behind, g.level a b la lb w))
            a la)
            b w lb;
      }

-- reset: an opening, or Idle
pub reset_good : (X : Table) {c : ℕ} {F : View} → ((j : ℕ) → j < X.size → F.tag j ≡ 0)
    → ((j : ℕ) → j < X.size → F.charge j ≡ 0) → Good X c F
reset_good X {c} {F} tags charges =
    record {
      backlog = λ t. backlog_low X c c F t λ j l.
          own_low c t (X.share j) (F.tag j) (F.charge j) λ w. absurd (omega (arith, charges j l));
      near = λ j l. omega (arith, tags j l);
      fits = λ j l. rw (charges j l) (omega arith);
      level = λ a b la lb w. absurd (omega (arith, charges b lb));
    }
