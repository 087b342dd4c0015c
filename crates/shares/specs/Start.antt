-- Where a flow stands in its own time. Its start is its tag less the ticks of its front packet, or the larger of tag
-- and clock where nothing waits. A packet that comes to the front moves no start, a pick moves the start of its own
-- flow on by what it charges, and the clock takes the start of a flow that does not wait with it.
-- In numbers alone: T is a tag, n the charge of the front packet, 0 where nothing waits, and c the clock.
-- Assumes nothing.
use Rattle.std.specs.Prelude.{◌≡◌, refl, cond, ℕ, ◌+◌, ◌-◌, ◌*◌, max, ◌≤◌, eqb}
use Rattle.std.proofs.Common.{sym, le_refl, arith, eq-eqb, ne_eqb}
use Rattle.std.proofs.Math.Decide.{ℕ_discrete}
use Rattle.shares.specs.Keep.{View, Change, changed, front_start}

-- the start is at most R, said without subtraction
abbrev pub Low : ℕ → ℕ → ℕ → ℕ → ℕ → Type 0
Low R cost c T n = max T c ≤ R + n * cost

-- the ticks by which the start is behind a point, 0 where it is not
abbrev pub behind : ℕ → ℕ → ℕ → ℕ → ℕ → ℕ
behind point cost c T n = point + n * cost - max T c

-- a step of a flow of this cost, of which a charge of b is picked: from clock c, tag T and front charge n to d, U and m
pub record Moves (cost b c T n d U m : ℕ) : Type 0 where
  -- its start goes on by b or more
  pub lifts : max T c + m * cost + b * cost ≤ max U d + n * cost
  -- and by no more, where the clock does not pass what is at its front
  pub low : (R : ℕ) → d ≤ R + n * cost → Low R cost c T n → Low (R + b * cost) cost d U m
  -- what is picked was in front
  pub had : b ≤ n
  -- and what is not picked stays there
  pub stays : n ≤ m + b

-- such is a step that takes the start on by b from where the new clock finds it
moves_by : {cost b c T n d U m : ℕ} → c ≤ d → max U d + n * cost ≡ max T d + m * cost + b * cost → b ≤ n → n ≤ m + b
    → Moves cost b c T n d U m
moves_by on start had stays = record { lifts = omega arith; low = λ R h low. omega arith; had = had; stays = stays }

-- a step on which a front follows
pub moves_then : {cost b c T n d U m W k : ℕ} → Moves cost b c T n d U m → Moves cost 0 d U m d W k
    → Moves cost b c T n d W k
moves_then {cost} {b} first then =
    record {
      lifts = omega (arith, first.lifts, then.lifts);
      low = λ R h low. let on = first.low R h low in omega (arith, then.low (R + b * cost) (omega (arith, on)) on);
      had = first.had;
      stays = omega (arith, first.stays, then.stays);
    }

-- where a step picks no more than the start is behind a point, and later no more is picked than it is then behind a
-- reach at or past that point, both together are no more than it was behind the reach
pub behind_more : {cost b c T n d U m : ℕ} → Moves cost b c T n d U m → (point reach later : ℕ)
    → b * cost ≤ behind point cost c T n → point ≤ reach → later * cost ≤ behind reach cost d U m
    → (b + later) * cost ≤ behind reach cost c T n
behind_more moves point reach later turn below rest = omega (arith, moves.lifts)

-- the step of flow f from clock c and view F to clock d and view G
abbrev pub MovesAt : (ℕ → ℕ) → ℕ → ℕ → ℕ → View → ℕ → View → Type 0
MovesAt cost f b c F d G = Moves (cost f) b c (F.tag f) (F.charge f) d (G.tag f) (G.charge f)

-- nothing changes
pub same_moves : (cost : ℕ → ℕ) (c : ℕ) {F G : View} → G ≡ F → (f : ℕ) → MovesAt cost f 0 c F c G
same_moves cost c same f = rw same (moves_by (le_refl c) (omega arith) (omega arith) (omega arith))

-- front: no start moves
pub front_moves : (cost : ℕ → ℕ) (c i n : ℕ) {F G : View} → F.charge i ≡ 0
    → Change i (max (F.tag i) c + n * cost i) n F G → (f : ℕ) → MovesAt cost f 0 c F c G
front_moves cost c i n {F} idle h f =
    moves_by (le_refl c) (omega (arith, front_start cost c i n idle h f)) (omega arith)
    (changed h (λ f U m. F.charge f ≤ m + 0) (rw idle (omega arith)) (λ f. omega arith) f)

-- serve: the start of flow i moves on by its packet's charge
pub serve_moves : (cost : ℕ → ℕ) (c d i : ℕ) {F G : View} → c ≤ d → Change i (F.tag i) 0 F G → (f : ℕ)
    → MovesAt cost f (cond (eqb i f) (F.charge i) 0) c F d G
serve_moves cost c d i {F} {G} on h f = elim (ℕ_discrete f i)
    as (λ _. MovesAt cost f (cond (eqb i f) (F.charge i) 0) c F d G) [
      | yes q ↦ rw (q, h.tag_at, h.charge_at, eq-eqb i i refl)
          (moves_by on (omega arith) (omega arith) (omega arith))
      | no q ↦ rw (h.tag_else f q, h.charge_else f q, ne_eqb i f λ e. q (sym e))
          (moves_by on (omega arith) (omega arith) (omega arith))
    ]
