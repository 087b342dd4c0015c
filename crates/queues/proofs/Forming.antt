-- What each way through the test of one queue finds: eight lengths at once, one stretch of the memory or two, or all
-- of the flow's places.
-- Assumes nothing.
use Rattle.std.proofs.Common.{◌≡◌, ℕ, ◌+◌, ◌-◌, ◌*◌, ◌%◌, ◌^◌, ◌<◌, ◌≤◌, Bool, true, ◌&&◌, eqb, leb, List, length, get_or, take, drop, sym, refl, ap, ◌∙◌, ap₂, arith, length-drop, length-take-le, get_or-drop, get_or-take, eqb-true, le-leb, leb-true}
use lib.Bits.{bit_or, or_zero_r, or_add_and, and_le_l}
use Rattle.below.specs.Below.{all_below, all_below_none, all_below_at, all_below_of, all_below_add, all_below_same}
use Rattle.below.specs.Truth.{same_truth, and_true}
use Rattle.below.specs.Faults.{fault_turn, not_over}
use Rattle.cost.specs.Cost.{within, within_of, within_bounds}
use Rattle.queues.specs.Queue.{place_of}
use Rattle.queues.specs.Form.{lengths_formed}
use Rattle.queues.specs.Fence.{fenced, fencing}

-- y is x less 1, where 0 goes round to 65,535: from 1 to `high` is one test
pub one_test : (x y high : ℕ) → (y + 1) % 2 ^ 16 ≡ x → y < 65536 → 0 < high → high < 65536
    → leb y (high - 1) ≡ within 1 high x
one_test x y high e h l k = same_truth (leb y (high - 1)) (within 1 high x)
    (λ t. let z : y ≤ high - 1 = leb-true y (high - 1) t in within_of 1 high x (omega arith) (omega arith))
    (λ t. let z = within_bounds 1 high x t in le-leb y (high - 1) (omega arith))

-- by how much x less 1 is over `high` less 1 is no fault where x is from 1 to `high`
pub one_fault : (x high : ℕ) → x < 65536 → 0 < high → high < 65536
    → eqb ((x + 65535) % 65536 - (high - 1)) 0 ≡ within 1 high x
one_fault x high h low k = not_over ((x + 65535) % 65536) (high - 1)
    ∙ one_test x ((x + 65535) % 65536) high (omega arith) (omega arith) low k

-- a turn of the test of a stretch, its fault here added to those before
pub stretch_turn : (ls : List ℕ) (largest i wrong here : ℕ) → 0 < largest → largest < 65536 → get_or ls i 0 < 65536
    → here ≡ (get_or ls i 0 + 65535) % 65536 - (largest - 1)
    → eqb wrong 0 ≡ all_below (λ k. within 1 largest (get_or ls k 0)) i
    → eqb (bit_or wrong here) 0 ≡ all_below (λ k. within 1 largest (get_or ls k 0)) (i + 1)
stretch_turn ls largest i wrong here low high h o all =
    fault_turn (λ k. within 1 largest (get_or ls k 0)) i wrong here all
    (ap (λ n. eqb n 0) o ∙ one_fault (get_or ls i 0) largest h low high)

-- the same with a fence
pub eight_turn : (ls fence : List ℕ) (largest i wrong here : ℕ)
    → here ≡ (get_or ls i 0 + 65535) % 65536 - bit_or (largest - 1) (get_or fence i 0)
    → eqb wrong 0 ≡ all_below (λ k. fenced largest (get_or fence k 0) (get_or ls k 0)) i
    → eqb (bit_or wrong here) 0 ≡ all_below (λ k. fenced largest (get_or fence k 0) (get_or ls k 0)) (i + 1)
unfolding fenced
eight_turn ls fence largest i wrong here o all =
    fault_turn (λ k. fenced largest (get_or fence k 0) (get_or ls k 0)) i wrong here all
    (ap (λ n. eqb n 0) o ∙ not_over ((get_or ls i 0 + 65535) % 65536) (bit_or (largest - 1) (get_or fence i 0)))

-- the lengths from place a up to place e, as a slice of the memory holds them
abbrev pub part : List ℕ → ℕ → ℕ → List ℕ
part ls a e = take (e - a) (drop a ls)

-- the length at a place is from 1 to `most`
abbrev pub fits : ℕ → List ℕ → ℕ → Bool
fits most ls k = within 1 most (get_or ls k 0)

-- what `stretch_ok` says of such a stretch
abbrev pub says : ℕ → List ℕ → ℕ → ℕ → Bool
says most ls a e = all_below (fits most (part ls a e)) (length (part ls a e))

part_length : (ls : List ℕ) (a e n : ℕ) → a + n ≡ e → e ≤ length ls → length (part ls a e) ≡ n
part_length ls a e n h l = length-take-le (e - a) (drop a ls) (rw length-drop (omega arith)) ∙ omega arith

part_at : (ls : List ℕ) (a e k : ℕ) → a + k < e → get_or (part ls a e) k 0 ≡ get_or ls (a + k) 0
part_at ls a e k h = get_or-take (e - a) (drop a ls) k 0 (omega arith) ∙ get_or-drop a ls k 0

-- n lengths from place a on, whose places a rule q counts
stretch : (most : ℕ) (ls : List ℕ) (a e n : ℕ) (q : ℕ → ℕ) → a + n ≡ e → e ≤ length ls
    → ((k : ℕ) → k < n → a + k ≡ q k) → says most ls a e ≡ all_below (λ k. fits most ls (q k)) n
stretch most ls a e n q h l same = ap (all_below (fits most (part ls a e))) (part_length ls a e n h l)
    ∙ all_below_same (fits most (part ls a e)) (λ k. fits most ls (q k)) n
    (λ k u. ap (within 1 most) (part_at ls a e k (omega arith) ∙ ap (λ i. get_or ls i 0) (same k u)))

-- a queue in one stretch, and one that passes the flow's last place
module _ (largest first waiting f : ℕ) (ls : List ℕ) (room : 64 * f + 64 ≤ length ls) (begun : first < 64)
    (few : waiting ≤ 64) where
  abbrev start : ℕ
  start = 64 * f + first

  abbrev end : ℕ
  end = start + waiting

  abbrev at : ℕ → ℕ
  at = place_of f first

  abbrev good : ℕ → Bool
  good k = fits largest ls (at k)

  pub one_stretch : (r : Bool) → end ≤ 64 * f + 64 → r ≡ says largest ls start end
      → r ≡ lengths_formed f ls largest first waiting
  unfolding lengths_formed
  one_stretch r h e = e ∙ stretch largest ls start end waiting at refl (omega arith) (λ k u. omega arith)

  pub two_stretches : (r s : Bool) → 64 * f + 64 < end → r ≡ says largest ls start (64 * f + 64)
      → s ≡ says largest ls (64 * f) (end - 64) → (r && s) ≡ lengths_formed f ls largest first waiting
  unfolding lengths_formed
  two_stretches r s h d e = let i = 64 - first in let n = first + waiting - 64 in
      let back : ℕ → ℕ = λ k. at (i + k) in
      ap₂ ◌&&◌
      (d ∙ stretch largest ls start (64 * f + 64) i at (omega arith) room (λ k u. omega arith))
      (e ∙ stretch largest ls (64 * f) (end - 64) n back (omega arith) (omega arith) (λ k u. omega arith))
      ∙ sym (all_below_add good i n) ∙ ap (all_below good) (omega arith)

  -- a full queue: all the flow's places, wherever it begins
  pub full_ring : (r : Bool) → 64 ≤ waiting → r ≡ says largest ls (64 * f) (64 * f + 64)
      → r ≡ lengths_formed f ls largest first waiting
  unfolding lengths_formed
  full_ring r h e = let all : ℕ → Bool = λ k. fits largest ls (64 * f + k) in
      e ∙ stretch largest ls (64 * f) (64 * f + 64) 64 (λ k. 64 * f + k) refl room (λ k u. refl)
      ∙ same_truth (all_below all 64) (all_below good 64)
      (λ t. all_below_of good 64 λ k u. all_below_at all 64 t ((first + k) % 64) (omega arith))
      (λ t. all_below_of all 64 λ j u. ap (fits largest ls) (omega arith)
      ∙ all_below_at good 64 t ((j + 64 - first) % 64) (omega arith))
      ∙ ap (all_below good) (omega arith)

fence_low : (j : ℕ) → j < 8 → get_or fencing j 0 ≡ 0
unfolding fencing all_below
fence_low j h = eqb-true (get_or fencing j 0) 0 (all_below_at (λ i. eqb (get_or fencing i 0) 0) 8 refl j h)

fence_high : (j : ℕ) → j < 8 → get_or fencing (8 + j) 0 ≡ 65535
unfolding fencing all_below
fence_high j h =
    eqb-true (get_or fencing (8 + j) 0) 65535 (all_below_at (λ i. eqb (get_or fencing (8 + i) 0) 65535) 8 refl j h)

-- a tested length, and one let through
fenced_in : (largest x : ℕ) → 0 < largest → largest < 65536 → x < 65536 → fenced largest 0 x ≡ within 1 largest x
unfolding fenced
fenced_in largest x l h k = rw or_zero_r (one_test x ((x + 65535) % 65536) largest (omega arith) (omega arith) l h)

fenced_out : (largest x : ℕ) → fenced largest 65535 x ≡ true
unfolding fenced
fenced_out largest x =
    le-leb ((x + 65535) % 65536) (bit_or (largest - 1) 65535)
    (omega (arith, or_add_and (largest - 1) 65535, and_le_l (largest - 1) 65535))

-- a short queue in a window of eight: the fence lets through what is past its last packet
pub short_queue : (largest first waiting f : ℕ) (ls : List ℕ) (r : Bool)
    → 64 * f + 64 ≤ length ls → ((k : ℕ) → get_or ls k 0 < 65536) → first ≤ 56 → waiting ≤ 8 → 0 < largest
    → largest < 65536
    → r ≡ all_below (λ k. fenced largest (get_or (part fencing (8 - waiting) (8 - waiting + 8)) k 0)
    (get_or (part ls (64 * f + first) (64 * f + first + 8)) k 0)) 8
    → r ≡ lengths_formed f ls largest first waiting
unfolding lengths_formed
short_queue largest first waiting f ls r room small begun few low high e =
    e ∙ all_below_same _ both 8 each ∙ ap (all_below both) split ∙ all_below_add both waiting (8 - waiting)
    ∙ ap₂ ◌&&◌ (all_below_same both good waiting front) (all_below_of _ (8 - waiting) back)
    ∙ and_true (all_below good waiting)
  where
    good : ℕ → Bool
    good k = within 1 largest (get_or ls (place_of f first k) 0)

    both : ℕ → Bool
    both k = fenced largest (get_or fencing (8 - waiting + k) 0) (get_or ls (64 * f + first + k) 0)

    split : 8 ≡ waiting + (8 - waiting)
    split = omega arith

    each : (k : ℕ) → k < 8
        → fenced largest (get_or (part fencing (8 - waiting) (8 - waiting + 8)) k 0)
        (get_or (part ls (64 * f + first) (64 * f + first + 8)) k 0) ≡ both k
    each k h = ap₂ (fenced largest) (part_at fencing (8 - waiting) (8 - waiting + 8) k (omega arith))
        (part_at ls (64 * f + first) (64 * f + first + 8) k (omega arith))

    front : (k : ℕ) → k < waiting → both k ≡ good k
    front k h =
        ap (λ n. fenced largest n (get_or ls (64 * f + first + k) 0)) (fence_low (8 - waiting + k) (omega arith))
        ∙ fenced_in largest (get_or ls (64 * f + first + k) 0) low high (small (64 * f + first + k))
        ∙ ap (λ n. within 1 largest (get_or ls n 0)) (omega arith)

    back : (k : ℕ) → k < 8 - waiting → both (waiting + k) ≡ true
    back k h = ap (λ n. fenced largest (get_or fencing n 0) (get_or ls (64 * f + first + (waiting + k)) 0)) (omega arith)
        ∙ ap (λ n. fenced largest n (get_or ls (64 * f + first + (waiting + k)) 0)) (fence_high k (omega arith))
        ∙ fenced_out largest (get_or ls (64 * f + first + (waiting + k)) 0)

pub all_none : (p : ℕ → Bool) → true ≡ all_below p 0
all_none p = sym (all_below_none p)

-- what each way through the test of a stretch gives
pub ruleset stretch_ways = (all_none, stretch_turn)

-- what each way through the test of a long queue gives
pub ruleset ring_ways = (full_ring, one_stretch, two_stretches)
