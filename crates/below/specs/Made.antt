-- A list made by a rule in a loop, entry by entry from the first: what it has come to after each turn.
-- Assumes nothing.
use Rattle.std.specs.Prelude.{◌≡◌, List, ℕ, ◌+◌, ◌≤◌, ◌<◌, length, set, replicate}
use Rattle.std.proofs.Common.{sym, ◌∙◌, zero-add, arith}
use Rattle.std.proofs.lemmas.List.{length-replicate}
use Rattle.below.specs.Listed.{listed, length_listed, listed_at}
use Rattle.below.specs.Copied.{Copied, copied_none, copied_more, copied_all}

-- the first k of n entries are by the rule, the others still d
pub record Made {A : Type 0} (rule : ℕ → A) (d : A) (n k : ℕ) (l : List A) : Type 0 where
  pub reached : k ≤ n
  pub made : Copied (listed rule 0 n) (replicate n d) k l

module _ {A : Type 0} (rule : ℕ → A) (d : A) (n : ℕ) where
  same : length (listed rule 0 n) ≡ length (replicate n d)
  same = length_listed rule 0 n ∙ sym (length-replicate n d)

  pub made_none : Made rule d n 0 (replicate n d)
  made_none = record { reached = omega arith; made = copied_none (listed rule 0 n) (replicate n d) same }

  module _ (k : ℕ) (l : List A) (m : Made rule d n k l) where
    -- a loop's turn
    pub made_more : (a : A) → k < n → a ≡ rule k → Made rule d n (k + 1) (set l k a)
    made_more a h e =
        record {
          reached = omega arith;
          made = rw (e ∙ sym (listed_at rule 0 n k d h ∙ rw zero-add))
              (copied_more (listed rule 0 n) (replicate n d) same k l d
              (omega (arith, length_listed rule 0 n)) m.made);
        }

    pub made_all : n ≤ k → l ≡ listed rule 0 n
    made_all h = let long = length_listed rule 0 n in
        copied_all (listed rule 0 n) (replicate n d) same k l (omega (arith, long))
        (omega (arith, long, m.reached)) m.made
