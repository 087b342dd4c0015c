-- `console::read_input`: what a read adds to the buffer stands behind what was read before.
-- Assumes nothing.
use Rattle.std.proofs.Common.{◌≡◌, ℕ, ◌+◌, ◌≤◌, List, ◌++◌, length, take, rules, sym, ap, ◌∙◌, subst, length-take-le}
use Rattle.std.proofs.Math.Seq.{take-append-add}
use Rattle.std.proofs.lemmas.List.{take-append-le}
use Rattle.std.specs.Io.KnownBytes.{Consumes}
use Rattle.std.proofs.KnownBytes.{Consumes-trans}
use Rattle.console.proofs.read_input.Goals as goal

-- the first at + more bytes, where those from at on begin with what was read
read_behind : (input read rest : List ℕ) (at more : ℕ) → at ≤ length input → more ≤ length read
    → take at input ++ take more read ≡ take (at + more) (take at input ++ (read ++ rest))
read_behind input read rest at more within fits =
    ap (λ l. take at input ++ l) (sym (take-append-le more read rest fits))
    ∙ sym (take-append-add (take at input) (read ++ rest) more)
    ∙ ap (λ n. take (n + more) (take at input ++ (read ++ rest))) (length-take-le at input within)

pub loop-count-preserved : goal.loop-count-preserved
loop-count-preserved g c = record {
  within = search rules;
  consumed = subst (Consumes _ _) (read_behind _ _ _ _ _ c.loop-count.invariant.within c.in-Ok.ensures.bound.0)
      (Consumes-trans _ _ _ _ _ c.loop-count.invariant.consumed c.in-Ok.ensures.bytes.0);
}
