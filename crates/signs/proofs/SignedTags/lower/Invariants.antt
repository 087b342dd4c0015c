-- `signs::SignedTags::lower` meets its contract. The loop's invariant: the tags before the index are lowered, and the
-- others are as they were.
use Rattle.std.proofs.Common.{◌≡◌, ℕ, ◌<◌, ◌≤◌, pos, length, get_or}
use Rattle.signs.specs.Tags.{lowered}
use Rattle.signs.proofs.SignedTags.lower.Given as goal

abbrev pub invariant-loop-tag : goal.invariant-loop-tag
invariant-loop-tag l = record {
  long : length l.tag-items ≡ 64;
  lowered_before : (k : ℕ) → k < l.tag-index → get_or l.tag-items k (pos 0) ≡ lowered l.width (get_or l.fn.self.0 k (pos 0));
  kept : (k : ℕ) → l.tag-index ≤ k → get_or l.tag-items k (pos 0) ≡ get_or l.fn.self.0 k (pos 0);
}
