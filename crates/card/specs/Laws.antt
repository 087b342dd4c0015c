-- The bytes of a block, part by part: what is where, and how long. The entries and the two sums are read off at once.
-- Assumes nothing.
use Rattle.std.specs.Prelude.{◌≡◌, get_or, take, drop}
use Rattle.std.proofs.Common.{sym, ◌∙◌, arith, drop-drop}
use Rattle.std.proofs.Math.Path.{ap}
use mathlib.Core.List.{List}
use Prim.Native.Nat.{ℕ, ◌+◌, ◌*◌, ◌≤◌, ◌<◌}
use Rattle.std.proofs.Math.ListN.{length, length-append, length-drop}
use Rattle.std.proofs.Math.Seq.{take_at, drop_at, take-append-le}
use Rattle.std.proofs.lemmas.List.{drop-append-le}
use Rattle.below.specs.Joined.{joined_long, joined_at}
use Rattle.fields.specs.Bytes.{bytes_of, part}
use Rattle.sums.specs.Sums.{sums_of}
use Rattle.sums.specs.declared.Sums.{Sums}
use Rattle.entries.specs.Entry.{entry_bytes, no_entry}
use Rattle.entries.specs.Laws.{entry_sixteen}
use Rattle.card.specs.declared.Block.{Block}
use Rattle.card.specs.Block.{entries_bytes, body_bytes, sum_bytes, block_bytes}

module _ (b : Block) (all : length b.entries ≡ 31) where
  abbrev sums : Sums
  sums = sums_of (body_bytes b)

  pub entries_size : length (entries_bytes b.entries) ≡ 496
  entries_size = joined_long entry_bytes 16 entry_sixteen b.entries ∙ ap (λ n. 16 * n) all

  pub body_size : length (body_bytes b) ≡ 508
  unfolding body_bytes bytes_of
  body_size = omega (arith, entries_size)

  pub block_size : length (block_bytes b) ≡ 512
  unfolding block_bytes sum_bytes bytes_of
  block_size = length-append (body_bytes b) (sum_bytes sums) ∙ omega (arith, body_size)

  pub block_body : part (block_bytes b) 0 508 ≡ body_bytes b
  unfolding block_bytes
  block_body = take_at (body_bytes b) (sum_bytes sums) 508 body_size

  tail : drop 508 (block_bytes b) ≡ sum_bytes sums
  unfolding block_bytes
  tail = drop_at (body_bytes b) (sum_bytes sums) 508 body_size

  pub block_first : part (block_bytes b) 508 2 ≡ bytes_of 2 sums.first
  unfolding sum_bytes bytes_of
  block_first = ap (take 2) tail

  pub block_second : part (block_bytes b) 510 2 ≡ bytes_of 2 sums.second
  unfolding sum_bytes bytes_of
  block_second = ap (take 2) (sym (drop-drop 2 508 (block_bytes b)) ∙ ap (drop 2) tail)

  pub block_entry : (k : ℕ) → k < 31 → part (block_bytes b) (12 + 16 * k) 16 ≡ entry_bytes (get_or b.entries k no_entry)
  unfolding block_bytes body_bytes bytes_of
  block_entry k h =
      let bytes : List ℕ = entries_bytes b.entries in
      let n : 16 * k + 16 ≤ length bytes = omega (arith, entries_size) in
      ap (take 16) (sym (drop-drop (16 * k) 12 (block_bytes b)))
      ∙ ap (take 16) (drop-append-le (16 * k) bytes (sum_bytes sums) (omega arith))
      ∙ take-append-le 16 (drop (16 * k) bytes) (sum_bytes sums) (simp length-drop (omega arith))
      ∙ joined_at entry_bytes 16 entry_sixteen b.entries k no_entry (omega (arith, all))
