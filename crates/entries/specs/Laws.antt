-- Entries and their sixteen bytes undo each other, and so do kinds and their numbers: what callers use.
-- Assumes nothing.
use Rattle.std.specs.Prelude.{◌≡◌, refl, ℕ, Some, length, drop}
use Rattle.std.proofs.Common.{sym, ap₂, ◌∙◌, arith, length-drop, drop-cons, take_all}
use Rattle.std.proofs.Math.Path.{ap}
use mathlib.Core.List.{List, ◌∷◌, ◌++◌}
use Rattle.std.proofs.Math.ListN.{get_or}
use Rattle.fields.specs.Bytes.{bytes_of, part, Small}
use Rattle.fields.specs.Laws.{number_bytes, part_below, part_again, part_join}
use Rattle.entries.specs.declared.Entry.{Entry}
use Rattle.entries.specs.declared.Kind.{Kind}
use Rattle.entries.specs.declared.Kind.TheVariants.{Arrival, Pick, Leap, Idle}
use Rattle.entries.specs.Legal.{kind_of, kind_number}
use Rattle.entries.specs.Entry.{entry_bytes, entry_of, EntryFits}

pub entry_sixteen : (e : Entry) → length (entry_bytes e) ≡ 16
unfolding entry_bytes bytes_of
entry_sixteen e = refl

-- reading what was written
pub entry_read : (e : Entry) → EntryFits e → entry_of (entry_bytes e) ≡ e
unfolding entry_of entry_bytes bytes_of
entry_read e f = λ i. record {
  kind = e.kind;
  flow = e.flow;
  length = number_bytes 2 e.length f.length i;
  handle = number_bytes 4 e.handle f.handle i;
  clock = number_bytes 8 e.clock f.clock i;
}

module _ (bytes : List ℕ) (h : length bytes ≡ 16) where
  -- sixteen bytes are their parts
  parts : get_or bytes 0 0 ∷ get_or bytes 1 0 ∷ (part bytes 2 2 ++ (part bytes 4 4 ++ part bytes 8 8)) ≡ bytes
  parts =
      let four : part bytes 4 4 ++ part bytes 8 8 ≡ part bytes 4 12 = part_join bytes 4 4 8 in
      let two : part bytes 2 2 ++ (part bytes 4 4 ++ part bytes 8 8) ≡ drop 2 bytes =
      ap (λ t. part bytes 2 2 ++ t) four ∙ part_join bytes 2 2 12
      ∙ take_all 14 (drop 2 bytes) (simp length-drop (omega arith)) in
      ap (λ t. get_or bytes 0 0 ∷ get_or bytes 1 0 ∷ t) two
      ∙ ap (λ t. get_or bytes 0 0 ∷ t) (sym (drop-cons bytes 1 0 (omega arith)))
      ∙ sym (drop-cons bytes 0 0 (omega arith))

  -- writing what was read
  pub entry_again : Small bytes → entry_bytes (entry_of bytes) ≡ bytes
  unfolding entry_of entry_bytes
  entry_again s =
      ap (λ t. get_or bytes 0 0 ∷ get_or bytes 1 0 ∷ t)
      (ap₂ ◌++◌ (part_again bytes 2 2 s (omega arith))
      (ap₂ ◌++◌ (part_again bytes 4 4 s (omega arith)) (part_again bytes 8 8 s (omega arith)))) ∙ parts

-- what sixteen bytes say fits its fields
pub entry_small : (bytes : List ℕ) → length bytes ≡ 16 → Small bytes → EntryFits (entry_of bytes)
unfolding entry_of
entry_small bytes h s =
    record {
      kind = s 0;
      flow = s 1;
      length = part_below bytes 2 2 s (omega arith);
      handle = part_below bytes 4 4 s (omega arith);
      clock = part_below bytes 8 8 s (omega arith);
    }

-- a kind's number is that kind's
pub kind_again : (kind : Kind) → kind_of (kind_number kind) ≡ Some kind
unfolding kind_of
kind_again Arrival = refl
kind_again Pick = refl
kind_again Leap = refl
kind_again Idle = refl
