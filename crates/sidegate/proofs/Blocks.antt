-- How a block is read and written.
-- Assumes nothing.
use mathlib.Core.Path.{◌≡◌, sym, ap, ap₂, ◌∙◌}
use mathlib.Core.List.{List, [], ◌∷◌, ◌++◌}
use Prim.Native.Nat.{ℕ}
use native.Mathlib.Omega.{arith}
use lib.IntN.{ℤ}
use lib.ListN.{length, get_or, set, drop, length-set}
use lib.Seq.{drop-cons, drop-length, get_or-set_same}
use Rattle.tags.specs.Ticks.{ticks}
use Rattle.uplink.specs.Record.{with, tags_of}
use Rattle.uplink.specs.declared.Record as forward
use Rattle.backward.specs.Record.{signed_tags}
use Rattle.backward.specs.declared.Record.{Record}
use Rattle.gateway.specs.Image.{part, words_of, record_of}
use Rattle.sidegate.specs.Image.{signed_all, words_all, unsigned, plain_words, plain_of}

-- the record that was read part by part
pub plain_read : (words : List ℕ) (first : forward.Record) (tags : List ℤ) → first ≡ record_of (part words 0 132)
    → tags ≡ signed_all first.tags.0
    → record {
      flows = first.flows;
      header = first.header;
      width = first.width;
      sum = ticks (get_or words 132 0);
      clock = first.clock;
      link = first.link;
      tags = signed_tags tags;
      queues = first.queues;
      turn = first.turn;
    }
    ≡ plain_of words
unfolding plain_of
plain_read words first tags e t = rw (t, e)

-- the last word, written and read
last_word : (words : List ℕ) (sum : ℕ) → length words ≡ 133 → drop 132 (set words 132 sum) ≡ sum ∷ []
last_word words sum h =
    let long : length (set words 132 sum) ≡ 133 = length-set words 132 sum ∙ h in
    drop-cons (set words 132 sum) 132 0 (omega (arith, long))
    ∙ ap₂ (λ a l. a ∷ l) (get_or-set_same words 132 sum 0 (omega (arith, h)))
    (ap (λ n. drop n (set words 132 sum)) (sym long) ∙ drop-length (set words 132 sum))

-- a record written part by part
module _ (words : List ℕ) (r : Record) (tags block : List ℕ) (h : length words ≡ 133) (t : tags ≡ words_all r.tags.0)
    (b : block ≡ words_of (with (unsigned r) r.clock r.link (tags_of tags) r.queues r.turn)) where
  pub plain_written : block ++ drop 132 (set words 132 r.sum.0) ≡ plain_words r
  unfolding plain_words
  plain_written = ap (λ rest. block ++ rest) (last_word words r.sum.0 h) ∙ rw (b, t)
