-- What the tests of specs/Content.antt say of the words, in bounds: what such words tell fits its fields.
-- Assumes nothing.
use Rattle.std.specs.Prelude.{◌≡◌, true, List, ℕ, ◌^◌, ◌<◌, get_or}
use Rattle.std.proofs.Common.{ltb-true}
use Rattle.below.specs.Below.{all_below}
use Rattle.below.specs.Truth.{both_true}
use Rattle.cardgate.specs.Content.{entry_fit, place_fit, content_fit}

-- the bounds that the test of five words gives
pub record Fitting (words : List ℕ) : Type 0 where
  pub kind : get_or words 0 0 < 2 ^ 8
  pub flow : get_or words 1 0 < 2 ^ 8
  pub length : get_or words 2 0 < 2 ^ 16
  pub handle : get_or words 3 0 < 2 ^ 32

pub fitting : (words : List ℕ) → entry_fit words ≡ true → Fitting words
unfolding entry_fit
fitting words e =
    let first = both_true _ _ e in
    let second = both_true _ _ first.1 in
    let third = both_true _ _ second.1 in
    record {
      kind = ltb-true _ _ first.0;
      flow = ltb-true _ _ second.0;
      length = ltb-true _ _ third.0;
      handle = ltb-true _ _ third.1;
    }

-- the bounds that the test of a content gives, and the test of every entry
pub record FittingContent (words : List ℕ) : Type 0 where
  pub number : get_or words 0 0 < 2 ^ 32
  pub count : get_or words 1 0 < 2 ^ 8
  pub each : all_below (place_fit words) 31 ≡ true

pub fitting_content : (words : List ℕ) → content_fit words ≡ true → FittingContent words
unfolding content_fit
fitting_content words e =
    let first = both_true _ _ e in
    let second = both_true _ _ first.1 in
    record { number = ltb-true _ _ first.0; count = ltb-true _ _ second.0; each = second.1 }
