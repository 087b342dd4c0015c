-- What each way through the form test gives.
-- Assumes nothing.
use Rattle.std.specs.Prelude.{◌≡◌, refl, Bool, true, false, List, ℕ, ◌+◌, ◌-◌, ◌≤◌, ◌<◌}
use Rattle.std.proofs.Common.{◌∙◌, ap, arith}
use Rattle.uplink.specs.Form as first
use Rattle.uplink.specs.Form.{clock_end}
use Rattle.uplink.specs.Formed.{formed_out}
use Rattle.uplink.specs.declared.Record as forward
use Rattle.backward.specs.Raised.{raised_record}
use Rattle.backward.specs.Form.{formed}
use Rattle.backward.specs.declared.Record.{Record}

module _ (r : Record) (lengths : List ℕ) where
  -- clock and sum together are at their end or past it: the record is not well formed
  too_late : clock_end ≤ r.clock.0 + r.sum.0 → false ≡ formed r lengths
  too_late h = go (formed r lengths) refl
    where
      go : (b : Bool) → formed r lengths ≡ b → false ≡ b
      go false e = refl
      go true e = absurd (omega (arith, (formed_out (raised_record r) lengths e).clock))

  pub sum_ended : clock_end ≤ r.sum.0 → false ≡ formed r lengths
  sum_ended h = too_late (omega (arith, h))

  pub clock_ended : r.sum.0 < clock_end → clock_end - r.sum.0 ≤ r.clock.0 → false ≡ formed r lengths
  clock_ended l h = too_late (omega (arith, l, h))

  -- otherwise the first engine's test of the record with the sum added tells
  pub as_raised : (q : forward.Record) (b : Bool) → q ≡ raised_record r → b ≡ first.formed q lengths → b ≡ formed r lengths
  as_raised q b e t = t ∙ ap (λ p. first.formed p lengths) e

pub ruleset checking = (sum_ended, clock_ended, as_raised)
