-- The test of eight lengths at once, of which the fence lets some through. Code alone cites it: `Laws` shows that a
-- short queue is well formed just where it passes.
-- Assumes nothing.
use Rattle.std.specs.Prelude.{ℕ, ◌+◌, ◌-◌, ◌%◌, Bool, List, ◌++◌, replicate, bit_or, nat_le}

-- x less 1, where 0 goes round to 65,535, is at most `largest` less 1 with the fence's bits
unfoldable pub fenced : ℕ → ℕ → ℕ → Bool
fenced largest fence x = nat_le ((x + 65535) % 65536) (bit_or (largest - 1) fence)

-- eight places that are looked at, then eight that are let through
unfoldable pub fencing : List ℕ
fencing = replicate 8 0 ++ replicate 8 65535
