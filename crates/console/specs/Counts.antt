-- How many bytes of a buffer were read.
-- Assumes nothing.
use Rattle.std.specs.Prelude.{◌≡◌, List, ℕ, ◌≤◌, length, take, Result, Ok, Err}
use Rattle.console.specs.declared.Stopped.{Stopped}

-- The first n bytes of a buffer are there, and are n. The second part follows from the first: it spares a caller who
-- takes these bytes a proof.
abbrev pub IsPrefixLen : ℕ → List ℕ → Type 0
IsPrefixLen n xs = (n ≤ length xs) × (n ≡ length (take n xs))

-- How many bytes were read, whether or not a read failed behind them.
abbrev pub bytes_read : Result ℕ Stopped → ℕ
bytes_read (Ok count) = count
bytes_read (Err stopped) = stopped.count
