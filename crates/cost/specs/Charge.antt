-- What a packet is charged: document 02 a), and document 01, "Shares, cost and the two clocks". Everything that is
-- counted in ticks goes through the charge, and never through the length.
-- `src/charge.rt` cites it.
-- Assumes nothing.
use Rattle.std.specs.Prelude.{Bool, ℕ, ◌+◌, ◌*◌, leb}

-- "a header size, 0 to 64", in bytes
abbrev pub is_header : ℕ → Bool
is_header header = leb header 64

-- "a packet's charge is length plus header", in bytes
abbrev pub charge_of : ℕ → ℕ → ℕ
charge_of header n = n + header

-- "A byte of a flow costs the flow" its cost: the charge in the flow's own ticks
abbrev pub charge_ticks : ℕ → ℕ → ℕ
charge_ticks cost charge = charge * cost

-- "A byte costs the link 720 ticks"
abbrev pub link_ticks : ℕ → ℕ
link_ticks charge = 720 * charge
