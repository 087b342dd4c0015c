-- Which entries are within the rules, document 02 d).
-- Assumes nothing.
use Rattle.std.specs.Prelude.{◌≡◌, Bool, false, cond, ◌&&◌, ℕ, Option, Some, None, Result, ok_or, eqb, leb}
use Rattle.entries.specs.declared.Entry.{Entry}
use Rattle.entries.specs.declared.Kind.{Kind}
use Rattle.entries.specs.declared.Kind.TheVariants.{Arrival, Pick, Leap, Idle}
use Rattle.entries.specs.declared.UnknownKind.{UnknownKind}

-- "An entry's first byte says its kind: 1 arrival, 2 pick without leap, 3 pick with leap, 4 Idle"
-- and no other number is a kind's
unfoldable pub kind_of : ℕ → Option Kind
kind_of number =
    cond (eqb number 1) (Some Arrival)
    (cond (eqb number 2) (Some Pick)
    (cond (eqb number 3) (Some Leap)
    (cond (eqb number 4) (Some Idle)
    None)))

-- the number of a kind
abbrev pub kind_number : Kind → ℕ
kind_number Arrival = 1
kind_number Pick = 2
kind_number Leap = 3
kind_number Idle = 4

-- what is found of a number: its kind, or that it is none's
abbrev pub Decodes : ℕ → Result Kind UnknownKind → Type 0
Decodes number found = found ≡ ok_or (kind_of number) (record { 0 = number })

-- a packet: "flow over 63 and length 0 or over 1,500 included" in what is refused
unfoldable pub packet_legal : Entry → Bool
packet_legal e = leb e.flow 63 && (leb 1 e.length && leb e.length 1500)

-- "Idle has zeros in all these": flow, length, handle and clock
unfoldable pub rest_blank : Entry → Bool
rest_blank e = eqb e.flow 0 && (eqb e.length 0 && (eqb e.handle 0 && eqb e.clock 0))

-- an entry by its kind: other numbers are a refusal
abbrev pub legal_as : Option Kind → Entry → Bool
legal_as (Some Arrival) e = packet_legal e
legal_as (Some Pick) e = packet_legal e
legal_as (Some Leap) e = packet_legal e
legal_as (Some Idle) e = rest_blank e
legal_as None e = false

unfoldable pub entry_legal : Entry → Bool
entry_legal e = legal_as (kind_of e.kind) e

-- "Unused entries are zeros."
unfoldable pub entry_blank : Entry → Bool
entry_blank e = eqb e.kind 0 && rest_blank e
