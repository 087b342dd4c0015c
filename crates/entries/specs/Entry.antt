-- An entry as sixteen bytes, document 02 d): "An entry's first byte says its kind: ..; then flow, length (2), handle
-- (4), clock after the call (8)."
-- Assumes nothing.
use Rattle.std.specs.Prelude.{List, ◌∷◌, ◌++◌, ℕ, ◌^◌, ◌<◌, get_or}
use Rattle.fields.specs.Bytes.{bytes_of, number_of, part}
use Rattle.entries.specs.declared.Entry.{Entry}

-- an entry by its fields
abbrev pub entry : ℕ → ℕ → ℕ → ℕ → ℕ → Entry
entry kind flow length handle clock =
    record { kind = kind; flow = flow; length = length; handle = handle; clock = clock }

-- the bytes of an entry
unfoldable pub entry_bytes : Entry → List ℕ
entry_bytes e = e.kind ∷ e.flow ∷ (bytes_of 2 e.length ++ (bytes_of 4 e.handle ++ bytes_of 8 e.clock))

-- the entry of sixteen bytes
unfoldable pub entry_of : List ℕ → Entry
entry_of bytes =
    record {
      kind = get_or bytes 0 0;
      flow = get_or bytes 1 0;
      length = number_of (part bytes 2 2);
      handle = number_of (part bytes 4 4);
      clock = number_of (part bytes 8 8);
    }

-- "Unused entries are zeros."
abbrev pub no_entry : Entry
no_entry = entry 0 0 0 0 0

-- each field fits its bytes: of a value of the type this is so
pub record EntryFits (e : Entry) : Type 0 where
  pub kind : e.kind < 2 ^ 8
  pub flow : e.flow < 2 ^ 8
  pub length : e.length < 2 ^ 16
  pub handle : e.handle < 2 ^ 32
  pub clock : e.clock < 2 ^ 64
