-- Every block of a log is within the rules, so writer and reader take it: it has 1 to 31 entries, these are right, and
-- the unused ones are zeros.
-- Assumes nothing.
use Rattle.std.specs.Prelude.{◌≡◌, refl, true, List, ℕ, suc, ◌+◌, ◌-◌, ◌*◌, ◌/◌, ◌^◌, ◌≤◌, ◌<◌, length, get_or, take, drop, replicate}
use Rattle.std.proofs.Common.{◌∙◌, arith, length-append, length-take, length-drop, get_or-append-add, get_or-take, get_or-drop, le-leb, lt-ltb, le-ltb, eq-eqb}
use Rattle.std.proofs.Math.Decide.{dec_le}
use Rattle.std.proofs.lemmas.List.{length-replicate, get_or-replicate}
use Rattle.std.proofs.Math.ListN.{get_or-append}
use Rattle.below.specs.Below.{all_below_of}
use Rattle.below.specs.Listed.{length_listed, listed_here}
use Rattle.below.specs.Truth.{both_of_lem}
use Rattle.uplink.specs.State.{State}
use Rattle.uplink.specs.Calls.{Call}
use Rattle.entries.specs.Entry.{EntryFits, no_entry}
use Rattle.entries.specs.Legal.{rest_blank, entry_blank}
use Rattle.entries.specs.declared.Entry.{Entry}
use Rattle.card.specs.declared.Block.{Block}
use Rattle.card.specs.Block.{block_bytes, entry_may, place_legal, block_legal, BlockFits}
use Rattle.card.specs.Card.{accepted, read_rule, written, write_rule}
use Rattle.card.specs.RoundTrips.{read_bytes}
use Rattle.cardlog.specs.Logged.{entries_of}
use Rattle.cardlog.specs.Log.{content_of, block_at, blocks_for, log_of, log_of_calls}
use Rattle.cardlog.specs.Right.{Right, HandlesFit, CallsFit, entries_right}

-- an entry of zeros may stand where none is used
blank_may : entry_blank no_entry ≡ true
unfolding entry_blank rest_blank
blank_may = refl

no_entry_fits : EntryFits no_entry
no_entry_fits =
    record { kind = omega arith; flow = omega arith; length = omega arith; handle = omega arith; clock = omega arith }

-- a block of at most 31 entries that are right
module _ (number : ℕ) (entries : List Entry) (short : length entries ≤ 31) (right : Right entries) where
  abbrev block : Block
  block = content_of number entries

  -- the entry at a place that is used, and at one that is not
  used_at : (k : ℕ) → k < length entries → get_or block.entries k no_entry ≡ get_or entries k no_entry
  used_at k h = get_or-append entries (replicate (31 - length entries) no_entry) no_entry k h

  unused_at : (k : ℕ) → length entries ≤ k → k < 31 → get_or block.entries k no_entry ≡ no_entry
  unused_at k h l =
      let j : length entries + (k - length entries) ≡ k = omega arith in
      rw (← j, get_or-append-add entries (replicate (31 - length entries) no_entry) (k - length entries) no_entry)
      (get_or-replicate (31 - length entries) (k - length entries) no_entry no_entry (omega arith))

  pub block_fits : number < 2 ^ 32 → BlockFits block
  block_fits low =
      record {
        number = low;
        count = omega arith;
        all = length-append entries (replicate (31 - length entries) no_entry)
            ∙ omega (arith, length-replicate (31 - length entries) no_entry);
        each = λ k l. elim (dec_le (suc k) (length entries)) as (λ _. EntryFits (get_or block.entries k no_entry)) [
          | yes q ↦ rw (used_at k q) (right k q).fits
          | no q ↦ rw (unused_at k (omega arith) l) no_entry_fits
        ];
      }

  pub block_legal_lem : 1 ≤ length entries → block_legal block ≡ true
  unfolding block_legal entry_may
  block_legal_lem some =
      both_of_lem _ _ (both_of_lem _ _ (le-leb 1 (length entries) some) (le-leb (length entries) 31 short))
      (all_below_of (place_legal (length entries) block.entries) 31 λ k l.
      elim (dec_le (suc k) (length entries)) as (λ _. place_legal (length entries) block.entries k ≡ true) [
        | yes q ↦ rw (lt-ltb k (length entries) q, used_at k q) (right k q).legal
        | no q ↦ rw (le-ltb k (length entries) (omega arith), unused_at k (omega arith) l) blank_may
      ])

-- how many entries block k of a log has
pub part_length : {A : Type 0} (list : List A) (k : ℕ) → k < (length list + 30) / 31
    → (1 ≤ length (take 31 (drop (31 * k) list))) × (length (take 31 (drop (31 * k) list)) ≤ 31)
part_length list k h = rw (length-take 31 (drop (31 * k) list), length-drop (31 * k) list) (omega arith, omega arith)

module _ (entries : List Entry) (right : Right entries) (k : ℕ) (h : k < blocks_for entries) where
  -- the entries of block k are right
  part_right : Right (take 31 (drop (31 * k) entries))
  part_right j l =
      let size : length (take 31 (drop (31 * k) entries)) ≡ _ = length-take 31 (drop (31 * k) entries) in
      let rest : length (drop (31 * k) entries) ≡ length entries - 31 * k = length-drop (31 * k) entries in
      rw (get_or-take 31 (drop (31 * k) entries) j no_entry (omega arith), get_or-drop (31 * k) entries j no_entry)
      (right (31 * k + j) (omega arith))

  pub log_legal : block_legal (block_at entries k) ≡ true
  log_legal = let n = part_length entries k h in
      block_legal_lem k (take 31 (drop (31 * k) entries)) n.1 part_right n.0

  pub log_fits : k < 2 ^ 32 → BlockFits (block_at entries k)
  log_fits low = block_fits k (take 31 (drop (31 * k) entries)) (part_length entries k h).1 part_right low

  -- the writer takes it
  pub log_written : (room : List ℕ) → length room ≡ 512
      → write_rule (block_at entries k) room ≡ written 0 (block_bytes (block_at entries k))
  unfolding write_rule
  log_written room r = rw (eq-eqb (length room) 512 r, log_legal)

  -- and the reader gives it back
  pub log_read : k < 2 ^ 32 → read_rule (block_bytes (block_at entries k)) ≡ accepted (block_at entries k)
  log_read low = read_bytes (block_at entries k) (log_fits low) ∙ rw log_legal

-- block k of a log, and how many there are
pub log_at : (entries : List Entry) (k : ℕ) (d : Block) → k < blocks_for entries
    → get_or (log_of entries) k d ≡ block_at entries k
log_at entries k d h = listed_here (block_at entries) (blocks_for entries) k d h

pub log_length : (entries : List Entry) → length (log_of entries) ≡ blocks_for entries
log_length entries = length_listed (block_at entries) 0 (blocks_for entries)

-- every block of the log of a list of calls is taken by the writer
pub calls_written : (s : State) → HandlesFit s.handles → (calls : List Call) → CallsFit calls
    → (k : ℕ) (d : Block) → k < length (log_of_calls s calls) → (room : List ℕ) → length room ≡ 512
    → write_rule (get_or (log_of_calls s calls) k d) room ≡ written 0 (block_bytes (get_or (log_of_calls s calls) k d))
calls_written s fit calls c k d h room r =
    let entries : List Entry = entries_of s calls in
    let low : k < blocks_for entries = omega (arith, log_length entries) in
    rw (log_at entries k d low) (log_written entries (entries_right s fit calls c) k low room r)
