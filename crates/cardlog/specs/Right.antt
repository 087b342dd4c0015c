-- Every entry that a call logs is within the rules and fits its bytes. Flow, length and clock are in range by the
-- record's form; of handles no rule speaks, and that one fits 32 bits is its type's.
-- Assumes nothing.
use Rattle.std.specs.Prelude.{◌≡◌, refl, Bool, true, false, List, [], ◌∷◌, ◌++◌, ℕ, zero, suc, ◌+◌, ◌-◌, ◌^◌, ◌≤◌, ◌<◌, length, get_or, set}
use Rattle.std.proofs.Common.{◌∙◌, not-suc-le-zero, le_of_suc-le-suc, arith, length-append, get_or-append-add, get_or-set_same, get_or-set_other, le-leb}
use Rattle.std.proofs.Math.Bool.{cond}
use Rattle.std.proofs.Math.Decide.{ℕ_discrete, dec_le}
use Rattle.std.proofs.Math.ListN.{get_or-append}
use Rattle.std.proofs.Math.Seq.{set_out}
use Rattle.below.specs.Truth.{both_of_lem}
use Rattle.reply.specs.Reply.{Reply, idle, done, refused}
use Rattle.reply.specs.State.{opened_by}
use Rattle.queues.specs.Laws.{ranged_out, queue_at_lem, zeros_at}
use Rattle.queues.specs.Opening.{lists_reply}
use Rattle.tags.specs.Laws.{leap_high}
use Rattle.uplink.specs.Record.{flow_at, tag_of, waiting_of, put, blank}
use Rattle.uplink.specs.State.{State}
use Rattle.uplink.specs.Formed.{Formed, width_most}
use Rattle.uplink.specs.Opening.{new_record, opening_rule}
use Rattle.uplink.specs.Arrival.{last_place, store_rule, arrival_rule}
use Rattle.uplink.specs.Pick.{clock_limit, leapt, clock_after, front_place, front_length, front_handle, serve_rule, idle_rule}
use Rattle.uplink.specs.Pick.{pick_rule}
use Rattle.uplink.specs.Calls.{Call, opening, arrival, pick, start, after_call}
use Rattle.entries.specs.Entry.{entry, EntryFits, no_entry}
use Rattle.entries.specs.Legal.{kind_of, packet_legal, rest_blank, legal_as, entry_legal}
use Rattle.entries.specs.declared.Entry.{Entry}
use Rattle.cardlog.specs.Logged.{idle_entry, logged, entries_of}
use Rattle.cardlog.specs.Ways.{arrival_ways, pick_ways}

-- an entry within the rules whose fields fit their bytes
pub record EntryRight (e : Entry) : Type 0 where
  pub legal : entry_legal e ≡ true
  pub fits : EntryFits e

-- each of a list
abbrev pub Right : List Entry → Type 0
Right entries = (k : ℕ) → k < length entries → EntryRight (get_or entries k no_entry)

-- every handle of a memory, and the handle of a call, has 32 bits
abbrev pub HandlesFit : List ℕ → Type 0
HandlesFit handles = (k : ℕ) → get_or handles k 0 < 2 ^ 32

abbrev pub CallFits : Call → Type 0
CallFits (opening shares largest header) = Unit {0}
CallFits (arrival flow length handle) = handle < 2 ^ 32
CallFits pick = Unit {0}

abbrev pub CallsFit : List Call → Type 0
CallsFit [] = Unit {0}
CallsFit (call ∷ calls) = CallFits call × CallsFit calls

pub right_none : Right []
right_none k h = absurd (not-suc-le-zero h)

right_one : {e : Entry} → EntryRight e → Right (e ∷ [])
right_one r zero h = r
right_one r (suc k) h = absurd (not-suc-le-zero (le_of_suc-le-suc h))

pub right_both : (a b : List Entry) → Right a → Right b → Right (a ++ b)
right_both a b R S k h = elim (dec_le (suc k) (length a)) as (λ _. EntryRight (get_or (a ++ b) k no_entry)) [
  | yes q ↦ rw (get_or-append a b no_entry k q) (R k q)
  | no q ↦
      let j : length a + (k - length a) ≡ k = omega arith in
      rw (← j, get_or-append-add a b (k - length a) no_entry) (S (k - length a) (omega (arith, length-append a b)))
]

-- an entry whose kind tells a packet
packet_right : (kind flow length handle clock : ℕ) → kind < 2 ^ 8
    → ((e : Entry) → legal_as (kind_of kind) e ≡ packet_legal e) → flow < 64 → 1 ≤ length → length ≤ 1500
    → handle < 2 ^ 32 → clock < 2 ^ 64 → EntryRight (entry kind flow length handle clock)
unfolding entry_legal packet_legal
packet_right kind flow length handle clock small told f some short h c =
    record {
      legal = told (entry kind flow length handle clock)
          ∙ both_of_lem _ _ (le-leb flow 63 (omega arith)) (both_of_lem _ _ (le-leb 1 length some) (le-leb length 1500 short));
      fits = record { kind = small; flow = omega arith; length = omega arith; handle = h; clock = c };
    }

-- 1, and 2 or 3, tell one
arrival_told : (e : Entry) → legal_as (kind_of 1) e ≡ packet_legal e
unfolding kind_of
arrival_told e = refl

pick_told : (b : Bool) (e : Entry) → legal_as (kind_of (2 + cond b 1 0)) e ≡ packet_legal e
unfolding kind_of
pick_told true e = refl
pick_told false e = refl

pick_small : (b : Bool) → 2 + cond b 1 0 < 2 ^ 8
pick_small true = omega arith
pick_small false = omega arith

idle_right : EntryRight idle_entry
unfolding entry_legal kind_of rest_blank
idle_right =
    record {
      legal = refl;
      fits =
          record {
            kind = omega arith;
            flow = omega arith;
            length = omega arith;
            handle = omega arith;
            clock = omega arith;
          };
    }

-- the clock after a pick fits 64 bits
pub clock_fits : (s : State) (f : ℕ) → Formed s.held s.lengths → f < s.held.flows → 0 < waiting_of s.held f
    → s.held.clock.0 < clock_limit → clock_after s f < 2 ^ 64
clock_fits s f F counted waits soon =
    let w = (flow_at s.held f).queue in
    omega (
      arith,
      F.header,
      width_most s.held s.lengths F,
      leap_high s.held.clock.0 s.held.width (tag_of s.held f),
      (ranged_out w (F.each f counted).range).largest_high,
      queue_at_lem f s.lengths w (F.each f counted).queue 0 waits,
    )

-- memories of zeros, as before an opening and after it
pub start_fits : HandlesFit start.handles
start_fits k = rw (zeros_at 4096 k) (omega arith)

module _ (s : State) (fit : HandlesFit s.handles) where
  -- what an arrival logs
  arrival_right : (f n handle : ℕ) → handle < 2 ^ 32 → Right (logged (arrival f n handle) (arrival_rule s f n handle))
  unfolding store_rule put
  arrival_right f n handle h =
      arrival_ways s (λ o. Right (logged (arrival f n handle) o)) (λ number. right_none) f n handle λ F J.
      right_one (packet_right 1 f n handle s.held.clock.0 (omega arith) arrival_told
      (omega (arith, F.few, J.counted)) J.some
      (omega (arith, J.short, (ranged_out (flow_at s.held f).queue (F.each f J.counted).range).largest_high))
      h (omega (arith, F.clock)))

  -- what a pick logs
  pick_right : Right (logged pick (pick_rule s))
  unfolding serve_rule idle_rule put
  pick_right =
      pick_ways s (λ o. Right (logged pick o)) (λ number. right_none) (right_one idle_right) λ f F small soon.
      let w = (flow_at s.held f).queue in
      let fits = queue_at_lem f s.lengths w (F.each f small.counts).queue 0 small.waits in
      right_one (packet_right (2 + cond (leapt s.held f) 1 0) f (front_length s f) (front_handle s f) (clock_after s f)
      (pick_small (leapt s.held f)) (pick_told (leapt s.held f)) (omega (arith, F.few, small.counts)) fits.0
      (omega (arith, fits.1, (ranged_out w (F.each f small.counts).range).largest_high))
      (fit (front_place s f)) (clock_fits s f F small.counts small.waits soon))

  -- every entry that a call logs is right
  pub logged_right : (call : Call) → CallFits call → Right (logged call (after_call s call))
  logged_right (opening shares largest header) h = right_none
  logged_right (arrival f n handle) h = arrival_right f n handle h
  logged_right pick h = pick_right

  -- a memory with one place put anew
  set_fits : (at handle : ℕ) → handle < 2 ^ 32 → HandlesFit (set s.handles at handle)
  set_fits at handle h k = elim (ℕ_discrete k at) as (λ _. get_or (set s.handles at handle) k 0 < 2 ^ 32) [
    | yes q ↦ rw q (elim (dec_le (suc at) (length s.handles))
        as (λ _. get_or (set s.handles at handle) at 0 < 2 ^ 32) [
          | yes l ↦ rw (get_or-set_same s.handles at handle 0 l) h
          | no l ↦ rw (set_out s.handles at handle (omega arith)) (fit at)
        ])
    | no q ↦ rw (get_or-set_other s.handles at k handle 0 q) (fit k)
  ]

  opened_fits : (shares largest : List ℕ) (header : ℕ)
      → HandlesFit (opening_rule shares largest header s.lengths s.handles).state.handles
  unfolding opening_rule
  opened_fits shares largest header =
      go (lists_reply shares largest header s.lengths s.handles)
    where
      go : (reply : Reply)
          → HandlesFit
          (opened_by reply (new_record shares largest header) blank s.lengths s.handles).state.handles
      go idle = fit
      go (done values) = start_fits
      go (refused number flow) = fit

  -- and the memory's handles go on fitting
  pub call_fits : (call : Call) → CallFits call → HandlesFit (after_call s call).state.handles
  unfolding store_rule serve_rule idle_rule
  call_fits (opening shares largest header) h = opened_fits shares largest header
  call_fits (arrival f n handle) h =
      arrival_ways s (λ o. HandlesFit o.state.handles) (λ number. fit) f n handle λ F J.
      set_fits (last_place s f) handle h
  call_fits pick h =
      pick_ways s (λ o. HandlesFit o.state.handles) (λ number. fit) fit λ f F small soon.
      set_fits (front_place s f) 0 (omega arith)

-- every entry of a list of calls is right
pub entries_right : (s : State) → HandlesFit s.handles → (calls : List Call) → CallsFit calls
    → Right (entries_of s calls)
entries_right s fit [] h = right_none
entries_right s fit (call ∷ calls) h =
    right_both (logged call (after_call s call)) (entries_of (after_call s call).state calls)
    (logged_right s fit call h.0)
    (entries_right (after_call s call).state (call_fits s fit call h.0) calls h.1)
