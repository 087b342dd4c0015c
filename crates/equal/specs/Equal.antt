-- The equality, document 02 c): for every list of calls from an opening, refused ones and Idle included, the plain
-- engine gives what the first one gives.
-- Assumes nothing.
use Rattle.std.specs.Prelude.{◌≡◌, refl, List, [], ◌∷◌, ℕ, ◌+◌, ◌<◌, pos, ◌-ℤ◌, get_or, set}
use Rattle.std.proofs.Common.{sym, ap, ap₂, ◌∙◌, subst, arith, get_or-set_other}
use Rattle.reply.specs.Reply.{Reply, idle, done, refused}
use Rattle.reply.specs.State.{state}
use Rattle.signs.specs.Raise.{raised_distance}
use Rattle.uplink.specs.Record as record_of
use Rattle.uplink.specs.State as first
use Rattle.uplink.specs.Opening as first_opening
use Rattle.uplink.specs.Calls as first_calls
use Rattle.uplink.specs.Calls.{Call, opening}
use Rattle.shares.specs.Runs as first_runs
use Rattle.backward.specs.Record.{tag_of}
use Rattle.backward.specs.Raised.{raised_record}
use Rattle.backward.specs.State.{State}
use Rattle.backward.specs.Formed.{raised_tag}
use Rattle.backward.specs.Calls.{start, after_call}
use Rattle.equal.specs.Raised.{raised_state, raised_values, raised_reply}
use Rattle.equal.specs.Steps.{raised_unleapt}
use Rattle.equal.specs.Same.{same_opening, same_call}
use Rattle.equal.specs.Sound.{Sound, sound_opening, sound_call, sound_blank}
use Rattle.equal.specs.Runs.{Event, run_of, end_of, raised_run}

-- from any sound state, call by call
pub same_run : (s : State) → Sound s.held → (calls : List Call)
    → first_runs.run_of (raised_state s) calls ≡ raised_run (run_of s calls)
same_run s S [] = refl
same_run s S (call ∷ calls) =
    let same = same_call s S.wide call in
    ap₂ (λ (o : first.Outcome) (xs : List first_runs.Event). record { call = call; outcome = o } ∷ xs) same
    (ap (λ (o : first.Outcome). first_runs.run_of o.state calls) same
    ∙ same_run (after_call s call).state (sound_call s S call) calls)

-- the state at the end stays sound
pub sound_end : (s : State) → Sound s.held → (calls : List Call) → Sound (end_of s calls).held
sound_end s S [] = S
sound_end s S (call ∷ calls) = sound_end (after_call s call).state (sound_call s S call) calls

-- The plain engine's state beside the first engine's: the record with its sum added is the first engine's, both
-- memories are the same, every tag less the clock is the same, and the plain clock equals its link time.
pub record Alike (one : first.State) (other : State) : Type 0 where
  pub raised : one.held ≡ raised_record other.held
  pub lengths : one.lengths ≡ other.lengths
  pub handles : one.handles ≡ other.handles
  pub distances : (f : ℕ) → f < 64
      → pos (record_of.tag_of one.held f) -ℤ pos one.held.clock.0
      ≡ tag_of other.held f -ℤ pos other.held.clock.0
  pub clock : other.held.clock.0 ≡ other.held.link.0

sound_alike : (s : State) → Sound s.held → Alike (raised_state s) s
sound_alike s S =
    record {
      raised = refl;
      lengths = refl;
      handles = refl;
      distances = λ f h.
          ap (λ tag. pos tag -ℤ pos (s.held.clock.0 + s.held.sum.0)) (raised_tag s.held f h)
          ∙ raised_distance s.held.sum.0 s.held.clock.0 (tag_of s.held f) (S.over f h);
      clock = S.even;
    }

-- what a gateway sees of a reply: flow, length, handle, leapt or not; an Idle and a refusal it sees whole
abbrev pub seen : Reply → Reply
seen idle = idle
seen (refused number flow) = refused number flow
seen (done values) = done (get_or values 0 0 ∷ get_or values 1 0 ∷ get_or values 2 0 ∷ get_or values 4 0 ∷ [])

abbrev pub seen_first : List first_runs.Event → List Reply
seen_first [] = []
seen_first (x ∷ xs) = seen x.outcome.reply ∷ seen_first xs

abbrev pub seen_plain : List Event → List Reply
seen_plain [] = []
seen_plain (x ∷ xs) = seen x.outcome.reply ∷ seen_plain xs

-- the sum changes nothing of that
seen_same : (sum : ℕ) (reply : Reply) → seen (raised_reply sum reply) ≡ seen reply
seen_same sum idle = refl
seen_same sum (refused number flow) = refl
seen_same sum (done values) = rw (
  stays 0 (λ e. omega arith) (λ e. omega arith),
  stays 1 (λ e. omega arith) (λ e. omega arith),
  stays 2 (λ e. omega arith) (λ e. omega arith),
  stays 4 (λ e. omega arith) (λ e. omega arith),
)
  where
    stays : (k : ℕ) → (k ≡ 3 → ⊥) → (k ≡ 5 → ⊥) → get_or (raised_values sum values) k 0 ≡ get_or values k 0
    stays k p q =
        get_or-set_other (set values 3 (get_or values 3 0 + sum)) 5 k (get_or values 5 0 + sum) 0 q
        ∙ get_or-set_other values 3 k (get_or values 3 0 + sum) 0 p

seen_run : (xs : List Event) → seen_first (raised_run xs) ≡ seen_plain xs
seen_run [] = refl
seen_run (x ∷ xs) = ap₂ (λ y ys. y ∷ ys) (seen_same x.outcome.state.held.sum.0 x.outcome.reply) (seen_run xs)

-- the state at the end of a run
pub raised_end : (s : State) (calls : List Call)
    → first_runs.end_of (raised_state s) (raised_run (run_of s calls)) ≡ raised_state (end_of s calls)
raised_end s [] = refl
raised_end s (call ∷ calls) = raised_end (after_call s call).state calls

-- The equality, for every list of calls from any opening, accepted or refused: whatever the two engines held before,
-- as long as the memories are the same.
module _ (one : first.State) (other : State) (lengths : one.lengths ≡ other.lengths)
    (handles : one.handles ≡ other.handles) (shares largest : List ℕ) (header : ℕ) (calls : List Call) where
  abbrev script : List Call
  script = opening shares largest header ∷ calls

  -- Every reply, record and memory of the plain engine's run, with the sum after the call added, is the first engine's.
  pub equal_runs : first_runs.run_of one script ≡ raised_run (run_of other script)
  equal_runs =
      let opens = ap₂ (first_opening.opening_rule shares largest header) lengths handles
      ∙ same_opening other shares largest header in
      ap₂ (λ (o : first.Outcome) (xs : List first_runs.Event).
      record { call = opening shares largest header; outcome = o } ∷ xs) opens
      (ap (λ (o : first.Outcome). first_runs.run_of o.state calls) opens
      ∙ same_run (after_call other (opening shares largest header)).state
      (sound_opening other shares largest header) calls)

  -- Flows, lengths, handles, leaps and refusals are equal, call by call.
  pub equal_picks : seen_first (first_runs.run_of one script) ≡ seen_plain (run_of other script)
  equal_picks = ap seen_first equal_runs ∙ seen_run (run_of other script)

  -- And so are, at the end, the records with the sum added, both memories and every tag less the clock; the plain
  -- clock equals its link time.
  pub equal_states : Alike (first_runs.end_of one (first_runs.run_of one script)) (end_of other script)
  equal_states =
      let opened = (after_call other (opening shares largest header)).state in
      subst (λ (s : first.State). Alike s (end_of other script))
      (sym (ap (first_runs.end_of one) equal_runs ∙ raised_end opened calls))
      (sound_alike (end_of other script) (sound_end opened (sound_opening other shares largest header) calls))

-- Before an opening too: whatever is called from the blank record on.
pub equal_from_blank : (calls : List Call) → first_runs.run_of first_calls.start calls ≡ raised_run (run_of start calls)
equal_from_blank calls =
    ap (λ r. first_runs.run_of (state r start.lengths start.handles) calls) (raised_unleapt record_of.blank refl)
    ∙ same_run start sound_blank calls
