-- The logs of a script with several openings: the stretches hold every entry, in order; a run in which no opening is
-- done has one log, and an opening that is done ends the log so far and begins another.
-- Assumes nothing.
use Rattle.std.specs.Prelude.{◌≡◌, refl, Bool, true, false, cond, List, [], ◌∷◌, ◌++◌, map}
use Rattle.std.proofs.Common.{sym, ap, ◌∙◌, append_assoc, append-nil}
use Rattle.below.specs.Truth.{true_false}
use Rattle.uplink.specs.State.{State, Outcome}
use Rattle.uplink.specs.Calls.{Call, opening, arrival, pick, after_call}
use Rattle.entries.specs.declared.Entry.{Entry}
use Rattle.cardlog.specs.Logged.{logged, entries_of}
use Rattle.cardlog.specs.Log.{begins, stretches, log_of, log_of_calls, logs_of}

-- the entries of all stretches, one after the other
abbrev pub together : List (List Entry) → List Entry
together [] = []
together (stretch ∷ rest) = stretch ++ together rest

-- an opening that is done logs nothing
begun_none : (call : Call) (o : Outcome) → begins call o.reply ≡ true → logged call o ≡ []
begun_none (opening shares largest header) o e = refl
begun_none (arrival flow length handle) o e = true_false (sym e)
begun_none pick o e = true_false (sym e)

-- no entry is lost at an opening
pub stretches_all : (before : List Entry) (s : State) (calls : List Call)
    → together (stretches before s calls) ≡ before ++ entries_of s calls
stretches_all before s [] = refl
stretches_all before s (call ∷ calls) =
    go (begins call (after_call s call).reply) refl (λ more. stretches_all more (after_call s call).state calls)
  where
    go : (b : Bool) → begins call (after_call s call).reply ≡ b
        → ((more : List Entry) → together (stretches more (after_call s call).state calls)
        ≡ more ++ entries_of (after_call s call).state calls)
        → together (cond b (before ∷ stretches [] (after_call s call).state calls)
        (stretches (before ++ logged call (after_call s call)) (after_call s call).state calls))
        ≡ before ++ entries_of s (call ∷ calls)
    go true e after = let o = after_call s call in
        ap (λ t. before ++ t) (after [] ∙ ap (λ t. t ++ entries_of o.state calls) (sym (begun_none call o e)))
    go false e after = let o = after_call s call in
        after (before ++ logged call o) ∙ append_assoc before (logged call o) (entries_of o.state calls)

-- no opening of these calls is done
abbrev pub Unopened : State → List Call → Type 0
Unopened s [] = Unit {0}
Unopened s (call ∷ calls) = let o = after_call s call in (begins call o.reply ≡ false) × Unopened o.state calls

-- then there is one stretch
pub stretch_one : (before : List Entry) (s : State) (calls : List Call) → Unopened s calls
    → stretches before s calls ≡ (before ++ entries_of s calls) ∷ []
stretch_one before s [] u = ap (λ entries. entries ∷ []) (sym (append-nil before))
stretch_one before s (call ∷ calls) u = let o = after_call s call in
    rw u.0 (stretch_one (before ++ logged call o) o.state calls u.1
    ∙ ap (λ entries. entries ∷ []) (append_assoc before (logged call o) (entries_of o.state calls)))

-- and one log
pub log_one : (s : State) (calls : List Call) → Unopened s calls → logs_of s calls ≡ log_of_calls s calls ∷ []
log_one s calls u = ap (map log_of) (stretch_one [] s calls u)

-- the state after a list of calls
abbrev pub state_after : State → List Call → State
state_after s [] = s
state_after s (call ∷ calls) = state_after (after_call s call).state calls

-- calls of which no opening is done, then an opening that is: the log so far is ended, and the logs go on from there
pub logs_next : (before : List Entry) (s : State) (calls : List Call) → Unopened s calls
    → (call : Call) (rest : List Call)
    → begins call (after_call (state_after s calls) call).reply ≡ true
    → stretches before s (calls ++ (call ∷ rest))
    ≡ (before ++ entries_of s calls) ∷ stretches [] (after_call (state_after s calls) call).state rest
logs_next before s [] u call rest e =
    rw e (ap (λ entries. entries ∷ stretches [] (after_call s call).state rest) (sym (append-nil before)))
logs_next before s (first ∷ calls) u call rest e = let o = after_call s first in
    rw u.0 (logs_next (before ++ logged first o) o.state calls u.1 call rest e
    ∙ ap (λ entries. entries ∷ stretches [] (after_call (state_after o.state calls) call).state rest)
    (append_assoc before (logged first o) (entries_of o.state calls)))
