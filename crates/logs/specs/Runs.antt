-- The log of a run, read off its events: what each call logs, one after the other, and a stretch for each opening that
-- is done.
-- Assumes nothing.
use Rattle.std.specs.Prelude.{◌≡◌, refl, cond, List, [], ◌∷◌, ◌++◌, map}
use Rattle.std.proofs.Common.{ap, ap₂}
use Rattle.uplink.specs.State.{State}
use Rattle.uplink.specs.Calls.{Call, after_call}
use Rattle.shares.specs.Runs.{Event, run_of}
use Rattle.entries.specs.declared.Entry.{Entry}
use Rattle.card.specs.declared.Block.{Block}
use Rattle.cardlog.specs.Logged.{logged, entries_of}
use Rattle.cardlog.specs.Log.{log_of, begins, stretches, logs_of}

-- what the calls of a run log
abbrev pub entries_in : List Event → List Entry
entries_in [] = []
entries_in (x ∷ xs) = logged x.call x.outcome ++ entries_in xs

pub entries_run : (s : State) (calls : List Call) → entries_of s calls ≡ entries_in (run_of s calls)
entries_run s [] = refl
entries_run s (call ∷ calls) =
    ap (λ rest. logged call (after_call s call) ++ rest) (entries_run (after_call s call).state calls)

-- a list of entries for each stretch up to an opening that is done; `before` are the stretch's so far
abbrev pub stretches_in : List Entry → List Event → List (List Entry)
stretches_in before [] = before ∷ []
stretches_in before (x ∷ xs) =
    cond (begins x.call x.outcome.reply) (before ∷ stretches_in [] xs)
    (stretches_in (before ++ logged x.call x.outcome) xs)

-- a log for each
abbrev pub logs_in : List Event → List (List Block)
logs_in run = map log_of (stretches_in [] run)

stretches_run : (before : List Entry) (s : State) (calls : List Call)
    → stretches before s calls ≡ stretches_in before (run_of s calls)
stretches_run before s [] = refl
stretches_run before s (call ∷ calls) = let o = after_call s call in
    ap₂ (cond (begins call o.reply))
    (ap (λ rest. before ∷ rest) (stretches_run [] o.state calls))
    (stretches_run (before ++ logged call o) o.state calls)

pub logs_run : (s : State) (calls : List Call) → logs_of s calls ≡ logs_in (run_of s calls)
logs_run s calls = ap (map log_of) (stretches_run [] s calls)
