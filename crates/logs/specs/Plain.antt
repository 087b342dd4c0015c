-- The plain engine's log is the first engine's, document 02 d) with c): what a call logs is read off its outcome with
-- the sum added to clock and tags, and these outcomes are the first engine's.
-- Assumes nothing.
use Rattle.std.specs.Prelude.{◌≡◌, refl, List, [], ◌∷◌, ◌++◌, ℕ}
use Rattle.std.proofs.Common.{sym, ap, ◌∙◌}
use Rattle.uplink.specs.State as first
use Rattle.uplink.specs.Calls as first_calls
use Rattle.uplink.specs.Calls.{Call, opening}
use Rattle.shares.specs.Runs as first_runs
use Rattle.backward.specs.State.{State, Outcome}
use Rattle.backward.specs.Calls.{start, after_call}
use Rattle.equal.specs.Raised.{raised_outcome}
use Rattle.equal.specs.Runs.{run_of, raised_run}
use Rattle.equal.specs.Equal.{equal_runs, equal_from_blank}
use Rattle.entries.specs.declared.Entry.{Entry}
use Rattle.card.specs.declared.Block.{Block}
use Rattle.cardlog.specs.Logged.{logged, entries_of}
use Rattle.cardlog.specs.Log.{log_of, log_of_calls, logs_of}
use Rattle.logs.specs.Runs.{entries_in, entries_run, logs_in, logs_run}

-- what a call of the plain engine logs: by its outcome with the sum after the call added
abbrev pub plain_logged : Call → Outcome → List Entry
plain_logged call o = logged call (raised_outcome o)

-- what a list of calls logs from a state on
abbrev pub plain_entries_of : State → List Call → List Entry
plain_entries_of s [] = []
plain_entries_of s (call ∷ calls) = let o = after_call s call in plain_logged call o ++ plain_entries_of o.state calls

abbrev pub plain_log_of : State → List Call → List Block
plain_log_of s calls = log_of (plain_entries_of s calls)

-- a log for each stretch up to an opening that is done
abbrev pub plain_logs_of : State → List Call → List (List Block)
plain_logs_of s calls = logs_in (raised_run (run_of s calls))

plain_run : (s : State) (calls : List Call) → plain_entries_of s calls ≡ entries_in (raised_run (run_of s calls))
plain_run s [] = refl
plain_run s (call ∷ calls) =
    ap (λ rest. plain_logged call (after_call s call) ++ rest) (plain_run (after_call s call).state calls)

-- where the runs are one, so are the entries and the logs
module _ (one : first.State) (other : State) (script : List Call)
    (e : first_runs.run_of one script ≡ raised_run (run_of other script)) where
  entries_same : plain_entries_of other script ≡ entries_of one script
  entries_same = plain_run other script ∙ ap entries_in (sym e) ∙ sym (entries_run one script)

  logs_same : plain_logs_of other script ≡ logs_of one script
  logs_same = ap logs_in (sym e) ∙ sym (logs_run one script)

-- For every list of calls from any opening, accepted or refused, whatever the two engines held before, as long as the
-- memories are the same.
module _ (one : first.State) (other : State) (lengths : one.lengths ≡ other.lengths)
    (handles : one.handles ≡ other.handles) (shares largest : List ℕ) (header : ℕ) (calls : List Call) where
  abbrev script : List Call
  script = opening shares largest header ∷ calls

  same : first_runs.run_of one script ≡ raised_run (run_of other script)
  same = equal_runs one other lengths handles shares largest header calls

  pub plain_entries : plain_entries_of other script ≡ entries_of one script
  plain_entries = entries_same one other script same

  pub plain_log : plain_log_of other script ≡ log_of_calls one script
  plain_log = ap log_of plain_entries

  pub plain_logs : plain_logs_of other script ≡ logs_of one script
  plain_logs = logs_same one other script same

-- Before an opening too: whatever is called from the blank record on.
pub blank_entries : (calls : List Call) → plain_entries_of start calls ≡ entries_of first_calls.start calls
blank_entries calls = entries_same first_calls.start start calls (equal_from_blank calls)

pub blank_log : (calls : List Call) → plain_log_of start calls ≡ log_of_calls first_calls.start calls
blank_log calls = ap log_of (blank_entries calls)

pub blank_logs : (calls : List Call) → plain_logs_of start calls ≡ logs_of first_calls.start calls
blank_logs calls = logs_same first_calls.start start calls (equal_from_blank calls)
