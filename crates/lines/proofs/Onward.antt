-- The lines of an input, one after the other, and what has been written of them.
-- Assumes nothing.
use mathlib.Core.Path.{◌≡◌, refl, ◌∙◌}
use mathlib.Core.List.{List, [], append_assoc, append-nil}
use Prim.Native.Nat.{ℕ, ◌+◌, ◌-◌, ◌^◌, ◌≤◌, ◌<◌}
use native.Mathlib.Omega.{arith}
use lib.ListN.{length, take, drop}
use lib.Seq.{drop-drop, length-take-le}
use Rattle.lines.specs.declared.Script.{Script}
use Rattle.lines.specs.declared.Stepped.{Stepped}
use Rattle.lines.specs.declared.Ran.{Ran}
use Rattle.lines.specs.Text.{line_feed, end_from, Put}
use Rattle.lines.specs.Rules.{Rules}
use Rattle.lines.specs.Step.{MadeOf, script_state, step_by, Gives}
use Rattle.lines.specs.Whole.{lines_of, ended, after, run_by, Runs}
use Rattle.lines.specs.Places.{line_at, line_length, lines_next, no_line}
use Rattle.lines.specs.Running.{run_full_by, run_none_by, run_line_by}

-- the lines from `from` up to `at` have been run, from the script `first` and its memories, and their output is
-- collected: with the lines that are left, this is the run of all of them
pub record Going {R : Type 0} (rules : Rules R) (first : Script R) (lengths₀ handles₀ out₀ input : List ℕ) (from : ℕ)
    (s : Script R) (lengths handles out : List ℕ) (at used : ℕ) : Type 0 where
  pub lengths_kept : length lengths ≡ length lengths₀
  pub handles_kept : length handles ≡ length handles₀
  pub out_kept : length out ≡ length out₀
  pub small : length input < 2 ^ 63
  pub within : used ≤ length out
  pub exact : after (take used out) (run_by rules (length out - used) (script_state s lengths handles) input at)
      ≡ run_by rules (length out₀) (script_state first lengths₀ handles₀) input from
  pub beyond : drop used out ≡ drop used out₀

pub going_none : {R : Type 0} (rules : Rules R) (s : Script R) (lengths handles out input : List ℕ) (from : ℕ)
    → length input < 2 ^ 63 → Going rules s lengths handles out input from s lengths handles out from 0
going_none rules s lengths handles out input from h = let e : length out - 0 ≡ length out = omega arith in
    record {
      lengths_kept = refl;
      handles_kept = refl;
      out_kept = refl;
      small = h;
      within = omega arith;
      exact = rw e;
      beyond = refl;
    }

abbrev ran : {R : Type 0} → Script R → ℕ → ℕ → Ran R
ran s at used = record { next = s; at = at; written = used }

module _ {R : Type 0} (rules : Rules R) (first : Script R) (lengths₀ handles₀ out₀ input : List ℕ) (from : ℕ)
    (s : Script R) (lengths handles out : List ℕ) (at used : ℕ)
    (g : Going rules first lengths₀ handles₀ out₀ input from s lengths handles out at used) where
  pub going_within : used ≤ length out
  going_within = g.within

  -- nothing more is run
  going_ends : run_by rules (length out - used) (script_state s lengths handles) input at
      ≡ ended (script_state s lengths handles) at []
      → Runs (ran s at used) lengths handles out₀ out
      (run_by rules (length out₀) (script_state first lengths₀ handles₀) input from)
  going_ends e =
      record {
        within = g.within;
        exact = rw (← g.exact, e, append-nil);
        beyond = g.beyond;
      }

  -- there is no room for another line, or there is no other line
  pub going_full : length out - used < 160
      → Runs (ran s at used) lengths handles out₀ out
      (run_by rules (length out₀) (script_state first lengths₀ handles₀) input from)
  going_full f = going_ends (run_full_by rules (length out - used) (script_state s lengths handles) at _ f)

  pub going_all : length input ≤ at
      → Runs (ran s at used) lengths handles out₀ out
      (run_by rules (length out₀) (script_state first lengths₀ handles₀) input from)
  going_all h = going_ends (rw (no_line input at h)
      (run_none_by rules (length out - used) (script_state s lengths handles) at))

  -- a line's output fits
  pub line_room : (r : Stepped R) (lengths' handles' line : List ℕ) (rule : MadeOf R) → 160 ≤ length out - used
      → Gives r lengths' handles' line rule → used + length (take r.written line) ≤ length out
  line_room r lengths' handles' line rule h v =
      omega (arith, v.short, length-take-le r.written line v.within)

  module _ (end : ℕ) (r : Stepped R) (lengths' handles' line out' : List ℕ) (used' : ℕ) (h : at < length input)
      (e : end ≡ end_from line_feed input at) (room : 160 ≤ length out - used)
      (v : Gives r lengths' handles' line (step_by rules (script_state s lengths handles) (line_at input at end)))
      (p : Put out used (take r.written line) out' used') where
    -- the place behind the line, and the room behind its output
    place_next : at + length (line_at input at end) + 1 ≡ end + 1
    place_next = omega (arith, line_length input at end e h)

    room_next : length out - used - length (take r.written line) ≡ length out' - used'
    room_next = omega (arith, p.behind, p.same)

    untouched : drop used' out ≡ drop used' out₀
    untouched = let n = length (take r.written line) in
        rw (p.behind, ← drop-drop n used out, g.beyond) (drop-drop n used out₀)

    run_next : run_by rules (length out - used) (script_state s lengths handles) input at
        ≡ after (take r.written line)
        (run_by rules (length out' - used') (script_state r.next lengths' handles') input (end + 1))
    run_next =
        rw (
          lines_next input at end e h,
          run_line_by rules (length out - used) (script_state s lengths handles) at (line_at input at end)
              (lines_of (drop (end + 1) input)) room,
          ← v.exact,
          place_next,
          room_next,
        )

    pub going_more : length lengths' ≡ length lengths → length handles' ≡ length handles
        → Going rules first lengths₀ handles₀ out₀ input from r.next lengths' handles' out' (end + 1) used'
    going_more l k =
        record {
          lengths_kept = l ∙ g.lengths_kept;
          handles_kept = k ∙ g.handles_kept;
          out_kept = p.same ∙ g.out_kept;
          small = g.small;
          within = omega (arith, p.behind, p.same, line_room r lengths' handles' line _ room v);
          exact = rw (← g.exact, run_next, p.holds, append_assoc);
          beyond = p.beyond ∙ untouched;
        }
