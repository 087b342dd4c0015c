-- A step and a run are determined: of the same arguments, any two outcomes that the contract allows have the same
-- record, the same rows, the same numbers in every place of both memories and the same bytes written; and a run the
-- same place in the input and the same buffer to its end. Each is said on the contract itself, so it cannot drift from
-- it.
-- Assumes nothing.
use mathlib.Core.Path.{◌≡◌, sym, ap, ap₂, ◌∙◌}
use mathlib.Core.List.{List, ◌++◌}
use Prim.Native.Nat.{ℕ, ◌≤◌}
use lib.ListN.{length, take, drop, take-append-drop}
use contract.Lifetimes.{Lfts}
use denote.RattleType.{RattleType}
use denote.Param.Laws.{Laws, IsCopy}
use mir.Syntax.{Dict}
use borrow.Fn.World.{ArgsD, ResD}
use borrow.Fn.Kinds.{ended_of}
use denote.Triple.Clauses.{AtExit}
use Rattle.lines.specs.declared.Stepped.{Stepped}
use Rattle.lines.specs.declared.Ran.{Ran}
use Rattle.lines.specs.Ends.{part_length}
use Rattle.lines.specs.Step.{MadeOf, script_state, Gives}
use Rattle.lines.specs.Whole.{EndedOf, Runs}
use Rattle.std.specs.declared.clone.Clone as clone
use Rattle.lines.specs.declared.engine.Engine as engine
use Rattle.lines.specs.contracts.Script.step as step
use Rattle.lines.proofs.Script.step.Kinds as step_kinds
use Rattle.lines.proofs.Script.step.Reads as step_reads
use Rattle.lines.specs.contracts.Script.run as run
use Rattle.lines.proofs.Script.run.Kinds as run_kinds
use Rattle.lines.proofs.Script.run.Reads as run_reads

-- as many bytes are written where they are the same
same_count : (n m : ℕ) (one other : List ℕ) → n ≤ length one → m ≤ length other → take n one ≡ take m other → n ≡ m
same_count n m one other h k e = part_length n one h ∙ ap length e ∙ sym (part_length m other k)

-- a buffer is what is written and what stands behind it
same_buffer : (n m : ℕ) (out one other : List ℕ) → n ≡ m → take n one ≡ take m other → drop n one ≡ drop n out
    → drop m other ≡ drop m out → one ≡ other
same_buffer n m out one other e t b c =
    sym (take-append-drop n one)
    ∙ ap₂ ◌++◌ t (b ∙ ap (λ k. drop k out) e ∙ sym c)
    ∙ take-append-drop m other

same_step : {R : Type 0} (r q : Stepped R) (lengths handles out lengths' handles' out' : List ℕ) (rule : MadeOf R)
    → Gives r lengths handles out rule → Gives q lengths' handles' out' rule
    → (script_state r.next lengths handles ≡ script_state q.next lengths' handles')
    × (r.written ≡ q.written)
    × (take r.written out ≡ take q.written out')
same_step {R} r q lengths handles out lengths' handles' out' rule g k = let e = g.exact ∙ sym k.exact in
    let o = ap (λ (m : MadeOf R). m.output) e in
    (ap (λ (m : MadeOf R). m.next) e, same_count r.written q.written out out' g.within k.within o, o)

same_run : {R : Type 0} (r q : Ran R) (lengths handles entry out lengths' handles' out' : List ℕ) (rule : EndedOf R)
    → Runs r lengths handles entry out rule → Runs q lengths' handles' entry out' rule
    → (script_state r.next lengths handles ≡ script_state q.next lengths' handles')
    × (r.at ≡ q.at)
    × (r.written ≡ q.written)
    × (out ≡ out')
same_run {R} r q lengths handles entry out lengths' handles' out' rule g k = let e = g.exact ∙ sym k.exact in
    let o = ap (λ (m : EndedOf R). m.output) e in
    let w = same_count r.written q.written out out' g.within k.within o in (
      ap (λ (m : EndedOf R). m.next) e,
      ap (λ (m : EndedOf R). m.at) e,
      w,
      same_buffer r.written q.written entry out out' w o g.beyond k.beyond,
    )

-- at any engine E, with its rules
module _ (T : RattleType) (L : Laws T) (C : IsCopy T) (E : engine.Ghosts T.Denot) (E-dict : Dict)
    (D : clone.Ghosts T.Denot) (D-dict : Dict) where
  pub step_determined : (κs : Lfts 5) (a : ArgsD (step.signature T) κs) (r q : ResD (step.signature T) κs)
      (s t : AtExit (ended_of 5 (step_kinds.ps T L C) (step_kinds.r T L C)) κs)
      → step_reads.Post T L C E E-dict D D-dict κs a r s → step_reads.Post T L C E E-dict D D-dict κs a q t
      → (script_state r.next s.1.1.0.now s.1.1.1.0.now
      ≡ script_state q.next t.1.1.0.now t.1.1.1.0.now)
      × (r.written ≡ q.written)
      × (take r.written s.1.1.1.1.0.now ≡ take q.written t.1.1.1.1.0.now)
  step_determined κs a r q s t g k = same_step r q _ _ _ _ _ _ _ g k

  pub run_determined : (κs : Lfts 5) (a : ArgsD (run.signature T) κs) (r q : ResD (run.signature T) κs)
      (s t : AtExit (ended_of 5 (run_kinds.ps T L C) (run_kinds.r T L C)) κs)
      → run_reads.Post T L C E E-dict D D-dict κs a r s → run_reads.Post T L C E E-dict D D-dict κs a q t
      → (script_state r.next s.1.1.1.0.now s.1.1.1.1.0.now
      ≡ script_state q.next t.1.1.1.0.now t.1.1.1.1.0.now)
      × (r.at ≡ q.at)
      × (r.written ≡ q.written)
      × (s.1.1.1.1.1.0.now ≡ t.1.1.1.1.1.0.now)
  run_determined κs a r q s t g k = same_run r q _ _ _ _ _ _ _ _ g k
