-- `lines::reading::number` meets its contract. What its loop keeps is in Invariants.
use Rattle.std.proofs.Common.{sym, ◌∙◌, ◌≡◌, true, length}
use Rattle.cost.specs.Cost.{within}
use Rattle.lines.proofs.Digits.{in_range, length_wrong, reads_more, no_digit, value_given}
use Rattle.lines.proofs.reading.number.Goals as goal

pub returns-then-not-contains : goal.returns-then-not-contains
returns-then-not-contains c =
    let r = c.new.ensures in
    length_wrong _ (sym (in_range _ _ _ r.start r.end r.exhausted c.contains.ensures.value) ∙ c.if-not-contains.true)

pub returns-then-not-is_ascii_digit : goal.returns-then-not-is_ascii_digit
returns-then-not-is_ascii_digit c =
    let r = c.new.ensures in
    let l : within 1 10 (length c.args.field.now) ≡ true =
    sym (in_range _ _ _ r.start r.end r.exhausted c.contains.ensures.value) ∙ c.if-not-contains.false in
    no_digit _ l _ _ c.loop-byte.invariant c.loop-byte-test.true (sym c.if-not-is_ascii_digit.ensures.value)

pub loop-byte-preserved : goal.loop-byte-preserved
loop-byte-preserved c =
    rw c.from.ensures (reads_more c.args.field.now _ _ c.loop-byte.invariant c.loop-byte-test.true
    (sym c.if-not-is_ascii_digit.ensures.value))

pub returns : goal.returns
returns c =
    let r = c.new.ensures in
    let l : within 1 10 (length c.args.field.now) ≡ true =
    sym (in_range _ _ _ r.start r.end r.exhausted c.contains.ensures.value) ∙ c.if-not-contains.false in
    rw c.ok.ensures.value (value_given _ l _ _ _ c.loop-byte.invariant c.loop-byte-test.false c.try_from.ensures)
