-- `tags::choice::led_on` meets its contract: the flow looked at takes the lead, or the leader keeps it. What its loop
-- keeps is in Invariants.
use Rattle.std.proofs.Common.{ℕ, ◌<◌, get_or, arith}
use Rattle.tags.specs.Choice.{no_tag, lead_as}
use Rattle.tags.proofs.Choosing.{flow_led, lead_begins, lead_moves, lead_stays}
use Rattle.tags.proofs.choice.led_on.Goals as goal
use Rattle.tags.proofs.choice.led_on.Goals.{then-key-least, else-key-least}

pub loop-at-init : goal.loop-at-init
loop-at-init c = (lead_begins _ _ c.args.from (lead_as c.args.lead.flow c.args.lead.key), c.requires.3)

pub loop-at-preserved : goal.loop-at-preserved
loop-at-preserved c =
    let few : c.loop-at.at < 64 = omega (arith, c.requires.1) in
    let low : get_or c.args.tags.now c.loop-at.at 0 < no_tag = c.requires.2.each c.loop-at.at c.loop-at-test.true in
    let tag : ℕ → ℕ = λ g. get_or c.args.tags.now g 0 in
    let waits : ℕ → ℕ = λ g. get_or c.args.waiting.now g 0 in
    let lead = lead_as c.args.lead.flow c.args.lead.key in
    let least = c.loop-at.least in (
      elim c.if-key-least.branch [
        | then-key-least w ↦ rw w.least-is
            (lead_moves tag waits lead c.args.from c.loop-at.at least.flow least.key c.key_of-key.result
            c.loop-at.invariant.0 c.loop-at.invariant.1 c.key_of-key.ensures c.loop-at.auto.at low few
            w.if-key-least.true)
        | else-key-least w ↦ rw w.least-is
            (lead_stays tag waits lead c.args.from c.loop-at.at least.flow least.key c.key_of-key.result
            c.loop-at.invariant.0 c.loop-at.invariant.1 c.key_of-key.ensures c.loop-at.auto.at low few
            w.if-key-least.false)
      ],
      elim c.if-key-least.branch [
        | then-key-least w ↦ rw w.least-is (flow_led c.loop-at.at c.key_of-key.result few
            (omega (arith, w.if-key-least.true, c.loop-at.invariant.1.high)))
        | else-key-least w ↦ rw w.least-is c.loop-at.invariant.1
      ],
    )
