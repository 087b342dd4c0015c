-- `backward::Record::choose` meets its contract: each way through it is one case of the rule of a pick.
use Rattle.std.proofs.Common.{arith}
use Rattle.backward.proofs.Picking.{picked_unhandled, picked_unformed, form, leadable, picked_on, chosen_idle, chosen_late, sending, chosen}
use Rattle.backward.proofs.Record.choose.Goals as goal

pub returns-in_default-as_mut_array : goal.returns-in_default-as_mut_array
returns-in_default-as_mut_array c =
    picked_unhandled _ _ _ _ c.in-Some.ensures.cases c.in_default-as_mut_array.ensures.cases

pub returns-then-not-is_formed : goal.returns-then-not-is_formed
returns-then-not-is_formed c =
    picked_unformed _ _ _ _ c.in-Some.ensures.cases _ c.in-Some-as_mut_array.ensures.cases _ c.is_formed.ensures
    c.if-not-is_formed.true

pub lead-requires : goal.lead-requires
lead-requires c = leadable _ _ _ c.is_formed.ensures c.if-not-is_formed.false

pub returns-in_default-lead : goal.returns-in_default-lead
returns-in_default-lead c =
    picked_on _ _ _ _ c.in-Some.ensures.cases _ c.in-Some-as_mut_array.ensures.cases _ c.is_formed.ensures
    c.if-not-is_formed.false _
    (chosen_idle _ _ _ c.is_formed.ensures c.if-not-is_formed.false _ c.lead.ensures _ c.in_default-lead.is c.rest.ensures _)

pub overflow_add-self : goal.overflow_add-self
overflow_add-self c = omega (arith, (form _ _ _ c.is_formed.ensures c.if-not-is_formed.false).clock)

pub returns-then-self-ge-CLOCK_LIMIT : goal.returns-then-self-ge-CLOCK_LIMIT
returns-then-self-ge-CLOCK_LIMIT c =
    picked_on _ _ _ _ c.in-Some.ensures.cases _ c.in-Some-as_mut_array.ensures.cases _ c.is_formed.ensures
    c.if-not-is_formed.false _
    (chosen_late _ _ _ c.is_formed.ensures c.if-not-is_formed.false _ c.lead.ensures _ c.in-Some-lead.is
    c.if-self-ge-CLOCK_LIMIT.true _)

pub send-requires : goal.send-requires
send-requires c =
    sending _ _ _ c.is_formed.ensures c.if-not-is_formed.false _ c.lead.ensures _ c.in-Some-lead.is
    c.if-self-ge-CLOCK_LIMIT.false

pub returns : goal.returns
returns c =
    picked_on _ _ _ _ c.in-Some.ensures.cases _ c.in-Some-as_mut_array.ensures.cases _ c.is_formed.ensures
    c.if-not-is_formed.false _
    (chosen _ _ _ c.is_formed.ensures c.if-not-is_formed.false _ c.lead.ensures _ c.in-Some-lead.is
    c.if-self-ge-CLOCK_LIMIT.false _ _ c.send.ensures)
