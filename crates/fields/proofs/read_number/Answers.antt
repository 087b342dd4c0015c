-- `fields::read_number` meets its contract. What its loop keeps is in Invariants; which byte a turn has, and that all
-- were read at the end, is the iterator's.
use Rattle.std.proofs.Common.{arith}
use Rattle.std.proofs.lemmas.Iterator.Adapters.{YieldsList-from_rev_slice}
use Rattle.std.proofs.lemmas.Iterator.Consumers.{YieldsList-turn, YieldsList-end}
use Rattle.std.proofs.lemmas.List.{length_push}
use Rattle.fields.proofs.Numbers.{reading_none, reading_room, reading_byte, reading_more, reading_all}
use Rattle.fields.proofs.read_number.Goals as goal

pub loop-byte-init : goal.loop-byte-init
loop-byte-init c = reading_none c.args.bytes.now

pub overflow_mul-number : goal.overflow_mul-number
overflow_mul-number c =
    let t = YieldsList-turn (YieldsList-from_rev_slice c.args.bytes.now cc) c.loop-byte.yielded _ c.loop-byte.yielded_by _ _ c.in-Some.byte c.in-Some.is c.next.ensures.steps in
    omega (arith, reading_room c.loop-byte.invariant t c.type_inv.bytes c.requires)

pub overflow_add-number : goal.overflow_add-number
overflow_add-number c =
    let t = YieldsList-turn (YieldsList-from_rev_slice c.args.bytes.now cc) c.loop-byte.yielded _ c.loop-byte.yielded_by _ _ c.in-Some.byte c.in-Some.is c.next.ensures.steps in
    omega (arith, reading_room c.loop-byte.invariant t c.type_inv.bytes c.requires, reading_byte c.loop-byte.invariant t c.type_inv.bytes, c.from.ensures)

pub loop-byte-preserved : goal.loop-byte-preserved
loop-byte-preserved c =
    let t = YieldsList-turn (YieldsList-from_rev_slice c.args.bytes.now cc) c.loop-byte.yielded _ c.loop-byte.yielded_by _ _ c.in-Some.byte c.in-Some.is c.next.ensures.steps in
    rw (length_push, c.from.ensures) (reading_more c.loop-byte.invariant t c.type_inv.bytes)

pub returns : goal.returns
returns c =
    let t = YieldsList-end (YieldsList-from_rev_slice c.args.bytes.now cc) c.loop-byte.yielded _ c.loop-byte.yielded_by _ _ c.in-None.is c.next.ensures.steps in
    reading_all c.loop-byte.invariant t.1
