-- `uplink::Record::take` meets its contract: past the refusals the packet is stored as the rule has it.
use Rattle.std.proofs.Common.{arith}
use Rattle.std.proofs.lemmas.Result.{err_from_is_err_and}
use Rattle.uplink.proofs.Arriving.{arrived_unhandled, arrived_refused, storing, short, arrived}
use Rattle.uplink.proofs.Record.take.Goals as goal

pub returns-in_default-as_mut_array : goal.returns-in_default-as_mut_array
returns-in_default-as_mut_array c =
    arrived_unhandled _ _ _ _ _ _ _ c.in-Some.ensures.cases c.in_default-as_mut_array.ensures.cases

pub returns-in_err-admits : goal.returns-in_err-admits
returns-in_err-admits c =
    let given = err_from_is_err_and c.from_residual.result c.from_residual.ensures.1 in
    rw (given.1, given.2)
    (arrived_refused _ _ _ _ _ _ _ c.in-Some.ensures.cases _ c.in-Some-as_mut_array.ensures.cases _ c.admits.ensures _
    c.in_err-admits.was)

pub overflow_cast-length : goal.overflow_cast-length
overflow_cast-length c = omega (arith, short _ _ _ _ _ c.admits.ensures _ c.in_ok-admits.was)

pub store-requires : goal.store-requires
store-requires c = storing _ _ _ _ _ c.admits.ensures _ c.in_ok-admits.was

pub returns : goal.returns
returns c =
    arrived _ _ _ _ _ _ _ c.in-Some.ensures.cases _ c.in-Some-as_mut_array.ensures.cases _ c.admits.ensures _
    c.in_ok-admits.was _ _ _ c.store.ensures
