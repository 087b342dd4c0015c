-- `cardlog::arrival` meets its contract. Flow and length of an arrival that is done fit their fields by the record's form.
use Rattle.std.proofs.Common.{rules}
use Rattle.cardlog.proofs.Noting.{arrival_flow, arrival_length}
use Rattle.cardlog.proofs.arrival.Goals as goal

pub overflow_cast-entry : goal.overflow_cast-entry
overflow_cast-entry c = search (rules, arrival_flow)

pub overflow_cast-entry-in-Ok : goal.overflow_cast-entry-in-Ok
overflow_cast-entry-in-Ok c = search (rules, arrival_length)
