-- `cardlog::pick` meets its contract. The flow of a pick that is done fits its field by the record's form.
use Rattle.std.proofs.Common.{rules}
use Rattle.cardlog.proofs.Noting.{pick_flow}
use Rattle.cardlog.proofs.pick.Goals as goal

pub overflow_cast-entry : goal.overflow_cast-entry
overflow_cast-entry c =
    record {
      fits = pick_flow c.args.held _ _ _ _ _ _ c.pick-called.ensures.exact c.in-Ok-Some.packet (search rules);
    }
