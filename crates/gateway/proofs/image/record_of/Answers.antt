use Rattle.gateway.proofs.Blocks.{record_read}
use Rattle.gateway.proofs.image.record_of.Goals as goal

pub returns : goal.returns
returns c =
    record_read c.args.words.now _ _ _ _ _ (rw c.unwrap.ensures at c.try_into.ensures.1).same
    c.field_in.ensures c.field_in-2.ensures c.field_in-3.ensures c.field_in-4.ensures
