-- `gateway::image::write_picked` meets its contract: where nothing waits the tags are written besides.
use Rattle.std.proofs.Common.{rules}
use Rattle.gateway.proofs.Blocks.{rested_written}
use Rattle.gateway.proofs.image.write_picked.Goals as goal
use Rattle.gateway.proofs.image.write_picked.Goals.{in-Ok-Some, in_default, in_default-2}

pub returns-in-Ok-None : goal.returns-in-Ok-None
returns-in-Ok-None c =
    rested_written c.args.words.now _ _ c.args.r _ (search rules) _
    (elim c.match-reply.branch [ in-Ok-Some w ↦ search rules | in_default w ↦ w.flow-is | in_default-2 w ↦ w.flow-is ])
    c.write_step.ensures c.copy_from_slice.ensures.after (search rules)
