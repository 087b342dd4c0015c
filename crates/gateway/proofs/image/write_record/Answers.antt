-- `gateway::image::write_record` meets its contract: each part of the block is written as the definition has it.
use Rattle.std.proofs.Common.{rules}
use mathlib.Core.Path.{◌∙◌}
use Rattle.gateway.proofs.Blocks.{record_written}
use Rattle.gateway.proofs.image.write_record.Goals as goal

pub returns : goal.returns
returns c =
    record_written c.args.words.now c.told-words c.args.r _ (search rules) _ c.copy_from_slice.ensures.after (search rules)
    _ (c.copy_from_slice-2.ensures.after ∙ c.field_words.ensures)
    _ (c.copy_from_slice-3.ensures.after ∙ c.field_words-2.ensures)
    _ (c.copy_from_slice-4.ensures.after ∙ c.field_words-3.ensures)
    _ (c.copy_from_slice-5.ensures.after ∙ c.field_words-4.ensures)
