-- `tags::ServerTags::rest_ok` meets its contract. What its loop keeps is in Invariants.
use Rattle.std.proofs.Common.{rules, arith}
use Rattle.tags.proofs.Forming.{rest_begins, rest_more, rest_all}
use Rattle.tags.proofs.ServerTags.rest_ok.Goals as goal

pub loop-tag-init : goal.loop-tag-init
loop-tag-init c = rest_begins c.args.self.now.0 c.args.flows

pub loop-tag-preserved : goal.loop-tag-preserved
loop-tag-preserved c =
    rest_more c.args.self.now.0 c.args.flows c.requires (search rules) c.loop-tag.any c.loop-tag.tag-index
    c.loop-tag.invariant c.loop-tag-test.true

pub returns : goal.returns
returns c =
    rest_all c.args.self.now.0 c.args.flows c.requires (search rules) c.loop-tag.any c.loop-tag.tag-index
    c.loop-tag.invariant (omega arith)
