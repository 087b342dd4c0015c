-- `sidegate::backward_arrival` meets its contract: each way through it is one case of its definition.
use Rattle.std.proofs.Common.{rules}
use Rattle.sidegate.proofs.Calls.{arrival_unblocked, arrival_told}
use Rattle.sidegate.proofs.backward_arrival.Goals as goal

pub returns-in_default : goal.returns-in_default
returns-in_default c = search (rules, arrival_unblocked)

pub returns : goal.returns
returns c =
    record {
      exact = arrival_told c.args.flow c.args.length c.args.handle _ _ _ _ _ _ _ _ _ _ _ c.in-Some.ensures.cases
          c.plain_of-held.ensures c.arrival-reply.ensures.exact c.write_plain.ensures c.arrival_answer.ensures;
    }
