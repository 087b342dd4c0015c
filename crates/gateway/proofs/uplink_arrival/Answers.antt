-- `gateway::uplink_arrival` meets its contract: each way through it is one case of its definition.
use Rattle.std.proofs.Common.{rules}
use Rattle.gateway.proofs.Calls.{arrival_unblocked, arrival_told}
use Rattle.gateway.proofs.uplink_arrival.Goals as goal

pub returns-in_default : goal.returns-in_default
returns-in_default c = search (rules, arrival_unblocked)

pub returns : goal.returns
returns c =
    record {
      exact = arrival_told c.args.flow c.args.length c.args.handle _ _ _ _ _ _ _ _ _ _ _ c.in-Some.ensures.cases
          c.record_of-held.ensures c.arrival-reply.ensures.exact c.write_arrived.ensures c.arrival_answer.ensures;
    }
