-- `gateway::uplink_pick` meets its contract: each way through it is one case of its definition.
use Rattle.std.proofs.Common.{rules}
use Rattle.gateway.proofs.Calls.{pick_unblocked, pick_unreplied, pick_told}
use Rattle.gateway.proofs.uplink_pick.Goals as goal

pub returns-in_default : goal.returns-in_default
returns-in_default c = search (rules, pick_unblocked)

pub returns-in_default-as_mut_array : goal.returns-in_default-as_mut_array
returns-in_default-as_mut_array c = search (rules, pick_unreplied)

pub returns : goal.returns
returns c =
    record {
      exact = pick_told _ _ _ _ _ _ _ _ _ _ _ _ _ _ c.in-Some.ensures.cases c.in-Some-as_mut_array.ensures.cases
          c.record_of-held.ensures c.pick-reply.ensures.exact c.write_picked.ensures c.pick_answer.ensures;
    }
