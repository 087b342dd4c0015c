-- `gateway::uplink_depth` meets its contract: each way through it is one case of its definition.
use Rattle.std.proofs.Common.{rules}
use Rattle.gateway.proofs.Calls.{depth_unblocked, depth_unreplied, depth_done, depth_refused}
use Rattle.gateway.proofs.uplink_depth.Goals as goal

pub returns-in_default : goal.returns-in_default
returns-in_default c = search (rules, depth_unblocked)

pub returns-in_default-as_mut_array : goal.returns-in_default-as_mut_array
returns-in_default-as_mut_array c = search (rules, depth_unreplied)

pub returns-in-Ok : goal.returns-in-Ok
returns-in-Ok c =
    record {
      exact = depth_done c.args.flow _ _ _ _ c.in-Some.ensures.cases c.in-Some-as_mut_array.ensures.cases _ c.in-Ok.ensures;
    }

pub returns-in-Err : goal.returns-in-Err
returns-in-Err c =
    record {
      exact = depth_refused c.args.flow _ _ _ _ c.in-Some.ensures.cases c.in-Some-as_mut_array.ensures.cases _ _
          c.number.ensures c.in-Err.ensures;
    }
