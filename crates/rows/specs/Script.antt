-- Lists of calls, each made on the record and the memories that the one before it left, to be computed.
-- Assumes nothing.
use Rattle.std.specs.Prelude.{List, [], ◌∷◌}
use Rattle.reply.specs.Reply.{Reply}
use Rattle.uplink.specs.State.{State}
use Rattle.uplink.specs.Calls.{Call, after_call, every_rule}

-- the record and the memories after a list of calls
unfoldable pub run : State → List Call → State
unfolding every_rule
run s [] = s
run s (call ∷ calls) = run (after_call s call).state calls

-- the reply to each call of a list
unfoldable pub replies : State → List Call → List Reply
unfolding every_rule
replies s [] = []
replies s (call ∷ calls) = let after = after_call s call in after.reply ∷ replies after.state calls
