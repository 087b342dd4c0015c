-- The paper's number and values for each answer: document 01, "Refusal numbers", "Pick" and "The script program".
-- The contracts of every engine use these.
-- Assumes nothing.
use Rattle.std.specs.Prelude.{Bool, cond, List, [], ◌∷◌, ℕ, Result, Ok, Err}
use Rattle.reply.specs.declared.Refusal.{Refusal}
use Rattle.reply.specs.declared.Refusal.TheVariants.{Memory, Form, Lists, Share, Largest, Sum}
use Rattle.reply.specs.declared.Refusal.TheVariants.{NoFlow, Length, Full, Clock}

-- a reply in the paper's numbers
pub data Reply : Type 0 where
  -- nothing waits
  idle : Reply
  -- done, with the values of the reply in the paper's order
  done : List ℕ → Reply
  -- refused with a number from 1 to 10 and a flow: "Numbers 4 and 5 come with the flow's number, every other with 0."
  refused : ℕ → ℕ → Reply

-- the table "Refusal numbers"
abbrev pub refusal : Refusal → Reply
refusal Memory = refused 1 0
refusal Form = refused 2 0
refusal Lists = refused 3 0
refusal (Share f) = refused 4 f
refusal (Largest f) = refused 5 f
refusal Sum = refused 6 0
refusal NoFlow = refused 7 0
refusal Length = refused 8 0
refusal Full = refused 9 0
refusal Clock = refused 10 0

-- the number of a reply, "0 for done", and the flow that comes with it; Idle has no number, and counts as 0 here
abbrev pub reply_number : Reply → ℕ
reply_number idle = 0
reply_number (done values) = 0
reply_number (refused number flow) = number

abbrev pub reply_flow : Reply → ℕ
reply_flow idle = 0
reply_flow (done values) = 0
reply_flow (refused number flow) = flow

-- an opening's reply and an arrival's: "done", or refused
abbrev pub done_reply : Result (Unit {0}) Refusal → Reply
done_reply (Ok _) = done []
done_reply (Err why) = refusal why

-- "The reply is flow, length, handle, T, leapt or not, clock."
abbrev pub packet : ℕ → ℕ → ℕ → ℕ → Bool → ℕ → Reply
packet flow length handle tag leapt clock = done (flow ∷ length ∷ handle ∷ tag ∷ cond leapt 1 0 ∷ clock ∷ [])
