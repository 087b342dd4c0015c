-- What a call of the plain engine is given and what it gives back.
-- Assumes nothing.
use Rattle.reply.specs.State.{StateOf, OutcomeOf}
use Rattle.backward.specs.declared.Record.{Record}

abbrev pub State : Type 0
State = StateOf Record

abbrev pub Outcome : Type 0
Outcome = OutcomeOf Record
