-- What the leader of a record is, whatever the tie rule: a flow of smallest tag; and where nobody leads nobody waits.
-- Assumes nothing.
use Rattle.std.specs.Prelude.{◌≡◌, true, false, ℕ, ◌<◌}
use Rattle.tags.specs.Choice.{Smallest}
use Rattle.tags.specs.Chosen.{leads}
use Rattle.uplink.specs.Record.{tag_of, waiting_of}
use Rattle.uplink.specs.Pick.{lead_of}
use Rattle.uplink.specs.declared.Record.{Record}

pub lead_smallest : (r : Record) → (lead_of r).waits ≡ true
    → Smallest (tag_of r) (waiting_of r) r.flows (lead_of r).flow
lead_smallest r = (leads r.turn (tag_of r) (waiting_of r) r.flows).smallest

pub lead_nobody : (r : Record) → (lead_of r).waits ≡ false → (f : ℕ) → f < r.flows → waiting_of r f ≡ 0
lead_nobody r = (leads r.turn (tag_of r) (waiting_of r) r.flows).nobody
