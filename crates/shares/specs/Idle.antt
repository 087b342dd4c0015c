-- An Idle keeps what is steady: clock, link time and all tags become 0, and nothing waits.
-- Assumes nothing.
use Rattle.std.specs.Prelude.{◌≡◌, refl, ℕ, ◌<◌}
use Rattle.uplink.specs.Record.{rested, rested_rows}
use Rattle.reply.specs.State.{state}
use Rattle.uplink.specs.State.{State}
use Rattle.uplink.specs.Restarts.{rested_tag, rested_formed}
use Rattle.shares.specs.Keep.{reset_good}
use Rattle.shares.specs.Bridge.{flow_of, Steady, Zeroed, table_of, charge_idle}

-- nothing waits
abbrev pub Nobody : State → Type 0
Nobody s = (f : ℕ) → f < s.held.flows → (flow_of s f).queue.waiting ≡ 0

module _ (s : State) (S : Steady s) where
  -- the state after
  abbrev after : State
  after = state (rested s.held) s.lengths s.handles

  -- the clocks and every tag are 0
  pub idle_zeroed : Zeroed after
  idle_zeroed = record { clock = refl; link = refl; tags = rested_tag s.held }

  -- the table stays
  pub idle_table : table_of after ≡ table_of s
  idle_table = refl

  -- an Idle keeps what is steady
  pub idle_steady : Nobody s → Steady after
  idle_steady nobody =
      record {
        rows = rested_rows s.held S.rows;
        lengths_lent = S.lengths_lent;
        handles_lent = S.handles_lent;
        form = rested_formed s.held s.lengths S.form nobody;
        good = reset_good (table_of after) (λ f l. rested_tag s.held f) (λ f l. charge_idle after f (nobody f l));
      }
