-- `backward::Record::opening` meets its contract: it is the first engine's with nothing leapt.
use Rattle.backward.proofs.Opens.{opened}
use Rattle.backward.proofs.Record.opening.Goals as goal

pub returns : goal.returns
returns c =
    record {
      exact = opened c.args.shares.now c.args.largest.now c.args.header c.args.lengths.now c.args.handles.now _ _ _ _ _
          c.opening-opened.ensures.exact c.unleapt.ensures;
    }
