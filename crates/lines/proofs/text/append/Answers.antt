-- `lines::text::append` meets its contract: what is copied stands between what stood before it and behind it.
use Rattle.std.proofs.Common.{arith, refl, ◌+◌, ◌-◌, ◌≡◌, length}
use lib.Seq.{take-length}
use Rattle.std.proofs.lemmas.List.Edits.{take-paste, drop-paste, length-paste}
use Rattle.std.proofs.lemmas.Slice.{put_mid-paste}
use Rattle.lines.proofs.text.append.Goals as goal

pub returns : goal.returns
returns c =
    let out = c.args.out.now in
    let text = c.args.text.now in
    let n = length text in
    let k : n ≡ c.args.at + n - c.args.at = omega arith in
    rw (put_mid-paste c.args.at (c.args.at + n - c.args.at) out c.copy_from_slice.new.self text n c.copy_from_slice.ensures.after k refl)
    record {
      behind = refl;
      holds = rw (take-paste out c.args.at text n (omega arith) (omega arith), take-length);
      beyond = drop-paste out c.args.at text n (omega arith) (omega arith);
      same = length-paste out c.args.at text n (omega arith) (omega arith);
    }
