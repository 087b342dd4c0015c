-- A log built entry by entry, as `logwrite` does, which holds one block at a time: an entry goes behind the block's last
-- one; where that has 31 it is passed on first, and the next begins; at the end it is passed on where it has any.
-- Assumes nothing.
use Rattle.std.specs.Prelude.{cond, List, [], ◌∷◌, ◌++◌, ◌+◌, eqb, leb, set}
use Rattle.entries.specs.declared.Entry.{Entry}
use Rattle.card.specs.declared.Block.{Block}
use Rattle.cardlog.specs.Log.{content_of}

-- an entry behind the block's last one; a block that is full stays
unfoldable pub added_rule : Block → Entry → Block
added_rule b e =
    cond (leb 31 b.count) b
    (record { number = b.number; count = b.count + 1; entries = set b.entries b.count e })

-- the blocks passed on so far, and the block under way
pub record Fed : Type 0 where
  pub passed : List Block
  pub current : Block

abbrev pub fed : List Block → Block → Fed
fed passed current = record { passed = passed; current = current }

-- before any entry
abbrev pub none_fed : Fed
none_fed = fed [] (content_of 0 [])

-- one entry more: a block of 31 is passed on, and the next begins with it
abbrev pub fed_one : Fed → Entry → Fed
fed_one x e =
    cond (eqb x.current.count 31)
    (fed (x.passed ++ (x.current ∷ [])) (added_rule (content_of (x.current.number + 1) []) e))
    (fed x.passed (added_rule x.current e))

abbrev pub feed : Fed → List Entry → Fed
feed x [] = x
feed x (e ∷ entries) = feed (fed_one x e) entries

-- at the end the block under way is passed on where it has any entry
abbrev pub all_passed : Fed → List Block
all_passed x = cond (eqb x.current.count 0) x.passed (x.passed ++ (x.current ∷ []))
