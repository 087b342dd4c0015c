-- `signs::raise` meets its contract. What its steps leave in 64 bits is said by the laws of `Machine`.
use Rattle.std.proofs.Common.{rules}
use Rattle.signs.specs.Machine.{whole_at, whole_fits, under_fits, under_at, under_cast}
use Rattle.signs.proofs.raise.Goals as goal

pub overflow_sub-under : goal.overflow_sub-under
overflow_sub-under c = search (rules, under_fits)

pub overflow_cast-under : goal.overflow_cast-under
overflow_cast-under c = search (rules, under_at, under_cast)

pub overflow_cast-result : goal.overflow_cast-result
overflow_cast-result c = search (rules, whole_at, whole_fits)
