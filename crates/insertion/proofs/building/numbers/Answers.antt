use Rattle.std.proofs.Common.{rules, refl, ◌+◌, arith}
use Rattle.std.proofs.lemmas.Iterator.{items_from_collect, YieldsList-from_range}
use Rattle.insertion.proofs.building.numbers.Goals as goal

pub returns : goal.returns
returns c = rw (← c.customer_count.ensures.value) (items_from_collect c.collect.result (search rules)
    (YieldsList-from_range 1 (c.customer_count.result + 1) c.customer_count.result refl (omega arith)))
