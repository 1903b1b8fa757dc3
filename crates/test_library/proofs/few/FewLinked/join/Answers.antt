use Rattle.std.proofs.Common.{◌≡◌, arith}
use Rattle.test_library.proofs.FewEnds.{written, is_filled, answered}
use Rattle.test_library.proofs.few.FewLinked.join.Goals as goal

pub loop-i-preserved : goal.loop-i-preserved
loop-i-preserved c = written c.a.inside.items c.b.inside.items c.loop-i.items c.a.inside.len c.b.inside.len c.a.invariant c.b.invariant (omega arith) c.loop-i.i (omega arith) c.loop-i.invariant

pub invariant_of-result : goal.invariant_of-result
invariant_of-result c =
    let end : c.loop-i.i ≡ c.b.inside.len = omega arith in
    is_filled c.a.inside.items c.b.inside.items c.loop-i.items c.a.inside.len c.b.inside.len c.a.invariant c.b.invariant (omega arith) (rw end at c.loop-i.invariant)

pub returns : goal.returns
returns c =
    let end : c.loop-i.i ≡ c.b.inside.len = omega arith in
    rw (← c.a.view_is, ← c.b.view_is) (answered c.a.inside.items c.b.inside.items c.loop-i.items c.a.inside.len c.b.inside.len c.a.invariant
    c.b.invariant (omega arith) (rw end at c.loop-i.invariant))
