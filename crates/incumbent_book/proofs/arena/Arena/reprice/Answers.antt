use Rattle.std.proofs.Common.{◌≡◌, ◌<◌, length, Some, sym, refl, arith}
use Rattle.incumbent_book.specs.Arena.{leaf_at}
use Rattle.incumbent_book.proofs.Leaves.{leaf_within, leaf_set}
use Rattle.incumbent_book.proofs.arena.Arena.reprice.Goals as goal

pub index_mut-requires : goal.index_mut-requires
index_mut-requires c =
    let was : leaf_at c.as_slice.result.now c.args.number ≡ Some c.in-Some.leaf.now = sym c.in-Some.ensures in
    let lt : c.args.number < length c.as_slice.result.now = leaf_within _ _ _ was in
    omega (arith, c.as_slice.ensures.len)

pub invariant_of-self : goal.invariant_of-self
invariant_of-self c =
    rw c.open_node.ensures
    (leaf_set _ _ c.self.invariant c.args.number c.in-Some.leaf.now _ _ (rw (← c.as_slice.ensures.value) (sym c.in-Some.ensures))
    (rw (c.tenths.ensures.value, c.tenths-2.ensures.value) at c.in-Ok.ensures.ok))

pub returns-in-Ok-clause-ok : goal.returns-in-Ok-clause-ok
returns-in-Ok-clause-ok c =
    rw (← c.self.view_is) (c.in-Some.leaf.now, rw (← c.as_slice.ensures.value) (sym c.in-Some.ensures), rw c.open_node.ensures refl)
