use Rattle.std.proofs.Common.{◌≡◌, ◌<◌, ◌≤◌, ◌+◌, ◌∙◌, Some, length, sym, ap, List, refl, arith, Result, Ok, Err, true, false}
use Rattle.std.specs.Result.{is_err, OnOk}
use Rattle.incumbent_book.specs.declared.node.Node.{Node}
use Rattle.incumbent_book.specs.Arena.{leaf_at}
use Rattle.incumbent_book.proofs.Leaves.{leaf_within, leaf_split, not_listed, no_leaf_past}
use Rattle.incumbent_book.proofs.arena.Arena.split.Goals as goal

of_ok : {T E : Type 0} (r : Result T E) (P : Type 0) → is_err r ≡ false → OnOk r P → P
of_ok (Ok x) P told holds = holds
of_ok (Err e) P told holds = absurd (let never : true ≡ false = told in cc)

pub put_two-requires : goal.put_two-requires
put_two-requires c = of_ok c.make_room.result _ (sym c.is_err.ensures.value ∙ c.if-is_err.false) c.make_room.ensures.ok

pub replace_by_two-requires-clause-fresh : goal.replace_by_two-requires-clause-fresh
replace_by_two-requires-clause-fresh c =
    let past : length c.self.inside.nodes.items ≤ c.len-first.result = omega (arith, c.len-first.ensures) in
    not_listed _ _ c.self.invariant _ _ (no_leaf_past _ _ past)

pub index_mut-requires : goal.index_mut-requires
index_mut-requires c =
    let was : leaf_at c.as_slice.result.now c.args.number ≡ Some c.in-Some.leaf.now = sym c.in-Some.ensures in
    let lt : c.args.number < length c.as_slice.result.now = leaf_within _ _ _ was in
    let items = ap (λ (xs : List Node). length xs) c.make_room.ensures.items in
    omega (arith, c.as_slice.ensures.len)

pub invariant_of-self-in-Ok : goal.invariant_of-self-in-Ok
invariant_of-self-in-Ok c =
    let first : c.len-first.result ≡ length c.self.inside.nodes.items = omega (arith, c.len-first.ensures) in
    let second : c.len-first.result + 1 ≡ length c.self.inside.nodes.items + 1 = omega arith in
    rw (c.put_two.ensures, c.open_node.ensures, c.open_node-in-Ok.ensures, c.make_room.ensures.items)
    (leaf_split _ _ c.self.invariant c.args.number c.in-Some.leaf.now _ _ c.args.arc _ _ _ (rw (← c.as_slice.ensures.value) (sym c.in-Some.ensures)) first second
    (rw (c.tenths.ensures.value, c.tenths-2.ensures.value, c.tenths-3.ensures.value) at c.in-Ok.ensures.ok))

pub returns-in-Ok-clause-numbers : goal.returns-in-Ok-clause-numbers
returns-in-Ok-clause-numbers c =
    let seen = ap (λ (xs : List Node). length xs) c.self.view_is in
    (omega (arith, c.len-first.ensures), omega (arith, c.len-first.ensures))

pub returns-in-Ok-clause-ok : goal.returns-in-Ok-clause-ok
returns-in-Ok-clause-ok c =
    let first : c.len-first.result ≡ length c.self.inside.nodes.items = omega (arith, c.len-first.ensures) in
    rw (← c.self.view_is)
    (c.in-Some.leaf.now, rw (← c.as_slice.ensures.value) (sym c.in-Some.ensures), rw (c.put_two.ensures, c.open_node.ensures, c.open_node-in-Ok.ensures, c.make_room.ensures.items, first) refl)
