use Rattle.std.proofs.Common.{arith}
use Rattle.std.proofs.lemmas.Int.{ints}
use Rattle.std.proofs.lemmas.List.Elements.{All-replicate}
use Rattle.completions.specs.Completions.{IsRowBound, IsBrink}
use Rattle.completions.proofs.Following.{brink_of}
use Rattle.fronts.specs.Tasks.{pricing_of}
use Rattle.completions.proofs.table.bounds_of.Goals as goal

pub fill-work-requires-clause-bounds : goal.fill-work-requires-clause-bounds
fill-work-requires-clause-bounds c =
    let task = c.args.task.now in
    rw (c.as_mut_slice.ensures.value, c.in_ok-bounds.ensures.items_if_clones_equal (λ y h. h))
    (All-replicate (IsRowBound (pricing_of task)) c.count.result (record { bound = c.unknown-bound.result; from = 0; row = 0; load = 0 }) (c.unknown-bound.ensures 0 0 0))

pub fill-work-requires-clause-brinks : goal.fill-work-requires-clause-brinks
fill-work-requires-clause-brinks c =
    let task = c.args.task.now in
    let bound = c.unknown-bound.result in
    let least = (c.unknown-bound.ensures 0 0 0).small.least in
    rw (c.as_mut_slice-2.ensures.value, c.in_ok-brinks.ensures.items_if_clones_equal (λ y h. h))
    (All-replicate (IsBrink (pricing_of task)) c.noted.result _
    (brink_of _ 0 0 bound _ (omega (arith, ints, least.low, least.high)) (c.unknown-bound.ensures 0 0 0)))
