use Rattle.std.proofs.lemmas.List.Elements.{All-set}
use Rattle.completions.specs.Completions.{IsRowBound}
use Rattle.fronts.specs.Tasks.{pricing_of}
use Rattle.completions.proofs.table.fill_at.Goals as goal

pub returns-then-place-bounds-clause-bounds : goal.returns-then-place-bounds-clause-bounds
returns-then-place-bounds-clause-bounds c =
    let task = c.args.task.now in
    All-set (IsRowBound (pricing_of task)) c.args.bounds.now c.place-place.result
    (record { bound = c.bound_from-work.result.0; from = c.in-Some.corner.from; row = c.args.v; load = c.in-Some.corner.load }) c.bound_from-work.ensures c.requires.bounds
