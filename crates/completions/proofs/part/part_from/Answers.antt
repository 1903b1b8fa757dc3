use Rattle.std.proofs.Common.{◌≡◌, arith, to_z, of_z, w64}
use Rattle.std.proofs.lemmas.Int.{ints, to_z-of_z}
use Rattle.fronts.specs.Tasks.{pricing_of}
use Rattle.fronts.proofs.Listed.{table_more}
use Rattle.completions.specs.Completions.{IsVisitBound}
use Rattle.completions.proofs.part.part_from.Goals as goal

pub loop-v-preserved : goal.loop-v-preserved
loop-v-preserved c =
    let least = c.least_after.result in
    let e : to_z w64 (of_z w64 least) ≡ least = to_z-of_z w64 least (omega (arith, ints, c.least_after.ensures.cut.low, c.least_after.ensures.cut.high)) in
    rw (c.in_ok-push.ensures.items, e) (table_more (IsVisitBound (pricing_of c.args.task.now) c.args.from) c.loop-v.v least c.loop-v.leasts.items c.loop-v.invariant c.least_after.ensures)
