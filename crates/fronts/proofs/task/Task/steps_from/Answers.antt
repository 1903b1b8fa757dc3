use Rattle.std.specs.FinSet.{contains, empty}
use Rattle.std.specs.Prelude.{slice_index_or, IsTrue}
use Rattle.solomon_reader.specs.Region.{IsAllowed}
use Rattle.fronts.proofs.Stepping.{steps_where}
use Rattle.fronts.proofs.task.Task.steps_from.Goals as goal

pub returns : goal.returns
returns c =
    let task = c.args.self.now in
    rw (c.as_slice.ensures.value, c.index.ensures, c.from.ensures)
    (steps_where _ _ _ (λ j. IsTrue (contains (slice_index_or task.allowed_rows.items c.args.v empty) j))
    (λ j. IsAllowed task.region.now (c.args.v, j)) c.args.v _ (λ j. task.allowed.each c.args.v empty c.requires j)
    (task.stepped.each c.args.v c.index.result.now c.requires))
