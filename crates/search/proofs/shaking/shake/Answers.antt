use Rattle.std.proofs.Common.{◌∙◌}
use Rattle.search.proofs.Steps.{shaken_next}
use Rattle.search.proofs.shaking.shake.Goals as goal

pub loop-preserved : goal.loop-preserved
loop-preserved g c =
    let same = c.loop.invariant.0 in
    let tried = rw same at c.in_ok-try_move.ensures.tried in
    (c.in_ok-try_move.ensures.problem ∙ same, shaken_next _ _ _ _ _ tried.0 c.loop.invariant.1 tried.1 tried.2)
