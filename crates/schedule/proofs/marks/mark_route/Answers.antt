use Rattle.std.proofs.Common.{refl}
use Rattle.solomon_reader.proofs.StepLemmas.{stands_again}
use Rattle.schedule.proofs.marks.mark_route.Goals as goal

pub returns-then-not-insert-clause-again : goal.returns-then-not-insert-clause-again
returns-then-not-insert-clause-again c list marks _ =
    (_, stands_again list c.args.route.now c.loop-stop.stop-index _ c.loop-stop-test.true refl (c.if-not-insert.ensures.again _ (c.loop-stop.invariant list marks) refl))
