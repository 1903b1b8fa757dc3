use Rattle.std.proofs.Common.{subst, IfSome}
use Rattle.std.proofs.lemmas.List.Elements.{All-pop}
use Rattle.ceiling.specs.Seats.{IsNewSeat}
use Rattle.test_library.proofs.workers.turns_over.Goals as goal

-- the seat is one of these words
pub invariant_of-worker : goal.invariant_of-worker
invariant_of-worker c =
    let ceiling = c.in-Ok.ceiling in
    let taken = (All-pop (IsNewSeat ceiling) c.in-Ok.seats.items c.pop.new.self.items c.pop.result c.pop.ensures.items c.in-Ok.ensures.seats).1 in
    record { own = (subst (λ r. IfSome r (IsNewSeat ceiling)) c.in-Some.is taken).0 }
