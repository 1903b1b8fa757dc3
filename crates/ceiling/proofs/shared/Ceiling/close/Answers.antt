use Rattle.std.proofs.Common.{◌≡◌, ◌++◌, ◌∷◌, []}
use Rattle.ceiling.specs.Seats.{opening_of}
use Rattle.ceiling.proofs.Ends.{obeys_as_far, last_first}
use Rattle.ceiling.proofs.shared.Ceiling.close.Goals as goal

pub returns-clause-words : goal.returns-clause-words
returns-clause-words c =
    let s = c.in-Some.field-0 in
    let xs = c.pop.new.self.items in
    let items : c.args.seats.items ≡ xs ++ s ∷ [] = rw c.in-Some.is at c.pop.ensures.items in
    rw items (obeys_as_far (opening_of c.args.self) _ _ _ (last_first (opening_of c.args.self) xs s) c.closed.ensures)
