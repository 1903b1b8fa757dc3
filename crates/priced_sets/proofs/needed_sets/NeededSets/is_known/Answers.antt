use Rattle.std.proofs.Common.{◌≡◌, get_or}
use Rattle.std.proofs.lemmas.Bool.Decides.{Decides-eqb}
use Rattle.std.proofs.lemmas.Slice.Eq.{slice_eq-Decides}
use Rattle.priced_sets.proofs.Admitting.{known_set}
use Rattle.priced_sets.proofs.needed_sets.NeededSets.is_known.Goals as goal

pub returns-then-eq : goal.returns-then-eq
returns-then-eq c = λ yes.
    (let same : c.as_slice.result.now ≡ c.args.members.now = (slice_eq-Decides Decides-eqb _ _ _ c.eq.ensures).0 c.if-eq.true in
    let there : (get_or c.deref-set-items.result.now c.loop-set.set-index c.set-item.result).members.items ≡ c.args.members.now = rw c.set-item.is at (rw c.as_slice.ensures.value at same) in
    known_set c.args.self.now c.deref-set-items.result.now c.loop-set.set-index c.set-item.result c.args.members.now c.args.need c.loop-set-test.true
    (rw (c.deref-set-items.ensures.value, ← c.self.view_is) c.self.invariant.1) there (rw c.set-item.is at c.if-set-need.true))
