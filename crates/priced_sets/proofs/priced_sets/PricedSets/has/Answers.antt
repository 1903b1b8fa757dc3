use Rattle.std.proofs.Common.{◌≡◌, ◌≢◌, get_or, ap}
use Rattle.std.proofs.lemmas.Bool.Decides.{not_from_Decides, Decides-eqb}
use Rattle.std.proofs.lemmas.Slice.Eq.{slice_eq-Decides}
use Rattle.priced_sets.specs.Sets.{sets_of}
use Rattle.priced_sets.proofs.Admitting.{HasNone, sought_more, sought_found}
use Rattle.priced_sets.proofs.priced_sets.PricedSets.has.Goals as goal

pub returns-then-eq-clause-yes : goal.returns-then-eq-clause-yes
returns-then-eq-clause-yes c = λ yes none.
    (let same : c.as_slice.result.now ≡ c.args.members.now = (slice_eq-Decides Decides-eqb _ _ _ c.eq.ensures).0 c.if-eq.true in
    let there : (get_or c.deref-set-items.result.now c.loop-set.set-index c.set-item.result).members.items ≡ c.args.members.now = rw c.set-item.is at (rw c.as_slice.ensures.value at same) in
    let sets : sets_of c.self.inside.sets.items ≡ c.args.self.now.sets = ap (λ s. s.sets) c.self.view_is in
    let all : HasNone c.args.members.now c.deref-set-items.result.now = rw (c.deref-set-items.ensures.value, sets) none in
    sought_found c.args.members.now c.deref-set-items.result.now c.loop-set.set-index c.set-item.result c.loop-set-test.true there all)

pub loop-set-preserved : goal.loop-set-preserved
loop-set-preserved c =
    let apart : c.as_slice.result.now ≢ c.args.members.now = not_from_Decides _ (slice_eq-Decides Decides-eqb _ _ _ c.eq.ensures) c.if-eq.false in
    sought_more c.args.members.now c.deref-set-items.result.now c.loop-set.set-index c.set-item.result c.loop-set-test.true (rw c.set-item.is at (rw c.as_slice.ensures.value at apart)) c.loop-set.invariant
