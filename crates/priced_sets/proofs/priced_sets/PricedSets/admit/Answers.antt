use Rattle.std.proofs.Common.{◌≡◌, ◌≢◌, ap, arith}
use Rattle.std.specs.List.{AllByRecursion}
use Rattle.solomon_reader.specs.SetPrices.{price_sum}
use Rattle.priced_sets.specs.Sets.{set_of, sets_of, MayBeListed}
use Rattle.priced_sets.proofs.Admitting.{priced_more}
use Rattle.priced_sets.proofs.priced_sets.PricedSets.admit.Goals as goal

pub invariant_of-self-in_ok-insert : goal.invariant_of-self-in_ok-insert
invariant_of-self-in_ok-insert c =
    let sets : sets_of c.self.inside.sets.items ≡ c.args.self.now.sets = ap (λ s. s.sets) c.self.view_is in
    let problem : c.self.inside.instance.now ≡ c.args.self.now.problem = ap (λ s. s.problem) c.self.view_is in
    let listed : MayBeListed c.self.inside.instance.now (record { members = c.args.set.now.members.items; need = c.args.set.now.need }) =
    rw (problem, ← c.requires) (rw c.as_slice-members.ensures.value at (c.in_ok-is_needed.ensures.needed.0 c.if-branch.true)) in
    let apart : AllByRecursion (λ t. t.members ≢ c.args.set.now.members.items) (sets_of c.self.inside.sets.items) =
    rw sets (rw c.as_slice-members.ensures.value at (c.has.ensures.no c.if-has.false)) in
    let sum : c.sum.result ≡ price_sum (sets_of c.self.inside.sets.items) = rw sets c.sum.ensures.sum in
    rw (c.in_ok-insert.ensures.items, c.in_ok-try_clone.ensures) (priced_more _ (set_of c.args.set.now) (sets_of c.self.inside.sets.items) c.self.invariant
    listed (omega (arith, c.if-set-lt1.false)) apart (omega (arith, sum, c.if-set-room.false, c.saturating_sub-room.ensures)))
