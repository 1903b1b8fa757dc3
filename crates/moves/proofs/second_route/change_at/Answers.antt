use Rattle.std.proofs.Common.{◌≡◌, ◌≤◌, length, sym, subst, arith, to_z, of_z, w64}
use Rattle.std.proofs.lemmas.Int.{ints}
use Rattle.solomon_reader.specs.Moves.{route}
use Rattle.segments.specs.PlanTrees.{problem_of}
use Rattle.moves.specs.declared.candidate.Kind.TheVariants as kinds
use Rattle.moves.specs.Trees.{visits_of}
use Rattle.moves.specs.Changes.{chain_at}
use Rattle.moves.specs.Flanks.{flanks_of, ends_change, HasChange, IsFirstChain}
use Rattle.moves.specs.SecondRoutes.{IsChange}
use Rattle.moves.proofs.FlankChanges.{ends_changed}
use Rattle.moves.proofs.second_route.change_at.Goals as goal

pub returns-in-Exchange : goal.returns-in-Exchange
returns-in-Exchange c =
    subst (λ k. IsChange (problem_of c.args.trees.now) (visits_of c.args.trees.now) k c.args.first.now.numbers (chain_at c.args.second.now.route c.args.position 0) c.change_of_exchange.result)
    (sym c.in-Exchange.is) c.change_of_exchange.ensures

pub returns-in-TwoOptStar : goal.returns-in-TwoOptStar
returns-in-TwoOptStar c =
    let p = problem_of c.args.trees.now in
    let routes = visits_of c.args.trees.now in
    let first = c.args.first.now in
    let b = c.args.second.now.route in
    let j = c.args.position in
    let v = c.change_at_place.result in
    let kept : to_z w64 (of_z w64 v) ≡ v = omega (arith, ints) in
    let h : IsFirstChain p routes kinds.TwoOptStar first = subst (λ k. IsFirstChain p routes k first) c.in-TwoOptStar.is c.requires.first in
    let value : j ≤ length (route routes b) → v ≡ ends_change p first.front (flanks_of (route routes b) j) = rw c.from.ensures at c.change_at_place.ensures.value in
    rw kept (subst (λ k. HasChange p routes k first.numbers (chain_at b j 0) v) (sym c.in-TwoOptStar.is) (ends_changed p routes first h b j v value))
