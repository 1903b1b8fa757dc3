use Rattle.std.proofs.Common.{◌∙◌, sym, subst, arith, inl, inr}
use Rattle.std.specs.Prelude.{pos}
use Rattle.solomon_reader.specs.Moves.{route}
use Rattle.segments.specs.PlanTrees.{problem_of}
use Rattle.moves.specs.Trees.{visits_of}
use Rattle.moves.specs.Changes.{chain_at}
use Rattle.moves.specs.Flanks.{HasChange}
use Rattle.moves.specs.SecondRoutes.{IsChange, shift_change}
use Rattle.moves.proofs.FlankChanges.{by_place, shifted_apart, shifted_within, shift_stays}
use Rattle.moves.proofs.second_route.change_of_shift.Goals.{then-position-first-2, else-position-first-2}
use Rattle.moves.proofs.second_route.change_of_shift.Goals as goal

pub returns-then-second-first : goal.returns-then-second-first
returns-then-second-first c =
    let p = problem_of c.args.trees.now in
    let routes = visits_of c.args.trees.now in
    let first = c.args.first.now in
    let b = c.args.second.now.route in
    let j = c.args.position in
    by_place p routes c.args.kind first.numbers (chain_at b j 0) (route routes b) j (shift_change p first (route routes b) j) c.change_into_place.result
    (rw c.from-to.ensures at c.change_into_place.ensures)
    (shifted_apart p routes c.args.kind first c.requires.into.first c.requires.kind b j (λ e. c.if-second-first.true (sym e)))

pub returns-then-position-first : goal.returns-then-position-first
returns-then-position-first c =
    let p = problem_of c.args.trees.now in
    let routes = visits_of c.args.trees.now in
    let first = c.args.first.now in
    subst (λ b. HasChange p routes c.args.kind first.numbers (chain_at b c.args.position 0) (pos 0)) (sym c.if-second-first.false)
    (subst (λ j. HasChange p routes c.args.kind first.numbers (chain_at first.numbers.route j 0) (pos 0)) (sym c.if-position-first.true)
    (shift_stays p routes c.args.kind first c.requires.into.first c.requires.kind))

pub returns : goal.returns
returns c =
    let p = problem_of c.args.trees.now in
    let routes = visits_of c.args.trees.now in
    let first = c.args.first.now in
    let j = c.args.position in
    let n = c.if-position-first-2.before in
    let r = route routes first.numbers.route in
    let same = c.if-second-first.false in
    subst (λ b. IsChange p routes c.args.kind first.numbers (chain_at b j 0) c.change_into_place-2.result) (sym same)
    (by_place p routes c.args.kind first.numbers (chain_at first.numbers.route j 0) r n (shift_change p first r n) c.change_into_place-2.result
    (rw same at c.change_into_place-2.ensures)
    (shifted_within p routes c.args.kind first c.requires.into.first c.requires.kind j n
    (elim c.if-position-first-2.branch [
      | then-position-first-2 w ↦ inl (w.if-position-first-2.true, w.before-is ∙ c.from-to.ensures)
      | else-position-first-2 w ↦ inr (grind (arith, w.if-position-first-2.false, c.if-position-first.false), omega (arith, w.before-is, w.from.ensures, c.from-to.ensures))
    ])))
