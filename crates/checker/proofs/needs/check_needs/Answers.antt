use Rattle.std.proofs.Common.{◌≡◌, Bool, false, sym, ◌∙◌}
use Rattle.std.proofs.lemmas.Bool.{false≢true}
use Rattle.std.specs.Prelude.{IsTrue}
use Rattle.checker.proofs.Sets.{first_unneeded}
use Rattle.checker.proofs.needs.check_needs.Goals as goal

not_true : (b : Bool) → b ≡ false → ¬ IsTrue b
not_true b e is = false≢true (sym e ∙ is)

pub returns-then-not-branch-clause-refused : goal.returns-then-not-branch-clause-refused
returns-then-not-branch-clause-refused c =
    let exact = rw c.as_slice.ensures.value at c.in_ok-is_needed.ensures in
    first_unneeded c.args.instance.now c.args.sets.now c.loop-index.index c.index-sets-index.result c.loop-index-test.true c.index-sets-index.is c.loop-index.invariant
    (λ needed. not_true c.in_ok-is_needed.field-0 c.if-not-branch.true (exact.1 needed))
