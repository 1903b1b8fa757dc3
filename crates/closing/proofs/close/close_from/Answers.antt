use Rattle.std.proofs.lemmas.Result.{err_from_is_err_and}
use Rattle.std.proofs.Common.{◌≡◌, ◌∙◌, arith, reverse, sym, subst}
use Rattle.solomon_reader.specs.Problem.{Problem, customer_count}
use Rattle.solomon_reader.specs.Region.{root_region}
use Rattle.solomon_reader.specs.Bound.{version_2}
use Rattle.branching.specs.Nodes.{IsListedTree}
use Rattle.closing.specs.Growing.{Grows}
use Rattle.closing.specs.Closing.{known_or_above, costs}
use Rattle.closing.proofs.Grown.{listed_tree}
use Rattle.closing.proofs.NoDearer.{told_below}
use Rattle.closing.proofs.close.close_from.Goals as goal

pub finish-requires-clause-tree : goal.finish-requires-clause-tree
finish-requires-clause-tree c =
    let begun = c.new-growth.ensures in
    let end = c.grow.new.growth in
    let p = c.args.instance.now in
    let grows : Grows c.args.neighbours (root_region (customer_count p)) c.new-growth.result end = rw (c.in-Ok.ensures.neighbours, c.in-Ok.ensures.region) at c.in_ok-grow.ensures.grows in
    let own : end.instance.now ≡ p = grows.task.instance ∙ begun.instance in
    subst (λ (q : Problem). IsListedTree version_2 q c.args.neighbours (reverse end.nodes.items) end.bound end.leaves) (sym own)
    (listed_tree p c.args.neighbours c.new-growth.result end grows begun.instance begun.nodes begun.leaves begun.bound
    (omega (arith, c.if-customer_count-gt-MOST_CLOSED.false, c.customer_count.ensures.value))
    (omega (arith, c.in_ok-grow.ensures.growth.room, grows.task.limit, begun.limit, c.requires.most)) c.depth_holds.ensures)

pub returns-in_err-closed-clause-no_dearer : goal.returns-in_err-closed-clause-no_dearer
returns-in_err-closed-clause-no_dearer c =
    let told = err_from_is_err_and c.from_residual-in_err-closed.result c.from_residual-in_err-closed.ensures.1 in
    let begun = c.new-growth.ensures in
    let p = c.args.instance.now in
    let own : c.grow.new.growth.instance.now ≡ p = c.in_ok-grow.ensures.grows.task.instance ∙ begun.instance in
    rw (told.1, told.2) (told_below p c.args.start c.grow.new.growth (known_or_above p (costs c.in_ok-plan.plan)) c.in_err-closed.field-0.0 own
    c.in_err-closed.ensures.told (omega (arith, c.in_ok-grow.ensures.least, begun.target)) c.in_ok-plan.ensures.no_dearer)
