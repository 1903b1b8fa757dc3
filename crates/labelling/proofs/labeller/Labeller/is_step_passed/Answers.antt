use Rattle.std.proofs.Common.{◌≡◌, ℕ, get_or, ap, arith}
use Rattle.std.specs.Prelude.{ℤ, pos}
use Rattle.std.proofs.lemmas.Int.{ints}
use Rattle.labels.specs.Arena.{state_at}
use Rattle.labelling.specs.Search.{pricing_in}
use Rattle.labelling.proofs.Advancing.{step_beyond}
use Rattle.labelling.proofs.labeller.Labeller.is_step_passed.Goals as goal

pub overflow_add-value-2 : goal.overflow_add-value-2
overflow_add-value-2 c =
    let task = c.args.self.now.completions.now.task.now in
    let price = task.task.priced c.args.label.now.front.last c.args.step.now.customer c.requires.step.0.customer in
    let bound = c.requires.leasts.each c.from-row.result (pos 0) c.if-row-leasts.false in
    omega (arith, ints, bound.cut.low, bound.cut.high, price.low, price.high, c.requires.step.0.cost, c.requires.step.0.near, c.requires.step.0.way)

pub returns-then-value-self : goal.returns-then-value-self
returns-then-value-self c =
    let q = pricing_in c.args.self.now in
    let task = c.args.self.now.completions.now.task.now in
    let price = task.task.priced c.args.label.now.front.last c.args.step.now.customer c.requires.step.0.customer in
    let least : ℤ = get_or c.args.leasts.now c.args.step.now.customer (pos 0) in
    let same : get_or c.args.leasts.now c.from-row.result (pos 0) ≡ least = ap (λ (i : ℕ). get_or c.args.leasts.now i (pos 0)) c.from-row.ensures in
    let bound = c.requires.leasts.each c.from-row.result (pos 0) c.if-row-leasts.false in
    λ passed.
    step_beyond q c.args.best (state_at q c.args.label.now) c.args.step.now.customer c.args.label.now.front.time least _ (rw c.from-row.ensures at bound) (omega arith)
    (omega (arith, ints, same, bound.cut.low, bound.cut.high, price.low, price.high, c.requires.step.0.cost, c.requires.step.0.near, c.requires.step.0.way))
    (c.is_at_most.ensures.yes passed)
