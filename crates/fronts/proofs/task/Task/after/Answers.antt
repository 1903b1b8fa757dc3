use Rattle.std.proofs.Common.{arith}
use Rattle.std.proofs.lemmas.Int.{ints}
use Rattle.fronts.proofs.task.Task.after.Goals as goal

pub overflow_add-result-3 : goal.overflow_add-result-3
overflow_add-result-3 c =
    let step = c.requires.step.0 in
    let price = c.args.self.now.task.priced c.args.front.now.last c.args.step.now.customer step.customer in
    omega (arith, ints, price.low, price.high, step.cost)

pub returns-clause-after : goal.returns-clause-after
returns-clause-after c =
    let step = c.requires.step.0 in
    let price = c.args.self.now.task.priced c.args.front.now.last c.args.step.now.customer step.customer in
    record {
      last = omega arith;
      time = omega arith;
      load = omega arith;
      cost = omega (arith, ints, price.low, price.high, step.cost);
    }

pub returns-clause-bounded : goal.returns-clause-bounded
returns-clause-bounded c =
    let task = c.args.self.now.task in
    let step = c.requires.step.0 in
    let price = task.priced c.args.front.now.last c.args.step.now.customer step.customer in
    let carried = task.carried c.args.step.now.customer step.customer in
    record {
      last = omega (arith, step.customer.1);
      time = omega arith;
      load = omega arith;
      held = omega arith;
      low = omega (arith, ints, price.low, price.high);
      high = omega (arith, ints, price.low, price.high);
    }
