use Rattle.std.proofs.Common.{◌≤◌, arith}
use Rattle.std.proofs.lemmas.Int.{ints}
use Rattle.solomon_reader.specs.SubsetRows.{row_price_sum}
use Rattle.row_charges.specs.Bits.{bit_of}
use Rattle.row_charges.specs.Rows.{rows_of}
use Rattle.fronts.proofs.Charging.{charged_low}
use Rattle.fronts.proofs.task.Task.charged_after.Goals as goal

pub returns-clause-bounded : goal.returns-clause-bounded
returns-clause-bounded c =
    let task = c.args.self.now in
    let step = c.requires.step.0 in
    let charged = task.task.charged c.args.front.now.last c.args.step.now.customer step.customer in
    let priced = task.task.priced c.args.front.now.last c.args.step.now.customer step.customer in
    let carried = task.task.carried c.args.step.now.customer step.customer in
    let after = c.after-after.ensures.after in
    let is : c.charge-charge.result ≤ row_price_sum (rows_of task.payment.rows.now) =
    rw (c.charge-charge.ensures.is, task.charges_rows) (charged_low (rows_of task.payment.rows.now) (bit_of c.args.bits) c.args.step.now.customer) in
    record {
      last = omega (arith, c.after-after.ensures.bounded.last);
      time = omega (arith, c.after-after.ensures.bounded.time);
      load = omega (arith, c.after-after.ensures.bounded.load);
      held = omega (arith, c.after-after.ensures.bounded.held);
      low = omega (arith, ints, c.after-after.ensures.bounded.low, c.after-after.ensures.bounded.high, c.charge-charge.ensures.low);
      high = omega (arith, ints, is, after.cost, after.load, charged, priced.low, priced.high, carried, step.near, step.way, c.after-after.ensures.bounded.low, c.after-after.ensures.bounded.high);
    }
