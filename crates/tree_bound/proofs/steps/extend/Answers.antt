use Rattle.std.proofs.Common.{◌≡◌, refl, arith}
use mir.Syntax.{w64}
use mir.Val.{to_z, of_z}
use Rattle.std.specs.Prelude.{pos, ◌+ℤ◌}
use Rattle.std.proofs.lemmas.Int.{ints}
use Rattle.tree_bound.proofs.steps.extend.Goals as goal

pub returns : goal.returns
returns c =
    let arc = c.requires.arc in
    let x = c.requires.bounded in
    let cost : to_z w64 (of_z w64 (to_z w64 (of_z w64 (to_z w64 (of_z w64 c.args.label.now.cost) +ℤ to_z w64 (of_z w64 c.args.arc.now.value))) +ℤ to_z w64 c.charged-charge.result.0))
    ≡ (c.args.label.now.cost +ℤ c.args.arc.now.value) +ℤ pos c.charged-charge.result.0 =
    omega (arith, ints, x.low, x.high, x.load, x.held, arc.low, arc.high, c.charged-charge.ensures.low) in
    record {
      same = record {
        last = refl;
        time = omega (arith, c.begins.ensures.is, arc.service_is);
        load = omega (arith, arc.demand_is);
        cost = omega (arith, ints, cost, arc.value_is, c.charged-charge.ensures.is);
        memory = c.remember.ensures;
        bits = c.charged-charge.ensures.bits;
      };
      bounded = record {
        last = omega (arith, arc.customer.0, arc.customer.1);
        begun = omega (arith, c.begins.ensures.is, arc.service_is);
        time = omega (arith, c.begins.ensures.is, c.requires.can.due, arc.due_is, arc.late, arc.short);
        load = omega (arith, c.requires.can.load, arc.demand_is);
        held = x.held;
        low = omega (arith, ints, cost, x.low, arc.low, arc.carried);
        high = omega (arith, ints, cost, x.high, arc.high, arc.carried, c.charged-charge.ensures.low);
      };
      active = refl;
    }
