use Rattle.std.proofs.Common.{◌≡◌, arith, inr, ap, Some}
use mir.Syntax.{w64}
use mir.Val.{to_z, of_z}
use Rattle.std.specs.Prelude.{ℤ, ◌≤ℤ◌}
use Rattle.std.proofs.lemmas.Int.{ints}
use Rattle.leaf_arcs.specs.Leaves.{problem_of}
use Rattle.tree_bound.specs.Steps.{route_value}
use Rattle.tree_bound.proofs.steps.close_route.Goals as goal

pub returns-in_default : goal.returns-in_default
returns-in_default c =
    let value : to_z w64 (of_z w64 c.route_value-value.result) ≡ route_value (problem_of c.args.leaf.now) c.args.label.now = omega (arith, ints, c.route_value-value.ensures) in
    record {
      lower = λ y h. (let before : c.in-Some.least ≤ℤ y = rw c.in-Some.is at h in omega (arith, ints, before, c.if-least-value.false));
      counted = λ can. omega (arith, ints, value);
      from = inr (
        record {
          allowed = c.requires.row.ends.0 c.if-not-row.false;
          closing =
              omega (arith, c.if-label-row.false, c.requires.row.back_is, c.due-closing.ensures.value);
        },
        ap (λ (z : ℤ). Some z) value,
      );
    }
