use Rattle.std.proofs.Common.{arith}
use mir.Syntax.{w64}
use mir.Val.{to_z, of_z}
use Rattle.std.proofs.lemmas.Int.{ints}
use Rattle.leaf_arcs.proofs.Flooring.{step_late, step_heavy, step_lower, joined_none}
use Rattle.leaf_arcs.proofs.floor.join_step.Goals as goal

pub returns-then-begins-arc-clause-joined : goal.returns-then-begins-arc-clause-joined
returns-then-begins-arc-clause-joined c =
    joined_none _ _ _ _ _ c.args.floor.now (λ h. step_late _ c.args.floor.now.row c.args.floor.now.from c.args.floor.now.loaded c.args.arc.now c.requires.arc h (omega arith))

pub returns-then-load-from-clause-joined : goal.returns-then-load-from-clause-joined
returns-then-load-from-clause-joined c =
    joined_none _ _ _ _ _ c.args.floor.now (λ h. step_heavy _ c.args.floor.now.row c.args.floor.now.from c.args.floor.now.loaded c.args.arc.now c.requires.arc h (omega arith))

pub returns-clause-joined : goal.returns-clause-joined
returns-clause-joined c = (
  to_z w64 (of_z w64 c.in_ok-value.value),
  (step_lower _ c.args.floor.now.row c.args.floor.now.from c.args.floor.now.loaded c.args.arc.now.to c.in_ok-value.value _ (omega (arith, ints)) c.in_ok-value.ensures, c.join.ensures.joined),
)
