use Rattle.std.proofs.Common.{◌+◌, arith}
use Rattle.solomon_reader.proofs.Completions.{good_same}
use Rattle.tree_bound.proofs.Covering.{dear_good}
use Rattle.std.proofs.lemmas.Bool.{both_ways}
use Rattle.tree_bound.proofs.Working.{step_yes, step_no, step_dear}
use Rattle.tree_bound.proofs.steps.take_step.Goals as goal
use Rattle.tree_bound.proofs.steps.take_step.Goals.{then-not-can_extend-via-then-not-can_extend, then-not-can_extend-via-else-not-can_extend+then-is_dear_step}

pub returns-then-not-can_extend : goal.returns-then-not-can_extend
returns-then-not-can_extend c = elim c.then-not-can_extend.branch [
  | then-not-can_extend-via-then-not-can_extend w ↦ step_no _ _ _ c.args.load c.args.label.now c.args.arc.now.to c.requires.table
      (λ can. both_ways _ w.if-not-can_extend.true (c.can_extend.ensures.1 can))
  | then-not-can_extend-via-else-not-can_extend+then-is_dear_step w ↦ step_dear _ _ _ c.args.load c.args.label.now c.args.arc.now.to c.requires.table
      (w.is_dear_step.ensures w.if-is_dear_step.true)
]

pub returns : goal.returns
returns c = step_yes _ _ _ _ c.args.load c.args.label.now (c.args.load + c.args.arc.now.demand) c.args.arc.now.to c.extend-longer.result
    (omega (arith, c.requires.arc.carried)) (rw c.from.ensures at c.in_ok-keep.ensures)
    c.requires.table c.requires.label c.requires.arc.customer c.requires.allowed (c.can_extend.ensures.0 c.if-not-can_extend.false) c.extend-longer.ensures

pub returns-then-is_dear : goal.returns-then-is_dear
returns-then-is_dear c = step_dear _ _ _ c.args.load c.args.label.now c.args.arc.now.to c.requires.table
    (dear_good _ _ _ _ (good_same _ _ _ c.extend-longer.ensures.same) (rw c.from.ensures at (c.is_dear.ensures c.if-is_dear.true)))
