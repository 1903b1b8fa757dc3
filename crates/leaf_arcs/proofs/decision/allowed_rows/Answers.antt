use Rattle.std.proofs.Common.{◌≡◌, length, drop, arith}
use Rattle.std.proofs.Math.Seq.{take-append_seam}
use Rattle.leaf_arcs.proofs.Deciding.{allowed_more, allowed_all}
use Rattle.leaf_arcs.proofs.decision.allowed_rows.Goals as goal

pub loop-decision-preserved : goal.loop-decision-preserved
loop-decision-preserved c = allowed_more _ _ _ _ _ _ c.loop-decision.invariant c.restrict.ensures

pub returns : goal.returns
returns c =
    let whole : c.in_ok-allowed.allowed.len ≡ length c.loop-decision.marks = omega arith in
    rw (whole, take-append_seam c.loop-decision.marks (drop (length c.loop-decision.marks) c.in_ok-allowed.allowed.items))
    (allowed_all c.args.count c.args.path.now c.args.i c.loop-decision.decision-index c.loop-decision.marks c.requires (omega arith) (omega arith) c.loop-decision.invariant)
