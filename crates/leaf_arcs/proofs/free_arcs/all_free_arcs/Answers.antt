use Rattle.std.proofs.Common.{ℕ, Vec}
use Rattle.std.specs.declared.alloc.Global.{Global}
use Rattle.leaf_arcs.specs.declared.arcs.AllowedArc.{AllowedArc}
use Rattle.leaf_arcs.specs.Arcs.{AreAllowedArcs, free_pricing}
use Rattle.leaf_arcs.proofs.Flooring.{each_more}
use Rattle.leaf_arcs.proofs.free_arcs.all_free_arcs.Goals as goal

pub loop-v-preserved : goal.loop-v-preserved
loop-v-preserved c =
    rw c.in_ok-push.ensures.items (each_more (λ (v : ℕ) (arcs : Vec AllowedArc Global). AreAllowedArcs
    (free_pricing c.args.neighbours.now.instance.now c.args.neighbours.now.k) v arcs.items) c.loop-v.v c.loop-v.all.items
    c.in_ok-free_arcs.field-0 c.loop-v.invariant c.in_ok-free_arcs.ensures)
