use Rattle.std.proofs.Common.{ℕ, Vec}
use Rattle.std.specs.declared.alloc.Global.{Global}
use Rattle.leaf_arcs.specs.declared.arcs.AllowedArc.{AllowedArc}
use Rattle.leaf_arcs.specs.Arcs.{AreAllowedArcs, free_pricing}
use Rattle.leaf_arcs.proofs.Flooring.{Each}
use Rattle.leaf_arcs.proofs.free_arcs.all_free_arcs.Given as goal

abbrev pub invariant-loop-v : goal.invariant-loop-v
invariant-loop-v l = Each (λ (v : ℕ) (arcs : Vec AllowedArc Global). AreAllowedArcs (free_pricing l.neighbours.instance.now l.neighbours.k) v arcs.items) l.v l.all.items
