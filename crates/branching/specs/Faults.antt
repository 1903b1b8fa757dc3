-- Why a region has no child by an arc.
use Rattle.std.specs.Prelude.{◌⊎◌}
use Rattle.solomon_reader.specs.Plan.{Arc as Pair}
use Rattle.solomon_reader.specs.Region.{Region, Holds, IsArc, IsUndecided}
use Rattle.branching.specs.declared.fault.RegionFault.{RegionFault}
use Rattle.branching.specs.declared.fault.RegionFault.TheVariants.{Memory, BadArc, Decided}

-- no arc of the region's numbers comes first, then one that is decided; else only want of memory refuses
abbrev pub IsFaultOf : Region → Pair → RegionFault → Type 0
IsFaultOf g a Memory = IsUndecided g a
IsFaultOf g a BadArc = ¬ IsArc g.size a
IsFaultOf g a Decided = IsArc g.size a × (Holds g.required a ⊎ Holds g.forbidden a)
