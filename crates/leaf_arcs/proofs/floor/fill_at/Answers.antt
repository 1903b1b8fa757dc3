use Rattle.std.proofs.lemmas.List.Elements.{All-set}
use Rattle.leaf_arcs.specs.Floors.{IsKnown}
use Rattle.leaf_arcs.specs.Leaves.{pricing_of}
use Rattle.leaf_arcs.proofs.Flooring.{known}
use Rattle.leaf_arcs.proofs.floor.fill_at.Goals as goal

pub returns : goal.returns
returns c =
    let leaf = c.args.leaf.now in
    All-set (IsKnown (pricing_of leaf)) c.args.floors.now c.place-place.result c.floor_from-floor.result
    (known _ c.floor_from-floor.result c.floor_from-floor.ensures) c.requires.floors
