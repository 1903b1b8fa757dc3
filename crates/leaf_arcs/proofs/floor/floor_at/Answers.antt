use Rattle.std.proofs.Common.{None, arith}
use Rattle.leaf_arcs.proofs.Flooring.{floor_later}
use Rattle.leaf_arcs.proofs.floor.floor_at.Goals as goal

pub returns : goal.returns
returns c = floor_later _ c.in_ok-found.found.row c.in_ok-found.found.from c.in_ok-found.found.loaded c.args.v c.args.time c.args.load
    c.in_ok-found.found c.if-found-v.false (omega (arith, c.if-from-time.false)) (omega (arith, c.if-from-load.false))
    ((c.requires c.args.place None c.if-place-floors.false).holds c.in_ok-found.found c.in_ok-found.was)
