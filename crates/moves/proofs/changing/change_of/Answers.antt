use Rattle.std.proofs.Common.{rules, [], length}
use Rattle.moves.specs.Trees.{visits_of}
use Rattle.moves.specs.Changes.{swapped, swapped_within}
use Rattle.moves.specs.Values.{after}
use Rattle.moves.proofs.Swaps.{apart_rebuilds, within_rebuilds}
use Rattle.moves.proofs.ExactValues.{change_to}
use Rattle.moves.proofs.changing.change_of.Goals as goal

pub returns-then-first-second : goal.returns-then-first-second
returns-then-first-second c =
    let routes = visits_of c.args.trees.now in
    let new = after routes c.args.candidate.now in
    let s = c.in_ok-swap.swap.first in
    let t = c.in_ok-swap.swap.second in
    let w = c.in_ok-swap.ensures in
    let same = c.if-first-second.true in
    (w.0, change_to routes s.route (swapped_within routes s t) (length routes) [] new _ c.with_chains.ensures (search rules) (within_rebuilds routes s t new w.1 same) (w.1.within same))

pub returns : goal.returns
returns c =
    let routes = visits_of c.args.trees.now in
    let new = after routes c.args.candidate.now in
    let s = c.in_ok-swap.swap.first in
    let t = c.in_ok-swap.swap.second in
    let w = c.in_ok-swap.ensures in
    let ne = c.if-first-second.false in
    (w.0, change_to routes s.route (swapped routes s t) t.route (swapped routes t s) new _ c.with_chain.ensures c.with_chain-2.ensures (apart_rebuilds routes s t new w.1 ne) (w.1.apart ne))
