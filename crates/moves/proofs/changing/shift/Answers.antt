use Rattle.std.proofs.Common.{rules, arith, ◌≤◌, length}
use Rattle.solomon_reader.specs.Moves.{IsOrOpt}
use Rattle.moves.specs.Trees.{visits_of}
use Rattle.moves.proofs.Swaps.{shift_apart, places_apart}
use Rattle.moves.proofs.changing.shift.Goals as goal

pub returns : goal.returns
returns c =
    let routes = visits_of c.args.trees.now in
    let s = c.args.chain in
    let to = c.args.to in
    let ne = c.if-chain-to.false in
    let known : to.route ≤ length routes = omega arith in
    let w : IsOrOpt routes s.route s.position s.length to.route to.position = record {
      some = omega arith;
      few = omega arith;
      known = omega arith;
      chain = c.stands.ensures.0 (search rules);
      to = known;
      before = omega (arith, places_apart routes s.route s.position s.length to.route known ne);
    } in
    rw c.chain_at.ensures (w, shift_apart routes s.route s.position s.length to.route to.position w ne)
