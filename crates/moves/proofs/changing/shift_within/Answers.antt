use Rattle.std.proofs.Common.{◌≤◌, ◌<◌, ◌+◌, ℕ, List, length, arith}
use Rattle.solomon_reader.specs.Moves.{route, IsOrOpt}
use Rattle.moves.specs.Trees.{visits_of}
use Rattle.moves.proofs.Swaps.{shift_on, shift_back, places_within}
use Rattle.moves.proofs.changing.shift_within.Goals as goal

formed : (routes : List (List ℕ)) (a i l j : ℕ) → 1 ≤ l → l ≤ 3 → a < length routes → i + l ≤ length (route routes a) → j + l ≤ length (route routes a) → IsOrOpt routes a i l a j
formed routes a i l j some few known chain fits =
    let before = places_within routes a i l known chain in
    record { some = some; few = few; known = known; chain = chain; to = omega (arith, known); before = omega (arith, fits, before) }

pub returns-then-position-chain : goal.returns-then-position-chain
returns-then-position-chain c =
    let routes = visits_of c.args.trees.now in
    let s = c.args.chain in
    let w = formed routes s.route s.position s.length c.args.position c.requires.some c.requires.few c.requires.known c.requires.chain (omega (arith, c.requires.chain)) in
    rw c.chain_at-first.ensures (w, shift_back routes s.route s.position s.length c.args.position w (omega arith))

pub returns : goal.returns
returns c =
    let routes = visits_of c.args.trees.now in
    let s = c.args.chain in
    let w = formed routes s.route s.position s.length c.args.position c.requires.some c.requires.few c.requires.known c.requires.chain (omega (arith, c.requires.chain)) in
    rw c.chain_at-second.ensures (w, shift_on routes s.route s.position s.length c.args.position w (omega arith))
