-- The routes of a plan carry all demands, so that there are at least as many as the demands need.
use Rattle.std.proofs.Common.{◌≡◌, ℕ, zero, suc, ◌+◌, ◌*◌, ◌<◌, ◌≤◌, List, [], ◌∷◌, length, arith}
use Rattle.std.specs.Int.{div_ceil}
use Rattle.std.specs.List.{sum_by, flat_map, AllByRecursion}
use Rattle.std.proofs.Math.Nat.{lt_of_mul-lt-mul_right}
use Rattle.std.proofs.lemmas.Grind.{div_ceil_times}
use Rattle.std.proofs.lemmas.List.Sums.{sum_by-append}
use Rattle.std.proofs.lemmas.List.Sorted.{sum_by-IsPermutation}
use Rattle.solomon_reader.specs.Problem.{Problem, customers, demand}
use Rattle.solomon_reader.specs.Plan.{IsPlan, IsFitting}
use Rattle.solomon_reader.specs.Bound.{Version, version_1, version_2, with_sets, with_rows, routes_counted, fewest_routes}

loads_le : (p : Problem) (routes : List (List ℕ)) → AllByRecursion (IsFitting p) routes → sum_by (demand p) (flat_map (λ r. r) routes) ≤ length routes * p.capacity
loads_le p [] fits = omega arith
loads_le p (r ∷ routes) fits = rw (sum_by-append (demand p) r (flat_map (λ q. q) routes)) (omega (arith, fits.0.load, loads_le p routes fits.1))

pub quotient-le : (total count capacity : ℕ) → total ≤ count * capacity → div_ceil total capacity ≤ count
quotient-le total count zero h = let none : total ≡ 0 = omega arith in rw none (omega arith)
quotient-le total count (suc c) h =
    let near = div_ceil_times total (suc c) (omega arith) in
    let below : div_ceil total (suc c) * suc c < (count + 1) * suc c = omega (arith, near.1) in
    omega (arith, lt_of_mul-lt-mul_right (suc c) below)

fewest-le : (p : Problem) (routes : List (List ℕ)) → IsPlan p routes → fewest_routes p ≤ length routes
fewest-le p routes plan =
    let same : sum_by (demand p) (flat_map (λ r. r) routes) ≡ sum_by (demand p) (customers p) = sum_by-IsPermutation (demand p) (customers p) (flat_map (λ r. r) routes) plan.each_once in
    quotient-le (sum_by (demand p) (customers p)) (length routes) p.capacity (omega (arith, same, loads_le p routes plan.fitting))

pub counted-le : (version : Version) (p : Problem) (routes : List (List ℕ)) → IsPlan p routes → routes_counted version p ≤ length routes
counted-le version_1 p routes plan = omega arith
counted-le version_2 p routes plan = fewest-le p routes plan
counted-le (with_sets sets) p routes plan = fewest-le p routes plan
counted-le (with_rows sets rows) p routes plan = fewest-le p routes plan
