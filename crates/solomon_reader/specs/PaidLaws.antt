-- Where steps are paid the prices of the customers that they lead to.
use Rattle.std.proofs.Common.{◌≡◌, refl, ℕ, List, [], ◌∷◌, arith}
use Rattle.std.specs.Prelude.{ℤ}
use Rattle.std.proofs.lemmas.Int.{ints}
use Rattle.solomon_reader.specs.Problem.{Problem}
use Rattle.solomon_reader.specs.Region.{Region}
use Rattle.solomon_reader.specs.Relaxed.{int_sum_by, price_of, by_customer, paid_from, reduced_cost, reduced_cost_by, IsLeast}
use Rattle.solomon_reader.specs.PricedLeaf.{charged_cost_by, IsLeastBy}

-- the stops are paid their prices
pub paid_prices : (prices : List ℤ) (i : ℕ) (r : List ℕ) → paid_from (by_customer prices) i r ≡ int_sum_by (price_of prices) r
unfolding by_customer
paid_prices prices i [] = refl
paid_prices prices i (j ∷ r) = omega (arith, ints, paid_prices prices j r)

pub reduced_by_customer : (p : Problem) (prices : List ℤ) (r : List ℕ) → reduced_cost_by p (by_customer prices) r ≡ reduced_cost p prices r
reduced_by_customer p prices r = omega (arith, ints, paid_prices prices 0 r)

-- a route is charged nothing by no rows
pub charged_none : (p : Problem) (k : ℕ) (paid : ℕ → ℕ → ℤ) (r : List ℕ) → charged_cost_by p k paid [] r ≡ reduced_cost_by p paid r
charged_none p k paid r = omega (arith, ints)

pub least_by_customer : (p : Problem) (g : Region) (k : ℕ) (prices : List ℤ) (m : ℤ) → IsLeastBy p g k (by_customer prices) [] m → IsLeast p g k prices m
least_by_customer p g k prices m is = record {
  reached = (is.reached.0, is.reached.1, omega (arith, ints, is.reached.2, reduced_by_customer p prices is.reached.0, charged_none p k (by_customer prices) is.reached.0));
  least = λ r h. omega (arith, ints, is.least r h, reduced_by_customer p prices r, charged_none p k (by_customer prices) r);
}
