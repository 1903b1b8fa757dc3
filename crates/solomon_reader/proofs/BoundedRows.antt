-- What the limits say of a row, by its number.
use Rattle.std.proofs.Common.{◌≡◌, ℕ, zero, suc, ◌-◌, ◌≤◌, ◌<◌, List, [], ◌∷◌, length, get_or, arith, refl, ap, ◌∙◌}
use Rattle.std.specs.List.{AllByRecursion}
use Rattle.tenths.specs.Distance.{point_at, distance_of}
use Rattle.tenths.proofs.Roots.{distance_of-le}
use Rattle.solomon_reader.specs.declared.limits.TheConstants.{MOST_DEMAND, MOST_DISTANCE}
use Rattle.solomon_reader.specs.Distance.{point_of, points, distance}
use Rattle.solomon_reader.specs.declared.row.Row.{Row}
use Rattle.solomon_reader.specs.Problem.{Problem, row, IsCustomer}
use Rattle.solomon_reader.specs.Layout.{IsRow, IsCustomerRow, AreRows, IsWithinLimits}

abbrev pub blank : Row
blank = record { x = 0; y = 0; demand = 0; ready = 0; due = 0; service = 0 }

abbrev pub IsBounded : Row → Type 0
IsBounded r = IsRow r × (r.demand ≤ MOST_DEMAND)

blank_bounded : IsBounded blank
blank_bounded = (record { x = omega arith; y = omega arith; ready = omega arith; due = omega arith; window = omega arith; service = omega arith }, omega arith)

customers_bounded : (rs : List Row) (i : ℕ) → AllByRecursion IsCustomerRow rs → IsBounded (get_or rs i blank)
customers_bounded [] i all = blank_bounded
customers_bounded (r ∷ rs) zero all = (all.0.0, all.0.2)
customers_bounded (r ∷ rs) (suc i) all = customers_bounded rs i all.1

rows_bounded : (rs : List Row) (i : ℕ) → AreRows rs → IsBounded (get_or rs i blank)
rows_bounded [] i all = blank_bounded
rows_bounded (r ∷ rs) zero all = (all.0.0, omega (arith, all.0.1))
rows_bounded (r ∷ rs) (suc i) all = customers_bounded rs i all.3

pub row_bounded : (p : Problem) (i : ℕ) → IsWithinLimits p → IsBounded (row p i)
row_bounded p i limits = rows_bounded p.rows i limits.rows

customers_at : (rs : List Row) (i : ℕ) → AllByRecursion IsCustomerRow rs → i < length rs → IsCustomerRow (get_or rs i blank)
customers_at [] i all h = absurd (omega arith)
customers_at (r ∷ rs) zero all h = all.0
customers_at (r ∷ rs) (suc i) all h = customers_at rs i all.1 (omega arith)

rows_at : (rs : List Row) (i : ℕ) → AreRows rs → 1 ≤ i → i ≤ length rs - 1 → IsCustomerRow (get_or rs i blank)
rows_at [] i all low high = absurd all
rows_at (r ∷ rs) zero all low high = absurd (omega arith)
rows_at (r ∷ rs) (suc i) all low high = customers_at rs i all.3 (omega arith)

pub customer_row : (p : Problem) (i : ℕ) → IsWithinLimits p → IsCustomer p i → IsCustomerRow (row p i)
customer_row p i limits h = rows_at p.rows i limits.rows h.0 h.1

point_is : (rs : List Row) (i : ℕ) → point_at (points rs) i ≡ point_of (get_or rs i blank)
point_is [] i = refl
point_is (r ∷ rs) zero = refl
point_is (r ∷ rs) (suc i) = point_is rs i

-- the distance of two rows is that of their points
pub distance-rows : (p : Problem) (i j : ℕ) → distance p i j ≡ distance_of (point_of (row p i)) (point_of (row p j))
unfolding distance
distance-rows p i j = ap (λ a. distance_of a (point_at (points p.rows) j)) (point_is p.rows i) ∙ ap (λ b. distance_of (point_of (row p i)) b) (point_is p.rows j)

pub distance-le : (p : Problem) (i j : ℕ) → IsWithinLimits p → distance p i j ≤ MOST_DISTANCE
distance-le p i j limits =
    let a = row_bounded p i limits in
    let b = row_bounded p j limits in
    rw (distance-rows p i j) (distance_of-le (point_of (row p i)) (point_of (row p j)) a.0.x a.0.y b.0.x b.0.y)
