-- The latest time at which a row may be left for the depot, and for a customer and others.
use Rattle.std.proofs.Common.{◌≡◌, refl, ℕ, ◌+◌, ◌<◌, ◌≤◌, List, [], ◌∷◌, arith, sym, subst}
use Rattle.std.specs.Prelude.{◌-◌, min, Option, Some, None}
use Rattle.std.specs.Option.{SomeIff}
use Rattle.std.specs.List.Sorted.{IsPermutation}
use Rattle.std.proofs.lemmas.List.Sorted.{IsPermutation-refl, length_permutation}
use Rattle.solomon_reader.specs.Problem.{Problem, ready, due, service}
use Rattle.solomon_reader.specs.CustomerSets.{way_over, IsQuickest, begins_at}
use Rattle.set_needs.specs.Latest.{IsBy, CanServeAll, IsLatest, CanServeFirst, IsLatestFirst}

-- a list that nothing can be taken from
only_empty : (order : List ℕ) → IsPermutation [] order → order ≡ []
only_empty [] h = refl
only_empty (x ∷ order) h = absurd (omega (arith, length_permutation [] (x ∷ order) h))

module _ (p : Problem) (i m : ℕ) (way : IsQuickest p i 0 m) where
  home : (t : ℕ) → CanServeAll p i t [] → t + m ≤ due p 0
  home t served = (let can = rw (only_empty served.order served.all) at served.can in omega (arith, can.2, way.least can.0 can.1))

  pub latest_home : (latest : Option ℕ) → SomeIff latest (m ≤ due p 0) (due p 0 - m) → IsLatest p i [] latest
  latest_home None late = record { early = λ t h. absurd h; only = λ t served. absurd (late (omega (arith, home t served))) }
  latest_home (Some time) is = record {
    early = λ t h. record { order = []; all = IsPermutation-refl []; can = (way.over, way.rows, omega (arith, h, is.0, is.1, way.taken)) };
    only = λ t served. omega (arith, is.0, is.1, home t served);
  }

module _ (p : Problem) (i j : ℕ) (s : List ℕ) (left : Option ℕ) (latest : IsLatest p j s left) where
  -- when service at j begins, for a vehicle that serves it first
  begun : (t : ℕ) → CanServeFirst p i t j s → ℕ
  begun t served = begins_at p (t + way_over p served.can.0 i j) j

  begun_after : (m : ℕ) (way : IsQuickest p i j m) (t : ℕ) (served : CanServeFirst p i t j s) → t + m ≤ begun t served
  unfolding begun
  begun_after m way t served = omega (arith, way.least served.can.0 served.can.1)

  begun_open : (t : ℕ) (served : CanServeFirst p i t j s) → ready p j ≤ begun t served
  unfolding begun
  begun_open t served = omega arith

  begun_due : (t : ℕ) (served : CanServeFirst p i t j s) → begun t served ≤ due p j
  unfolding begun
  begun_due t served = served.can.2.0

  begun_left : (t : ℕ) (served : CanServeFirst p i t j s) → IsBy left (begun t served + service p j)
  unfolding begun
  begun_left t served = latest.only (begun t served + service p j) (record { order = served.order; all = served.all; can = served.can.2.1 })

  none_first : ((t : ℕ) → ¬ CanServeFirst p i t j s) → IsLatestFirst p i j s None
  none_first never = record { early = λ t h. absurd h; only = λ t served. absurd (never t served) }

  pub left_never : left ≡ None → IsLatestFirst p i j s None
  left_never is = none_first (λ t served. subst (λ o. IsBy o (begun t served + service p j)) is (begun_left t served))

  module _ (until : ℕ) (is : left ≡ Some until) where
    by_until : (t : ℕ) (served : CanServeFirst p i t j s) → begun t served + service p j ≤ until
    by_until t served = subst (λ o. IsBy o (begun t served + service p j)) is (begun_left t served)

    pub served_never : ¬ (service p j ≤ until) → IsLatestFirst p i j s None
    served_never late = none_first (λ t served. late (omega (arith, by_until t served)))

    module _ (latest_begun : ℕ) (begun_is : latest_begun ≡ min (until - service p j) (due p j)) (in_time : service p j ≤ until) where
      pub begun_never : latest_begun < ready p j → IsLatestFirst p i j s None
      begun_never late = none_first (λ t served. omega (arith, late, begun_is, begun_open t served, begun_due t served, by_until t served))

      pub latest_first : (m : ℕ) (way : IsQuickest p i j m) → ready p j ≤ latest_begun → (time : Option ℕ) → SomeIff time (m ≤ latest_begun) (latest_begun - m) → IsLatestFirst p i j s time
      latest_first m way opened None late =
          none_first (λ t served. late (omega (arith, begun_is, begun_after m way t served, begun_due t served, by_until t served)))
      latest_first m way opened (Some time) time_is = record {
        early = λ t h. (let b = begins_at p (t + way_over p way.over i j) j in
            let within : b ≤ latest_begun = omega (arith, h, way.taken, opened, time_is.0, time_is.1) in
            let rest = latest.early (b + service p j) (subst (λ o. IsBy o (b + service p j)) (sym is) (omega (arith, within, begun_is, in_time))) in
            record { order = rest.order; all = rest.all; can = (way.over, way.rows, (omega (arith, within, begun_is), rest.can)) });
        only = λ t served. omega (arith, begun_is, time_is.0, time_is.1, begun_after m way t served, begun_due t served, by_until t served);
      }
