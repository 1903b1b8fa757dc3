-- The test of two instances decides whether they are the same.
use Rattle.std.proofs.Common.{◌≡◌, ℕ, Bool, true, false, ◌&&◌, List, refl, sym, ◌∙◌, arith}
use Rattle.std.specs.Prelude.{◌==◌}
use Rattle.std.specs.Bool.{Decides, one_answer}
use Rattle.std.specs.Cmp.{IsPartialEquivalence}
use Rattle.std.specs.Str.{bytes_eq}
use Rattle.std.specs.Cmp.Lexicographic.{pointwise}
use Rattle.std.proofs.lemmas.Bool.Decides.{nat_tests}
use Rattle.std.proofs.lemmas.Slice.Eq.{slice_eq-Decides, bytes_eq-Decides}
use Rattle.solomon_reader.specs.declared.row.Row.{Row}
use Rattle.solomon_reader.specs.Problem.{Problem}
use Rattle.solomon_reader.specs.Same.{same_row, same_problem}

both : (a b : Bool) → (a && b) ≡ true → (a ≡ true) × (b ≡ true)
both true b h = (refl, h)
both false b h = absurd cc

joined : (a b : Bool) → a ≡ true → b ≡ true → (a && b) ≡ true
joined a b p q = rw (p, q) refl

number : (a b : ℕ) → Decides (a == b) (a ≡ b)
number a b = (λ h. grind (arith, nat_tests), λ e. rw e (grind (arith, nat_tests)))

same_row-Decides : (a b : Row) → Decides (same_row a b) (a ≡ b)
same_row-Decides a b = (found, λ e. rw e (itself b))
  where
    found : same_row a b ≡ true → a ≡ b
    found h =
        let h5 = both _ (a.service == b.service) h in
        let h4 = both _ (a.due == b.due) h5.0 in
        let h3 = both _ (a.ready == b.ready) h4.0 in
        let h2 = both _ (a.demand == b.demand) h3.0 in
        let h1 = both (a.x == b.x) (a.y == b.y) h2.0 in
        λ i. record {
          x = (number a.x b.x).0 h1.0 i;
          y = (number a.y b.y).0 h1.1 i;
          demand = (number a.demand b.demand).0 h2.1 i;
          ready = (number a.ready b.ready).0 h3.1 i;
          due = (number a.due b.due).0 h4.1 i;
          service = (number a.service b.service).0 h5.1 i;
        }

    itself : (b : Row) → same_row b b ≡ true
    itself b =
        joined _ _ (joined _ _ (joined _ _ (joined _ _ (joined _ _ ((number b.x b.x).1 refl) ((number b.y b.y).1 refl)) ((number b.demand b.demand).1 refl)) ((number b.ready b.ready).1 refl))
        ((number b.due b.due).1 refl)) ((number b.service b.service).1 refl)

pub same_problem-Decides : (a b : Problem) → Decides (same_problem a b) (a ≡ b)
same_problem-Decides a b = (found, λ e. rw e (itself b))
  where
    rows : (xs ys : List Row) → Decides (pointwise same_row xs ys) (xs ≡ ys)
    rows xs ys = slice_eq-Decides same_row-Decides xs ys (pointwise same_row xs ys) refl

    found : same_problem a b ≡ true → a ≡ b
    found h =
        let h3 = both _ (pointwise same_row a.rows b.rows) h in
        let h2 = both _ (a.capacity == b.capacity) h3.0 in
        let h1 = both (bytes_eq a.name b.name) (a.fleet == b.fleet) h2.0 in
        λ i. record {
          name = (bytes_eq-Decides a.name b.name).0 h1.0 i;
          fleet = (number a.fleet b.fleet).0 h1.1 i;
          capacity = (number a.capacity b.capacity).0 h2.1 i;
          rows = (rows a.rows b.rows).0 h3.1 i;
        }

    itself : (b : Problem) → same_problem b b ≡ true
    itself b =
        joined _ _ (joined _ _ (joined _ _ ((bytes_eq-Decides b.name b.name).1 refl) ((number b.fleet b.fleet).1 refl)) ((number b.capacity b.capacity).1 refl)) ((rows b.rows b.rows).1 refl)

pub same_problem-laws : IsPartialEquivalence same_problem
same_problem-laws = record {
  symm = λ a b. one_answer {P = a ≡ b} _ _ (same_problem-Decides a b) (turned a b);
  trans = λ a b c p q. (same_problem-Decides a c).1 ((same_problem-Decides a b).0 p ∙ (same_problem-Decides b c).0 q);
}
  where
    turned : (a b : Problem) → Decides (same_problem b a) (a ≡ b)
    turned a b = (λ h. sym ((same_problem-Decides b a).0 h), λ e. (same_problem-Decides b a).1 (sym e))
