-- A way may be taken apart at a row, and the quickest ways over one row more are made of those without it.
use Rattle.std.proofs.Common.{◌≡◌, refl, ℕ, ◌+◌, ◌<◌, ◌≤◌, List, [], ◌∷◌, ◌++◌, arith, append_assoc, inl, inr}
use Rattle.std.specs.Prelude.{min}
use Rattle.std.specs.List.{AllByRecursion}
use Rattle.std.proofs.lemmas.Bool.{cases_eq, cases_lt}
use Rattle.std.proofs.lemmas.List.{append-nil}
use Rattle.solomon_reader.specs.declared.limits.TheConstants.{MOST_DISTANCE}
use Rattle.solomon_reader.specs.Problem.{Problem, customer_count}
use Rattle.solomon_reader.specs.Distance.{distance}
use Rattle.solomon_reader.specs.AmongLaws.{weaker}
use Rattle.solomon_reader.specs.CustomerSets.{way_over, IsQuickest}
use Rattle.set_needs.specs.Quickest.{IsQuickestBelow}

way_append : (p : Problem) (xs : List ℕ) (k : ℕ) (ys : List ℕ) (i j : ℕ) → way_over p (xs ++ (k ∷ ys)) i j ≡ way_over p xs i k + way_over p ys k j
way_append p [] k ys i j = refl
way_append p (x ∷ xs) k ys i j = omega (arith, way_append p xs k ys x j)

joined : (P : ℕ → Type 0) (xs ys : List ℕ) → AllByRecursion P xs → AllByRecursion P ys → AllByRecursion P (xs ++ ys)
joined P [] ys a b = b
joined P (x ∷ xs) ys a b = (a.0, joined P xs ys a.1 b)

pub direct : (p : Problem) (i j : ℕ) → distance p i j ≤ MOST_DISTANCE → IsQuickestBelow p 0 i j (distance p i j)
direct p i j small = record { over = []; rows = tt; taken = refl; least = least; small = small }
  where
    least : (others : List ℕ) → AllByRecursion (λ k. k < 0) others → distance p i j ≤ way_over p others i j
    least [] all = omega arith
    least (k ∷ others) all = absurd (omega (arith, all.0))

module _ (p : Problem) (c : ℕ) where
  Below : List ℕ → Type 0
  Below xs = AllByRecursion (λ k. k < c) xs

  below_more : (xs : List ℕ) (k : ℕ) → Below xs → k < c → Below (xs ++ (k ∷ []))
  unfolding Below
  below_more xs k all here = joined (λ k. k < c) xs (k ∷ []) all (here, tt)

  -- from c on a way that comes back to c again and again is no quicker than one that doesn't
  from_there : (j b : ℕ) → IsQuickestBelow p c c j b → (front ys : List ℕ) → Below front → AllByRecursion (λ k. k < c + 1) ys → b ≤ way_over p (front ++ ys) c j
  unfolding Below
  from_there j b known front [] below all = rw (append-nil front) (known.least front below)
  from_there j b known front (y ∷ ys) below all =
      elim (cases_eq y c) [
        | inl e ↦ rw e (omega (arith, way_append p front c ys c j, from_there j b known [] ys tt all.1))
        | inr d ↦ let longer = from_there j b known (front ++ (y ∷ [])) ys (below_more front y below (omega (arith, all.0, d))) all.1 in rw append_assoc at longer
      ]

  -- a way over rows up to c is no quicker than the quickest without c, or than the quickest to c and on
  through_least : (i j m a b : ℕ) → IsQuickestBelow p c i j m → IsQuickestBelow p c i c a → IsQuickestBelow p c c j b
      → (front ys : List ℕ) → Below front → AllByRecursion (λ k. k < c + 1) ys → min m (a + b) ≤ way_over p (front ++ ys) i j
  unfolding Below
  through_least i j m a b known first onward front [] below all = rw (append-nil front) (omega (arith, known.least front below))
  through_least i j m a b known first onward front (y ∷ ys) below all =
      elim (cases_eq y c) [
        | inl e ↦ rw e (omega (arith, way_append p front c ys i j, first.least front below, from_there j b onward [] ys tt all.1))
        | inr d ↦ let longer = through_least i j m a b known first onward (front ++ (y ∷ [])) ys (below_more front y below (omega (arith, all.0, d))) all.1 in rw append_assoc at longer
      ]

  higher : (xs : List ℕ) → AllByRecursion (λ k. k < c) xs → AllByRecursion (λ k. k < c + 1) xs
  higher xs all = weaker (λ k. k < c) (λ k. k < c + 1) (λ k h. omega arith) xs all

  pub through : (i j m a b : ℕ) → IsQuickestBelow p c i j m → IsQuickestBelow p c i c a → IsQuickestBelow p c c j b → IsQuickestBelow p (c + 1) i j (min m (a + b))
  unfolding Below
  through i j m a b known first onward =
      elim (cases_lt (a + b) m) [
        | inl quicker ↦ record {
          over = first.over ++ (c ∷ onward.over);
          rows = joined (λ k. k < c + 1) first.over (c ∷ onward.over) (higher first.over first.rows) (omega arith, higher onward.over onward.rows);
          taken = omega (arith, quicker, way_append p first.over c onward.over i j, first.taken, onward.taken);
          least = λ others all. through_least i j m a b known first onward [] others tt all;
          small = omega (arith, known.small);
        }
        | inr stays ↦ record {
          over = known.over;
          rows = higher known.over known.rows;
          taken = omega (arith, stays, known.taken);
          least = λ others all. through_least i j m a b known first onward [] others tt all;
          small = omega (arith, known.small);
        }
      ]

-- over all rows
pub quickest : (p : Problem) (n i j m : ℕ) → n ≡ customer_count p + 1 → IsQuickestBelow p n i j m → IsQuickest p i j m
quickest p n i j m rows h = record {
  over = h.over;
  rows = weaker (λ k. k < n) (λ k. k ≤ customer_count p) (λ k b. omega (arith, b, rows)) h.over h.rows;
  taken = h.taken;
  least = λ others all. h.least others (weaker (λ k. k ≤ customer_count p) (λ k. k < n) (λ k b. omega (arith, b, rows)) others all);
}
