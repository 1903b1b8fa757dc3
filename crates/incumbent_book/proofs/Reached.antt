-- A bound that a book has reached stays reached, and is at most the book's bound.
use Rattle.std.proofs.Common.{◌≡◌, ℕ, ◌≤◌, ◌+◌, ◌∷◌, sym, subst, arith, inl, inr}
use Rattle.solomon_reader.specs.Problem.{customer_count}
use Rattle.solomon_reader.specs.Bound.{ceiling_of}
use Rattle.solomon_reader.specs.History.{Event, value_of, IsBound, IsLeaf, IsLegal}
use Rattle.incumbent_book.specs.Contents.{Contents, IsBook}
use Rattle.incumbent_book.specs.Reaching.{IsReached}
use Rattle.incumbent_book.proofs.Histories.{low_before}

-- each book has reached a bound of zero
pub nothing_reached : (b : Contents) → IsReached 0 b
nothing_reached b = record { ceiling = omega arith; leaves = λ m leaf. omega arith }

-- a bound that was reached is at most the least of all
pub reached_below : (bound : ℕ) (b : Contents) → IsReached bound b → (c : ℕ) → IsBound b.problem b.root b.past c → bound ≤ c
reached_below bound b is c least = elim least.reached [
  | inl e ↦ omega (arith, is.ceiling, e)
  | inr r ↦ omega (arith, is.leaves r.0 r.1, r.2)
]

-- an event more lowers no leaf below a bound
pub still_reached : (bound : ℕ) (b new : Contents) (event : Event) → IsReached bound b → IsBook new → new.past ≡ event ∷ b.past → new.problem ≡ b.problem → new.root ≡ b.root
    → IsReached bound new
still_reached bound b new event is book longer problem root =
    let told : IsLegal (customer_count new.problem) new.root (event ∷ b.past) = subst (λ past. IsLegal (customer_count new.problem) new.root past) longer book.legal in
    let ours : IsLegal (customer_count b.problem) new.root (event ∷ b.past) = subst (λ q. IsLegal (customer_count q) new.root (event ∷ b.past)) problem told in
    let legal : IsLegal (customer_count b.problem) b.root (event ∷ b.past) = subst (λ v. IsLegal (customer_count b.problem) v (event ∷ b.past)) root ours in
    let low : (m : ℕ) → IsLeaf (event ∷ b.past) m → bound ≤ value_of b.root (event ∷ b.past) m = low_before (customer_count b.problem) b.root b.past bound event legal is.leaves in
    let same : (m : ℕ) → IsLeaf (event ∷ b.past) m → bound ≤ value_of new.root (event ∷ b.past) m =
    subst (λ v. (m : ℕ) → IsLeaf (event ∷ b.past) m → bound ≤ value_of v (event ∷ b.past) m) (sym root) low in
    record {
      ceiling = subst (λ q. bound ≤ ceiling_of q + 1) (sym problem) is.ceiling;
      leaves = subst (λ past. (m : ℕ) → IsLeaf past m → bound ≤ value_of new.root past m) (sym longer) same;
    }
