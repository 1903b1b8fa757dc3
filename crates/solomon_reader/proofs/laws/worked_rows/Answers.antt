use Rattle.std.proofs.Common.{refl, arith, ◌≡◌, ◌≢◌, ℕ, ◌≤◌, List, [], ◌∷◌, ◌++◌, inl, inr, ap, length, length-append}
use Rattle.std.specs.Prelude.{pos}
use Rattle.std.proofs.lemmas.Int.{ints}
use Rattle.std.specs.Fmt.{digits}
use Rattle.solomon_reader.specs.Distance.{distance}
use Rattle.tenths.specs.Root.{root_of, root_below}
use Rattle.tenths.specs.Distance.{distance_of}
use Rattle.solomon_reader.specs.Plan.{Arc}
use Rattle.solomon_reader.specs.Region.{Among, IsAllowed, root_region, IsArc}
use Rattle.solomon_reader.specs.Relaxed.{IsNeighbour}
use Rattle.solomon_reader.specs.ArcOrder.{none_in_empty}
use Rattle.solomon_reader.specs.Bound.{IsRoundedUp}
use Rattle.solomon_reader.specs.Words.{words_from}
use Rattle.solomon_reader.specs.Rows.{revisits}
use Rattle.solomon_reader.proofs.laws.worked_rows.Goals as goal

rounded_row : IsRoundedUp (pos 99001) 100
rounded_row = record { covers = omega (arith, ints); least = λ w h. omega (arith, ints) }

open_arc_of_root : (n : ℕ) (a : Arc) → IsArc n a → IsAllowed (root_region n) a
open_arc_of_root n a h = record { arc = h; open_arc = none_in_empty a; leaves = λ _ b e _. absurd (none_in_empty b e); enters = λ _ b e _. absurd (none_in_empty b e) }

arc_of : (n i j : ℕ) → i ≤ n → j ≤ n → i ≢ j → IsAllowed (root_region n) (i, j)
arc_of n i j p q d = open_arc_of_root n (i, j) (record { from = p; to = q; apart = d })

-- the neighbour list of 1 holds 1 alone
forgets_two : ¬ IsNeighbour revisits 0 1 2
forgets_two (inl e) = omega arith
forgets_two (inr h) = omega arith

row_forgets : (front between back : List ℕ) (v : ℕ) → 2 ∷ 1 ∷ 2 ∷ [] ≡ front ++ (v ∷ (between ++ (v ∷ back)))
    → (w : ℕ) × Among w between × ¬ IsNeighbour revisits 0 w v
row_forgets [] [] back v e = let f : 2 ≡ v = cc in let g : 1 ≡ v = cc in absurd (omega arith)
row_forgets [] (w ∷ between) back v e =
    let f : v ≡ 2 = cc in let g : w ≡ 1 = cc in (w, inl refl, rw (f, g) forgets_two)
row_forgets (a ∷ []) [] back v e = let f : 1 ≡ v = cc in let g : 2 ≡ v = cc in absurd (omega arith)
row_forgets (a ∷ []) (w ∷ between) back v e = absurd (omega (arith, ap length e, length-append between (v ∷ back)))
row_forgets (a ∷ b ∷ front) between back v e =
    absurd (omega (arith, ap length e, length-append front (v ∷ (between ++ (v ∷ back))), length-append between (v ∷ back)))

pub returns : goal.returns
unfolding distance distance_of root_of root_below digits words_from
returns c = record {
  words_cut = refl;
  foreign_byte = refl;
  one = refl;
  truncated = refl;
  rounded_once = refl;
  detour = refl;
  both = refl;
  far_alone = refl;
  together = refl;
  apart = refl;
  ceiling = refl;
  back = record { times = 50 ∷ []; walks = (refl, omega arith, refl); closing = omega arith };
  cycle = refl;
  cycle_reduced = refl;
  rounded = rounded_row;
  cycle_relaxed = record {
    fitting = record {
      some = omega arith;
      known = ((omega arith, omega arith), ((omega arith, omega arith), ((omega arith, omega arith), tt)));
      load = omega arith;
      walk = (1200, record { times = 550 ∷ 600 ∷ 650 ∷ []; walks = (refl, omega arith, (refl, omega arith, (refl, omega arith, refl))); closing = omega arith });
    };
    allowed = (
      arc_of 2 0 2 (omega arith) (omega arith)
          (omega arith),
      (
        arc_of 2 2 1 (omega arith) (omega arith)
            (omega arith),
        (arc_of 2 1 2 (omega arith) (omega arith) (omega arith), (arc_of 2 2 0 (omega arith) (omega arith) (omega arith), tt)),
      ),
    );
    forgets = row_forgets;
  };
  solution = refl;
  certificate = refl;
}
