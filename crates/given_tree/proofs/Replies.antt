-- What replies of a book say of the tree.
use Rattle.std.proofs.Common.{◌≡◌, refl, ℕ, ◌≤◌, ap, length, ◌∷◌, ◌∙◌, arith}
use Rattle.std.specs.Prelude.{Result, Ok, Err, OnOk}
use Rattle.solomon_reader.specs.Problem.{Problem, customer_count}
use Rattle.solomon_reader.specs.Plan.{Arc}
use Rattle.solomon_reader.specs.Region.{Region, IsUndecided, used_child, unused_child}
use Rattle.solomon_reader.specs.History.{repriced, was_split, split_count, used_number, unused_number, value_of, IsLegal, IsLeaf}
use Rattle.solomon_reader.specs.Bound.{Version, listed_sets, listed_rows, leaf_at, LeafPrices, IsValueAt}
use Rattle.solomon_reader.specs.CertificateText.{AreSetPrices, AreRowPrices}
use Rattle.prices.specs.ValuedPrices.{ValuedPrices, IsPricedBy}
use Rattle.incumbent_book.specs.Contents.{Contents, IsBook, pricing_at}
use Rattle.incumbent_book.specs.Faults.{AreChildren, region_at}
use Rattle.incumbent_book.specs.Replies.{Splits, Reprices}
use Rattle.prices.specs.Narrowing.{IsPricedAt}
use Rattle.given_tree.specs.Growing.{Keeps, IsGrownAt, IsRaisedTo, IsSplitAt}
use Rattle.given_tree.proofs.Events.{split_is, grown_by_prices, still_leaf, raised_by_prices, keeps_itself, raised_itself}
use Rattle.given_tree.proofs.Grown.{lower}
use Rattle.given_tree.proofs.Valuing.{text_low}

pub keeps_same : (old new : Contents) → new ≡ old → Keeps old new
keeps_same old new e = rw e (keeps_itself old)

module _ (old new : Contents) (number worker : ℕ) (a : Arc) (x y : ValuedPrices) (i j : ℕ) (splits : Splits old worker number a x y (Ok (i, j)) new) where
  pub split_keeps : Keeps old new
  split_keeps =
      let e = splits.3.2.2 in record {
        problem = ap (λ (b : Contents). b.problem) e;
        neighbours = ap (λ (b : Contents). b.neighbours) e;
        root = ap (λ (b : Contents). b.root) e;
        limits = ap (λ (b : Contents). b.limits) e;
        most_sets = ap (λ (b : Contents). b.most_sets) e;
        most_rows = ap (λ (b : Contents). b.most_rows) e;
        incumbent = ap (λ (b : Contents). b.incumbent) e;
        costs = rw e refl;
      }

  pub split_done : IsBook new → IsSplitAt old new number a i j
  split_done book =
      let past : new.past ≡ was_split worker number a (used_number (split_count old.past)) (unused_number (split_count old.past)) x.value y.value ∷ old.past =
      ap (λ (b : Contents). b.past) splits.3.2.2 in
      let legal : IsLegal (customer_count old.problem) old.root (was_split worker number a (used_number (split_count old.past)) (unused_number (split_count old.past)) x.value y.value ∷ old.past) =
      rw (split_keeps.problem, split_keeps.root, past) at book.legal in
      let i_is = splits.1 in
      let j_is = splits.2 in
      split_is old new number worker a i j x.value y.value legal.1 legal.0.leaf split_keeps i_is j_is (rw (i_is, j_is) past)

module _ (old new : Contents) (number worker : ℕ) (f : ValuedPrices) (done : Unit {0}) (reprices : Reprices old worker number f (Ok done) new) where
  pub prices_keep : Keeps old new
  prices_keep =
      let e = reprices.1.2.2 in record {
        problem = ap (λ (b : Contents). b.problem) e;
        neighbours = ap (λ (b : Contents). b.neighbours) e;
        root = ap (λ (b : Contents). b.root) e;
        limits = ap (λ (b : Contents). b.limits) e;
        most_sets = ap (λ (b : Contents). b.most_sets) e;
        most_rows = ap (λ (b : Contents). b.most_rows) e;
        incumbent = ap (λ (b : Contents). b.incumbent) e;
        costs = rw e refl;
      }

  past_is : new.past ≡ repriced worker number f.value ∷ old.past
  past_is = ap (λ (b : Contents). b.past) reprices.1.2.2

  pub prices_grown : IsLeaf old.past number → IsGrownAt old new number
  prices_grown leaf = grown_by_prices old new number worker f.value leaf prices_keep past_is

  pub prices_still : IsLeaf old.past number → IsLeaf new.past number
  prices_still leaf = still_leaf old new number worker f.value leaf prices_keep past_is

  pub prices_raised : IsLeaf old.past number → IsRaisedTo old new number f.value
  prices_raised leaf = raised_by_prices old new number worker f.value leaf prices_keep past_is

-- the value of a leaf of a tree is at most that of its prices in a book
pub priced_low : (version : Version) (p : Problem) (g : Region) (k : ℕ) (prices : LeafPrices) (f : ValuedPrices) (v : ℕ) → AreSetPrices (length (listed_sets version)) prices
    → AreRowPrices (length (listed_rows version)) prices.rows → IsPricedBy p g k (leaf_at (listed_sets version) (listed_rows version) prices) f → IsValueAt version p g k prices v → v ≤ f.value
priced_low version p g k prices f v are rows_are priced is =
    text_low version p g k prices v f.value are rows_are is (rw (priced.problem, priced.region, priced.neighbours, priced.prices, priced.sets, priced.rows) at priced.valued.valued)

-- ---- prices at a leaf

-- a leaf that has this value already
pub raised_already : (b : Contents) (number v w : ℕ) (f : ValuedPrices) → f ≡ pricing_at b number → w ≡ f.value → v ≤ w → IsRaisedTo b b number v
raised_already b number v w f shown e low =
    let h : f.value ≡ value_of b.root b.past number = ap (λ (x : ValuedPrices). x.value) shown in
    raised_itself b number v (omega (arith, h, e, low))

-- the children of a leaf, at its own prices
pub children_at : (b : Contents) (number : ℕ) (a : Arc) (f x y : ValuedPrices) (g h : Region) → f ≡ pricing_at b number → IsUndecided (region_at b number) a → g ≡ used_child f.region a
    → h ≡ unused_child f.region a → IsPricedAt g f x → IsPricedAt h f y → AreChildren b (region_at b number) a x y
children_at b number a f x y g h shown undecided g_is h_is used unused =
    let region : f.region ≡ region_at b number = ap (λ (v : ValuedPrices). v.region) shown in
    let neighbours : f.neighbours ≡ b.neighbours = ap (λ (v : ValuedPrices). v.neighbours) shown in
    record {
      undecided = undecided;
      used = record { region = used.region ∙ (g_is ∙ ap (λ (r : Region). used_child r a) region); neighbours = used.neighbours ∙ neighbours };
      unused = record { region = unused.region ∙ (h_is ∙ ap (λ (r : Region). unused_child r a) region); neighbours = unused.neighbours ∙ neighbours };
    }

pub raised_low : {E : Type 0} (version : Version) (old new : Contents) (number : ℕ) (prices : LeafPrices) (f : ValuedPrices) (r : Result (Unit {0}) E) → AreSetPrices (length (listed_sets version)) prices
    → AreRowPrices (length (listed_rows version)) prices.rows → IsPricedBy old.problem (region_at old number) old.neighbours (leaf_at (listed_sets version) (listed_rows version) prices) f
    → OnOk r (IsRaisedTo old new number f.value) → OnOk r ((v : ℕ) → IsValueAt version old.problem (region_at old number) old.neighbours prices v → IsRaisedTo old new number v)
raised_low version old new number prices f (Err e) are rows_are priced raised = tt
raised_low version old new number prices f (Ok done) are rows_are priced raised =
    λ v is. lower old new number f.value v (priced_low version old.problem (region_at old number) old.neighbours prices f v are rows_are priced is) raised
