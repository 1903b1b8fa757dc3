-- What a split and new prices change in a book.
use Rattle.std.proofs.Common.{◌≡◌, refl, ℕ, ◌≤◌, ◌∷◌, Some, None, arith, sym, ◌∙◌, ◌⊎◌, inl, inr}
use Rattle.std.proofs.lemmas.Bool.{cases_eq}
use Rattle.solomon_reader.specs.Problem.{customer_count}
use Rattle.solomon_reader.specs.Plan.{Arc}
use Rattle.solomon_reader.specs.History.{repriced, was_split, split_count, used_number, unused_number, split_of, value_of, IsLegal, IsLeaf}
use Rattle.incumbent_book.specs.Contents.{Contents}
use Rattle.incumbent_book.proofs.Histories.{here, elsewhere, not_yet, same_region, same_value, same_split, used_region, unused_region, which_number}
use Rattle.given_tree.specs.Growing.{Keeps, IsGrownAt, IsStill, IsRaisedTo, IsSplitAt}

-- ---- a split

module _ (old new : Contents) (number worker : ℕ) (a : Arc) (i j x y : ℕ) (legal : IsLegal (customer_count old.problem) old.root old.past) (leaf : IsLeaf old.past number)
    (keeps : Keeps old new) (i_is : i ≡ used_number (split_count old.past)) (j_is : j ≡ unused_number (split_count old.past))
    (past : new.past ≡ was_split worker number a i j x y ∷ old.past) where
  abbrev n : ℕ
  n = customer_count old.problem

  grown_by_split : IsGrownAt old new number
  grown_by_split = record {
    keeps = keeps;
    made = rw past (omega arith);
    regions = λ m h. rw (keeps.problem, past) (same_region n old.root old.past worker number a i j x y m h);
    others = λ m at apart. rw past (record { made = omega (arith, at.made); whole = same_split n old.root old.past worker number a i j x y m at.made apart ∙ at.whole });
  }

  used_leaf : IsLeaf new.past i
  used_leaf = rw past (record {
    made = omega (arith, i_is);
    whole = elsewhere i number (Some (split_count old.past, a)) (split_of old.past i) (omega (arith, leaf.made, i_is)) ∙ not_yet n old.root old.past i legal (omega (arith, i_is));
  })

  unused_leaf : IsLeaf new.past j
  unused_leaf = rw past (record {
    made = omega (arith, j_is);
    whole = elsewhere j number (Some (split_count old.past, a)) (split_of old.past j) (omega (arith, leaf.made, j_is)) ∙ not_yet n old.root old.past j legal (omega (arith, j_is));
  })

  which_leaf : (m : ℕ) → IsLeaf new.past m → (m ≡ i) ⊎ ((m ≡ j) ⊎ IsStill old new number m)
  which_leaf m at =
      let here_at : IsLeaf (was_split worker number a i j x y ∷ old.past) m = rw past at at in
      elim (which_number n old.root old.past worker number a i j x y m here_at.made) [
        | inl made ↦ elim (cases_eq m number) [
          | inl e ↦ absurd (let s = here m number (Some (split_count old.past, a)) (split_of old.past m) e in let c : None ≡ Some (split_count old.past, a) = sym here_at.whole ∙ s in cc)
          | inr apart ↦ inr (inr (record {
            other = apart;
            leaf = record { made = made; whole = sym (same_split n old.root old.past worker number a i j x y m made apart) ∙ here_at.whole };
            value = rw (keeps.root, past) (same_value n old.root old.past worker number a i j x y m made);
          }))
        ]
        | inr made ↦ elim made [ inl e ↦ inl (e ∙ sym i_is) | inr e ↦ inr (inl (e ∙ sym j_is)) ]
      ]

  pub split_is : IsSplitAt old new number a i j
  split_is = record {
    grown = grown_by_split;
    later = (omega (arith, i_is), omega (arith, i_is, j_is));
    used = used_leaf;
    unused = unused_leaf;
    used_region = rw (keeps.problem, past) (used_region n old.root old.past worker number a i j x y i i_is);
    unused_region = rw (keeps.problem, past) (unused_region n old.root old.past worker number a i j x y j j_is);
    leaves = which_leaf;
  }

-- ---- new prices

module _ (old new : Contents) (number worker v : ℕ) (leaf : IsLeaf old.past number) (keeps : Keeps old new) (past : new.past ≡ repriced worker number v ∷ old.past) where
  pub grown_by_prices : IsGrownAt old new number
  grown_by_prices = record {
    keeps = keeps;
    made = rw past (omega arith);
    regions = λ m h. rw (keeps.problem, past) refl;
    others = λ m at apart. rw past (record { made = at.made; whole = at.whole });
  }

  pub still_leaf : IsLeaf new.past number
  still_leaf = rw past (record { made = leaf.made; whole = leaf.whole })

  pub raised_by_prices : IsRaisedTo old new number v
  raised_by_prices = record {
    leaves = λ m at.
        let here_at : IsLeaf (repriced worker number v ∷ old.past) m = rw past at at in
        elim (cases_eq m number) [
          | inl e ↦ inl (rw past (omega (arith, here m number v (value_of new.root old.past m) e)))
          | inr apart ↦ inr (record {
            other = apart;
            leaf = record { made = here_at.made; whole = here_at.whole };
            value = rw (keeps.root, past) (elsewhere m number v (value_of old.root old.past m) apart);
          })
        ];
  }

-- ---- no change

pub keeps_itself : (old : Contents) → Keeps old old
keeps_itself old = record { problem = refl; neighbours = refl; root = refl; limits = refl; most_sets = refl; most_rows = refl; incumbent = refl; costs = refl }

pub grown_itself : (old : Contents) (number : ℕ) → IsGrownAt old old number
grown_itself old number = record { keeps = keeps_itself old; made = omega arith; regions = λ m h. refl; others = λ m at apart. at }

pub raised_itself : (old : Contents) (number v : ℕ) → v ≤ value_of old.root old.past number → IsRaisedTo old old number v
raised_itself old number v low = record {
  leaves = λ m at. elim (cases_eq m number) [
    | inl e ↦ inl (rw e low)
    | inr apart ↦ inr (record { other = apart; leaf = at; value = refl })
  ];
}
