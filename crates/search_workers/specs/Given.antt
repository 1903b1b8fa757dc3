-- A tree that a run goes on from.
use Rattle.std.specs.Prelude.{◌≡◌, ℕ, Option, Some, None}
use Rattle.solomon_reader.specs.Problem.{Problem, customer_count}
use Rattle.solomon_reader.specs.Bound.{Tree, preorder, IsTreeBound}
use Rattle.solomon_reader.specs.CertificateText.{Content}
use Rattle.search_workers.specs.declared.begun.GivenTree.{GivenTree}

-- the contents of a certificate are for the instance and so many neighbours, and its bound is that of its tree
pub record IsFor (p : Problem) (k : ℕ) (x : Content) : Type 0 where
  pub size : x.size ≡ customer_count p
  pub neighbours : x.neighbours ≡ k
  pub tree : Tree
  pub nodes : preorder tree ≡ x.nodes
  pub is_bound : IsTreeBound x.version p k tree x.bound

abbrev pub IsTreeFor : Problem → ℕ → GivenTree → Type 0
IsTreeFor p k t = IsFor p k t.certificate.now

-- the bound of a tree, or nothing reached without one
abbrev pub bound_of : Option GivenTree → ℕ
bound_of None = 0
bound_of (Some t) = t.certificate.now.bound
