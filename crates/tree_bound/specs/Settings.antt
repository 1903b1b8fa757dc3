-- What the leaves of a certificate share.
use Rattle.std.specs.Prelude.{ℕ, List}
use Rattle.solomon_reader.specs.Problem.{Problem, customer_count}
use Rattle.solomon_reader.specs.Bound.{Version, Tree}
use Rattle.solomon_reader.specs.CertificateText.{IsTreeAt}
use Rattle.certificate.specs.Text.{version_of}
use Rattle.tree_bound.specs.declared.setting.Setting.{Setting}
use Rattle.leaf_arcs.specs.declared.decision.Decision.{Decision}
use Rattle.leaf_arcs.specs.Decisions.{region_of}
use Rattle.tree_bound.specs.Nodes.{IsBoundOf}

abbrev pub problem_in : Setting → Problem
problem_in s = s.network.neighbours.instance.now

abbrev pub neighbours_in : Setting → ℕ
neighbours_in s = s.network.neighbours.k

abbrev pub version_in : Setting → Version
version_in s = version_of s.version.now

-- the tree stands below a path's decisions
abbrev pub IsTreeIn : Setting → List Decision → Tree → Type 0
IsTreeIn s path tree = IsTreeAt (version_in s) (region_of (customer_count (problem_in s)) path) tree

-- b is the lesser of a number and the bound of the tree below a path's decisions
abbrev pub IsBoundIn : Setting → List Decision → Tree → ℕ → ℕ → Type 0
IsBoundIn s path tree most b = IsBoundOf (version_in s) (problem_in s) (neighbours_in s) (region_of (customer_count (problem_in s)) path) tree most b
