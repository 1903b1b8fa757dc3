use Rattle.solomon_reader.specs.CertificateText.{depth_of}
use Rattle.certificate.specs.Grown.{tree_of}
use Rattle.tree_bound.proofs.tree.+bound_at.Given as goal

abbrev pub decreases-bound_at : goal.decreases-bound_at
decreases-bound_at l = depth_of (tree_of l.tree.now)
