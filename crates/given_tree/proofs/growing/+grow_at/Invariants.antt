use Rattle.solomon_reader.specs.CertificateText.{depth_of}
use Rattle.certificate.specs.Grown.{tree_of}
use Rattle.given_tree.proofs.growing.+grow_at.Given as goal

abbrev pub decreases-grow_at : goal.decreases-grow_at
decreases-grow_at l = depth_of (tree_of l.tree.now)
