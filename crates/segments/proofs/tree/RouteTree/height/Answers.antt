use Rattle.segments.proofs.TreeLevels.{height-same, height-digits, height_of_levels}
use Rattle.segments.proofs.tree.RouteTree.height.Goals as goal

pub returns-clause-levels : goal.returns-clause-levels
returns-clause-levels g c = λ op tree. height-same _ _ _ (rw c.len.ensures at c.height_of.ensures.height) (height_of_levels op _ _ tree.levels)

pub returns-clause-digits : goal.returns-clause-digits
returns-clause-digits g c = height-digits _ _ (rw c.len.ensures at c.height_of.ensures.height)
