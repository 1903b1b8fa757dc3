use Rattle.std.proofs.Common.{◌∙◌}
use Rattle.solomon_reader.specs.Bound.{listed_sets}
use Rattle.certificate.specs.Text.{version_of}
use Rattle.certificate.proofs.Shapes.{sets_tested}
use Rattle.certificate.proofs.shape.are_sets_of.Goals as goal

pub returns-then-sets : goal.returns-then-sets
returns-then-sets c =
    c.have_lines.ensures ∙ sets_tested c.args.size c.sets-sets.result.now (listed_sets (version_of c.args.version.now)) c.sets-sets.ensures c.if-sets.true
