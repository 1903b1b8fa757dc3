use Rattle.std.proofs.Common.{◌∙◌}
use Rattle.solomon_reader.specs.Bound.{listed_rows}
use Rattle.certificate.specs.Text.{version_of}
use Rattle.certificate.proofs.Shapes.{rows_tested}
use Rattle.certificate.proofs.shape.are_rows_of.Goals as goal

pub returns-then-rows : goal.returns-then-rows
returns-then-rows c =
    c.are_rising_rows.ensures ∙ rows_tested c.args.size c.rows-rows.result.now (listed_rows (version_of c.args.version.now)) c.rows-rows.ensures c.if-rows.true
