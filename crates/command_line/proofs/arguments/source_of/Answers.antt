use Rattle.std.proofs.Common.{◌∙◌}
use Rattle.clap.specs.Words.{found_of}
use Rattle.command_line.proofs.Sources.{source-rows}
use Rattle.command_line.proofs.arguments.source_of.Goals as goal

pub returns : goal.returns
returns c = c.value_source.ensures ∙ source-rows (found_of c.args.found.now) c.args.id.now
