use Rattle.std.proofs.Common.{sym}
use Rattle.std.specs.Str.Parse.{ParsesUnsigned, ExplainsUnsignedError, HasUnsignedDigitsIfOk}
use Rattle.clap.specs.Words.{found_of, rows_of}
use Rattle.clap.proofs.WalkLemmas.{one_text-rows}
use Rattle.command_line.proofs.Steps.{reads}
use Rattle.command_line.proofs.arguments.number_of.Goals as goal

pub returns : goal.returns
returns c =
    reads _ (λ bs r. ParsesUnsigned 32 10 bs r × ExplainsUnsignedError 10 bs r × HasUnsignedDigitsIfOk bs r) (λ u x g. g.0)
    c.args.id.now (rows_of (found_of c.args.found.now)) _ (sym (one_text-rows (found_of c.args.found.now) c.args.id.now)) c.get_one.result c.get_one.ensures.none c.get_one.ensures.value
