use Rattle.clap.specs.Words.{found_of, rows_of}
use Rattle.command_line.proofs.Named.{no_leaves}
use Rattle.command_line.proofs.commands.closing_of.Goals as goal

pub returns-in_err-leaves : goal.returns-in_err-leaves
returns-in_err-leaves c =
    rw c.from_residual.ensures (no_leaves (rows_of (found_of c.args.found.now)) (rw c.in_err-leaves.was at c.number_of.ensures))
