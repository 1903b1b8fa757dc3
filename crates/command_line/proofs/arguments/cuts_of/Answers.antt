use Rattle.std.proofs.Common.{IsTrue, false, refl}
use Rattle.clap.specs.Words.{found_of, rows_of}
use Rattle.command_line.specs.Commands.{IsLeftToCuts}
use Rattle.command_line.proofs.Named.{own_number}
use Rattle.command_line.proofs.arguments.cuts_of.Goals.{else-flag_of-via-then-flag_of+else-not-is_given, else-flag_of-via-else-flag_of}
use Rattle.command_line.proofs.arguments.cuts_of.Goals as goal

pub returns : goal.returns
returns c =
    let rows = rows_of (found_of c.args.found.now) in
    let own : IsLeftToCuts c.args.id.now rows → ⊥ = elim c.else-flag_of.branch [
      | else-flag_of-via-then-flag_of+else-not-is_given w ↦ λ left. left.1 (w.is_given.ensures.0 w.if-not-is_given.false)
      | else-flag_of-via-else-flag_of w ↦ λ left. let is = c.flag_of.ensures.1 (left.0.0 refl) in let bad : IsTrue false = rw w.if-flag_of.false at is in cc
    ] in
    own_number c.args.id.now c.args.many rows own c.number_of.result c.number_of.ensures
