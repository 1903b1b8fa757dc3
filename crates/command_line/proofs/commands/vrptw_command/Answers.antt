use Rattle.std.proofs.Common.{◌≡◌, [], codes, rules, true}
use Rattle.std.proofs.lemmas.Result.{IfOk-weaker}
use Rattle.clap.specs.Words.{App, app_of, new_app}
use Rattle.command_line.specs.Commands.{check_shape, solve_shape}
use Rattle.command_line.proofs.Steps.{adds_shape}
use Rattle.command_line.proofs.commands.vrptw_command.Goals as goal

-- the program before it has commands
alone : App
alone = record {
  top = record (new_app (codes "vrptw")).top { no_binary_name = true; subcommand_required = true; has_version = true };
  subs = [];
}

pub returns : goal.returns
unfolding alone
returns c =
    let bare : app_of c.subcommand_required.result ≡ alone = search rules in
    let one = adds_shape _ _ _ _ solve_shape bare c.in_ok-solve_command.ensures c.in_ok-subcommand.ensures in
    IfOk-weaker c.subcommand-2.result _ _ (λ made step.
    adds_shape _ made _ _ check_shape one c.in_ok-check_command.ensures step) c.subcommand-2.ensures
