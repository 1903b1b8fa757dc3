use Rattle.std.proofs.Common.{rules, codes}
use Rattle.std.proofs.lemmas.Result.{IfOk-weaker}
use Rattle.clap.specs.Words.{new_app}
use Rattle.command_line.specs.Commands.{HasShape, path_rule}
use Rattle.command_line.proofs.Steps.{adds_rule}
use Rattle.command_line.proofs.commands.solve_command.Goals as goal

pub returns : goal.returns
returns c =
    let new : HasShape (new_app (codes "solve")) c.about.result = search (rules, c.new.ensures, c.about.ensures) in
    let one = adds_rule _ _ _ _ (path_rule (codes "INSTANCE")) new
    c.in_ok-arg.ensures c.path.ensures.rule c.path.ensures.own in
    let two = adds_rule _ _ _ _ (path_rule (codes "SOLUTION")) one
    c.in_ok-arg-2.ensures c.path-2.ensures.rule c.path-2.ensures.own in
    let paths = adds_rule _ _ _ _ (path_rule (codes "CERTIFICATE")) two
    c.in_ok-command.ensures c.path-3.ensures.rule c.path-3.ensures.own in
    let threads = c.in_ok-command-2.ensures _ paths in
    let turns = c.in_ok-command-3.ensures _ threads in
    let prices = c.in_ok-command-4.ensures _ turns in
    let cuts = c.in_ok-command-5.ensures _ prices in
    let closing = c.in_ok-command-6.ensures _ cuts in
    let starting = c.in_ok-command-7.ensures _ closing in
    let tree = c.in_ok-command-8.ensures _ starting in
    IfOk-weaker c.with_telling_options.result _ _ (λ made adds. adds _ tree) c.with_telling_options.ensures
