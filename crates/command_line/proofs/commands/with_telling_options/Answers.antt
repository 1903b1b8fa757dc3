use Rattle.std.proofs.lemmas.Result.{IfOk-weaker}
use Rattle.command_line.proofs.Steps.{adds_three}
use Rattle.command_line.proofs.commands.with_telling_options.Goals as goal

pub returns : goal.returns
returns c =
    IfOk-weaker c.arg-3.result _ _ (λ made step. adds_three _ _ _ made _ _ _ _ _ _
    c.in_ok-arg.ensures c.flag.ensures.rule c.flag.ensures.own
    c.in_ok-arg-2.ensures c.flag-2.ensures.rule c.flag-2.ensures.own
    step c.path_option.ensures.rule c.path_option.ensures.own) c.arg-3.ensures
