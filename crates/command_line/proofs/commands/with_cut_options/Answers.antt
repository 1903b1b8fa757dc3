use Rattle.std.proofs.lemmas.Result.{IfOk-weaker}
use Rattle.command_line.proofs.Steps.{adds_three}
use Rattle.command_line.proofs.commands.with_cut_options.Goals as goal

pub returns : goal.returns
returns c =
    IfOk-weaker c.arg-3.result _ _ (λ made step. adds_three _ _ _ made _ _ _ _ _ _
    c.in_ok-arg.ensures c.number_option.ensures.rule c.number_option.ensures.own
    c.in_ok-arg-2.ensures c.number_option-2.ensures.rule c.number_option-2.ensures.own
    step c.flag.ensures.rule c.flag.ensures.own) c.arg-3.ensures
