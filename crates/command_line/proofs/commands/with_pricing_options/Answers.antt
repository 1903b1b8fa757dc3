use Rattle.std.proofs.lemmas.Result.{IfOk-weaker}
use Rattle.command_line.proofs.Steps.{adds_two}
use Rattle.command_line.proofs.commands.with_pricing_options.Goals as goal

pub returns : goal.returns
returns c =
    IfOk-weaker c.arg-2.result _ _ (λ made step. adds_two _ _ made _ _ _ _
    c.in_ok-arg.ensures c.number_option.ensures.rule c.number_option.ensures.own
    step c.number_option-2.ensures.rule c.number_option-2.ensures.own) c.arg-2.ensures
