use Rattle.std.specs.Prelude.{option_map}
use Rattle.vrptw.proofs.FromTexts.{no_worse}
use Rattle.vrptw.proofs.solving.solve_from.Goals as goal

pub returns : goal.returns
returns g c =
    let p = c.in_ok-instance.field-0 in
    let read = c.in_ok-instance.ensures.found in
    let start = option_map (λ b. b.now) c.args.start in (
      c.in_ok-answer.ensures.solved c.args.text.now read,
      (p, read, no_worse p start c.in_ok-start.start c.in_ok-start.ensures.found c.in_ok-answer.answer c.in_ok-answer.ensures.at_most),
    )
