use Rattle.std.proofs.Common.{arith, sym, ◌∙◌}
use Rattle.solomon_reader.proofs.Places.{rank_grows}
use Rattle.fronts.proofs.neighbours.is_beyond.Goals as goal

pub returns-in-Some : goal.returns-in-Some
returns-in-Some c =
    let far = rw c.in-Some.is at c.requires.far in
    λ h. omega (arith, far.1, rank_grows c.args.instance.now c.args.v c.in-Some.w c.args.u (sym c.stands_before.ensures ∙ h))
