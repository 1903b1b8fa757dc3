use Rattle.std.proofs.Common.{arith}
use Rattle.ceiling.proofs.Moves.{reads_cost}
use Rattle.ceiling.proofs.shared.Ceiling.cost.Goals as goal

pub load-requires : goal.load-requires
load-requires c =
    let two = c.args.self.now.two_words in
    let one = c.args.seat.now.one_part in
    (c.requires, omega (arith, two), reads_cost _ _ _ _ 0 (omega (arith, one)))
