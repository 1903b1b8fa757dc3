use Rattle.std.proofs.Common.{arith}
use Rattle.ceiling.proofs.Moves.{lowers}
use Rattle.ceiling.proofs.shared.Ceiling.offer.Goals as goal

pub fetch_min-found-requires : goal.fetch_min-found-requires
fetch_min-found-requires c =
    let two = c.args.self.now.two_words in
    let one = c.args.seat.now.one_part in
    (c.requires, omega (arith, two), lowers _ _ _ _ _ (omega (arith, one)))
