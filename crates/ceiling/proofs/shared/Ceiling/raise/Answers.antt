use Rattle.std.proofs.Common.{arith}
use Rattle.ceiling.proofs.Moves.{raises}
use Rattle.ceiling.proofs.shared.Ceiling.raise.Goals as goal

pub fetch_max-found-requires : goal.fetch_max-found-requires
fetch_max-found-requires c =
    let two = c.args.self.now.two_words in
    let one = c.args.seat.now.one_part in
    (c.requires, omega (arith, two), raises _ _ _ _ _ (omega (arith, one)))
