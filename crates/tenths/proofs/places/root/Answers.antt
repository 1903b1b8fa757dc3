use Rattle.std.proofs.Common.{◌<◌, ◌^◌, arith}
use Rattle.tenths.specs.Root.{root_of}
use Rattle.tenths.proofs.Roots.{root_of_is, IsRoot-unique}
use Rattle.tenths.proofs.places.root.Goals as goal

pub returns-clause-value : goal.returns-clause-value
returns-clause-value c =
    let small : c.args.x < 2 ^ 64 = omega arith in
    IsRoot-unique c.args.x _ (root_of c.args.x) (record { square_le = c.isqrt.ensures.square_le; next_square_gt = c.isqrt.ensures.next_square_gt }) (root_of_is c.args.x small)
