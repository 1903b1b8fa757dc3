use Rattle.std.proofs.Common.{rules, ◌≡◌, ◌<◌, ◌-◌, ap, refl, vec_len, arith}
use Rattle.ceiling.proofs.Moves.{opens, splits}
use Rattle.ceiling.proofs.shared.Ceiling.new.Goals as goal

pub of_words-requires : goal.of_words-requires
of_words-requires c =
    let some = c.requires in
    let small = c.ranges.cost in
    (_, refl, opens _ (omega arith) (omega arith))

pub split_seat-seat-requires : goal.split_seat-seat-requires
split_seat-seat-requires c =
    let parts : c.loop.first.me.0.parts ≡ c.args.seats - vec_len c.loop.list = ap (λ m. m.0.parts) c.loop.invariant.1 in
    let count = c.loop.invariant.2 in
    let more : 1 < c.args.seats - vec_len c.loop.list = search rules in
    (c.loop.invariant.0, search rules, splits _ _ _ (rw parts more))
