use Rattle.std.proofs.Common.{arith, inl, inr}
use Rattle.std.proofs.lemmas.Int.{ints}
use Rattle.completions.proofs.table.joined.Goals as goal

pub returns : goal.returns
returns c =
    let b = c.requires.bound in
    record {
      small = record {
        room = omega arith;
        least = record { low = omega (arith, ints, b.least.low, c.lesser.ensures.one); high = omega (arith, ints, b.least.high, c.lesser.ensures.first) };
        other = record {
          low = elim c.other_of.ensures [
            | inl same ↦ omega (arith, ints, b.other.low, c.lesser-2.ensures.one, same.1)
            | inr new ↦ omega (arith, ints, b.least.low, b.other.low, c.lesser-2.ensures.one, new.0.0)
          ];
          high = omega (arith, ints, b.other.high, c.lesser-2.ensures.first);
        };
      };
      room = omega arith;
      least = omega (arith, ints, c.lesser.ensures.first);
      step_room = λ x h e. omega (arith, h, e);
      step_least = λ y h e. omega (arith, ints, c.added-value.ensures.least y (omega (arith, ints, h)) e, c.lesser.ensures.second);
      other = elim c.next_of.ensures [
        | inl first ↦ elim c.other_of.ensures [
          | inl same ↦ inr (omega (arith, first.0, same.0), (omega (arith, ints, c.lesser-2.ensures.first), inl same.0))
          | inr new ↦ inl (first.0, omega (arith, ints, first.1, c.lesser-2.ensures.second, new.1))
        ]
        | inr kept ↦ inr (
          kept.0,
          (
            omega (arith, ints, c.lesser-2.ensures.first),
            elim c.other_of.ensures [
              | inl same ↦ inl same.0
              | inr new ↦ inr
                  (λ y h e. omega (arith, ints, c.added-value.ensures.least y (omega (arith, ints, h)) e, kept.1, c.lesser-2.ensures.second, new.1))
            ],
          ),
        )
      ];
    }
