use Rattle.std.proofs.Common.{refl, arith, to_z, of_z, w64, ◌≡◌}
use Rattle.std.proofs.lemmas.Int.{ints, to_z-of_z}
use Rattle.completions.specs.Completions.{IsFrom}
use Rattle.labels.specs.Arena.{state_at}
use Rattle.labelling.specs.Search.{pricing_in}
use Rattle.solomon_reader.proofs.Completions.{never_next}
use Rattle.labelling.proofs.labeller.Labeller.least_after.Goals as goal

pub returns-then-recalls : goal.returns-then-recalls
returns-then-recalls c =
    let q = pricing_in c.args.self.now in
    let a = state_at q c.args.label.now in
    let other = c.args.bound.now.other in
    let small = c.requires.bound.small.other in
    let e : to_z w64 (of_z w64 other) ≡ other = to_z-of_z w64 other (omega (arith, ints, small.low, small.high)) in
    let f = c.args.label.now.front in
    let from : IsFrom f.last f.time f.load a = record { last = refl; later = omega arith; heavier = omega arith; remembered = c.requires.remembered } in
    record {
      cut = rw e small;
      least = λ s h. rw e ((c.requires.bound.holds a s from h).other (never_next q a s _ (c.recalls.ensures c.if-recalls.true) h));
    }
