use Rattle.std.proofs.Common.{arith}
use Rattle.std.proofs.lemmas.Int.{ints}
use Rattle.solomon_reader.proofs.Completions.{at_most_more}
use Rattle.completions.specs.Completions.{IsFrom}
use Rattle.labelling.proofs.labeller.Labeller.is_passed.Goals as goal

pub returns : goal.returns
returns c = λ passed. record {
  each = λ a last later heavier cost remembered. record {
    dear = λ s h.
        let from : IsFrom c.args.front.now.last c.args.front.now.time c.args.front.now.load a = record { last = last; later = later; heavier = heavier; remembered = remembered } in
        at_most_more _ _ _ (omega (arith, ints, cost, (c.requires.bound.holds a s from h).least)) (c.is_at_most.ensures.yes passed);
  };
}
