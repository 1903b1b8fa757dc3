use Rattle.std.proofs.Common.{arith, refl, sym, ◌∙◌}
use Rattle.completions.specs.Completions.{IsFrom}
use Rattle.fronts.specs.Tasks.{pricing_of}
use Rattle.labels.specs.Arena.{state_at}
use Rattle.labels.proofs.Carrying.{carries_no_worse, carries_light, remembers_last}
use Rattle.labels.proofs.label.Label.dominates.Goals as goal

pub returns-then-self-other : goal.returns-then-self-other
returns-then-self-other c =
    let q = pricing_of c.args.completions.now.task.now in
    λ _. carries_no_worse q (state_at q c.args.self.now) (state_at q c.args.other.now) (c.is_no_worse.ensures c.if-not-is_no_worse.false) (omega arith)

pub returns : goal.returns
returns c =
    let q = pricing_of c.args.completions.now.task.now in
    let other = c.args.other.now in
    let remembered = remembers_last q other (sym c.contains.ensures ∙ c.if-not-contains.false) in
    let from : IsFrom other.front.last other.front.time other.front.load (state_at q other) = record { last = refl; later = omega arith; heavier = omega arith; remembered = remembered } in
    λ fits. carries_light q (state_at q c.args.self.now) (state_at q other) (c.is_no_worse.ensures c.if-not-is_no_worse.false)
    (λ s h. omega (arith, ((c.at-bound.ensures other.front.load).holds (state_at q other) s from h).room, c.fits.ensures.0 fits))
