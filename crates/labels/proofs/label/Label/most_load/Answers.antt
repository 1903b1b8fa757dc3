use Rattle.std.proofs.Common.{refl, sym, ◌∙◌, arith}
use Rattle.fronts.specs.Tasks.{pricing_of}
use Rattle.completions.specs.Completions.{IsFrom}
use Rattle.completions.proofs.Following.{load_fits}
use Rattle.labels.specs.Arena.{state_at}
use Rattle.labels.proofs.Carrying.{remembers_last}
use Rattle.labels.proofs.label.Label.most_load.Goals as goal

pub returns-then-not-contains : goal.returns-then-not-contains
returns-then-not-contains c =
    let q = pricing_of c.args.completions.now.task.now in
    λ n s light h. omega (arith, light, load_fits q s (state_at q c.args.self.now) c.requires.load h)

pub returns : goal.returns
returns c =
    let q = pricing_of c.args.completions.now.task.now in
    let l = c.args.self.now in
    let remembered = remembers_last q l (sym c.contains.ensures ∙ c.if-not-contains.false) in
    let from : IsFrom l.front.last l.front.time l.front.load (state_at q l) = record { last = refl; later = omega arith; heavier = omega arith; remembered = remembered } in
    λ n s light h. omega (arith, light, load_fits q s (state_at q l) c.requires.load h, ((c.at-bound.ensures l.front.load).holds (state_at q l) s from h).room)
