use Rattle.std.proofs.Common.{eqb, refl, arith}
use Rattle.std.proofs.lemmas.Bool.{eq-eqb, or_left}
use Rattle.std.proofs.lemmas.Int.{ints}
use Rattle.tree_bound.proofs.steps.is_dear_step.Goals as goal

pub returns-then-is_dear_with : goal.returns-then-is_dear_with
returns-then-is_dear_with c = λ _. record {
  dear = λ s completes.
      (let h = c.in-Some.ensures.holds _ s refl (omega (arith, c.begins.ensures.is, c.requires.arc.service_is))
      (omega (arith, c.requires.arc.demand_is)) (or_left (eqb c.args.arc.now.to c.args.arc.now.to) _ (eq-eqb c.args.arc.now.to c.args.arc.now.to refl)) completes in
      c.is_dear_with.ensures c.if-is_dear_with.true _
      (omega (arith, ints, h.least, c.requires.arc.value_is, c.requires.arc.low, c.requires.arc.high, c.requires.bounded.low, c.requires.bounded.high)));
}

pub returns-in-Some-near_floor_at : goal.returns-in-Some-near_floor_at
returns-in-Some-near_floor_at c = λ high. record {
  dear = λ s completes.
      (let h = c.in-Some-near_floor_at.ensures.holds _ s refl (omega (arith, c.begins.ensures.is, c.requires.arc.service_is))
      (omega (arith, c.requires.arc.demand_is)) (or_left (eqb c.args.arc.now.to c.args.arc.now.to) _ (eq-eqb c.args.arc.now.to c.args.arc.now.to refl)) completes in
      c.is_dear_with-in-Some-near_floor_at.ensures high _
      (omega (arith, ints, h.least, c.requires.arc.value_is, c.requires.arc.low, c.requires.arc.high, c.requires.bounded.low, c.requires.bounded.high)));
}
