use Rattle.std.proofs.Common.{◌*◌, ◌≤◌, ◌∙◌, inl, inr, arith}
use Rattle.solomon_reader.specs.declared.limits.TheConstants.{MOST_TIME}
use Rattle.fronts.proofs.Stepping.{among_more, is_among}
use Rattle.std.proofs.lemmas.List.Elements.{All-weaker}
use Rattle.labels.specs.Sparing.{IsSparing}
use Rattle.labels.proofs.SparedSteps.{sparing_later}
use Rattle.labelling.specs.Search.{pricing_in}
use Rattle.labelling.proofs.Advancing.{steps_more, steps_all}
use Rattle.labelling.proofs.labeller.Labeller.take_others.Goals as goal

pub try_step-requires-clause-step : goal.try_step-requires-clause-step
try_step-requires-clause-step c = rw c.loop-step.invariant.same.task (c.steps_from-step-items.ensures.each c.loop-step.step-index _ c.loop-step-test.true)

pub try_step-requires-clause-leasts : goal.try_step-requires-clause-leasts
try_step-requires-clause-leasts c = rw c.loop-step.invariant.same.task c.leasts_from-leasts.ensures

pub try_step-requires-clause-memories : goal.try_step-requires-clause-memories
try_step-requires-clause-memories c =
    let before = c.loop-step.invariant in
    let q = pricing_in c.args.self.now in
    rw before.same.task (All-weaker (IsSparing q c.args.self.now.labels.items c.args.label.now) (IsSparing q c.loop-step.self.labels.items c.args.label.now)
    (λ m h. sparing_later q c.args.self.now.labels.items c.loop-step.self.labels.items c.args.label.now m before.stepped.moved.grown h) c.args.memories.now c.requires.memories)

pub loop-step-preserved : goal.loop-step-preserved
loop-step-preserved c =
    let before = c.loop-step.invariant in
    let after = c.try_step.ensures.kept in record {
      stepped = steps_more _ _ _ _ _ _ _ _ _ (among_more c.steps_from-step-items.result.now c.loop-step.step-index) before.stepped (rw before.same.task at c.in_ok-try_step.ensures.stepped);
      same = record { task = after.same.task ∙ before.same.task; limit = after.same.limit ∙ before.same.limit };
      best = after.best ∙ before.best;
    }

pub returns-then-is_late-clause-stepped : goal.returns-then-is_late-clause-stepped
returns-then-is_late-clause-stepped c =
    let soon : c.args.label.now.front.time ≤ 20 * MOST_TIME = rw c.requires.index.here.front (c.requires.labels.each c.args.index c.requires.index.within).bounded.time in
    steps_all _ _ _ _ c.args.label.now _
    (is_among _ _ _ _ c.args.label.now.front.last c.steps_from-step-items.result.now c.args.label.now.front.time c.loop-step.step-index
    c.steps_from-step-items.ensures soon (inr (c.is_late.ensures.0 c.if-is_late.true))) c.loop-step.invariant.stepped

pub returns-clause-stepped : goal.returns-clause-stepped
returns-clause-stepped c =
    let soon : c.args.label.now.front.time ≤ 20 * MOST_TIME = rw c.requires.index.here.front (c.requires.labels.each c.args.index c.requires.index.within).bounded.time in
    steps_all _ _ _ _ c.args.label.now _
    (is_among _ _ _ _ c.args.label.now.front.last c.steps_from-step-items.result.now c.args.label.now.front.time c.loop-step.step-index
    c.steps_from-step-items.ensures soon (inl (omega arith))) c.loop-step.invariant.stepped
