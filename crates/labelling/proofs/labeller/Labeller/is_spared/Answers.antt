use Rattle.std.proofs.Common.{◌<◌, get_or, arith}
use Rattle.fronts.specs.declared.memory.Memory.{Memory}
use Rattle.labelling.specs.Search.{pricing_in}
use Rattle.labels.proofs.SparedSteps.{spared_by}
use Rattle.labelling.proofs.labeller.Labeller.is_spared.Goals as goal

pub returns-then-is_subset_within : goal.returns-then-is_subset_within
returns-then-is_subset_within c =
    let q = pricing_in c.args.self.now in
    let none : Memory = record { bits = 0 } in
    let m : Memory = get_or c.args.memories.now c.loop-memory.memory-index none in
    let few : q.neighbours < 16 = omega (arith, c.args.self.now.completions.now.task.now.few) in
    λ _ can.
    spared_by q few c.args.self.now.labels.items c.args.label.now m c.is_subset_within.ensures.small (c.requires.memories c.loop-memory.memory-index none c.loop-memory-test.true)
    c.args.step.now.customer c.full.result.bits c.remember-common.result.bits c.full.ensures c.remember-common.ensures
    (c.is_subset_within.ensures.places.0 c.if-is_subset_within.true) can
