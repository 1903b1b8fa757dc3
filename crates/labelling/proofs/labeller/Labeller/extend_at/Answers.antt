use Rattle.std.proofs.Common.{refl, sym}
use Rattle.labelling.proofs.Advancing.{label_read, complete_written, onward_written, end_passed, steps_passed}
use Rattle.labelling.proofs.labeller.Labeller.extend_at.Goals as goal

pub returns-then-leads_nowhere-clause-on : goal.returns-then-leads_nowhere-clause-on
returns-then-leads_nowhere-clause-on c =
    let within = c.if-not-is_pending.ensures.within refl in
    let here = sym (label_read c.args.self.now.labels.items c.args.index c.index.result.now within c.index.ensures) in
    let counted = c.leads_nowhere.ensures c.if-leads_nowhere.true in
    record {
      complete = complete_written _ c.args.self.now.labels.items _ c.args.index c.args.self.now.best _ c.index.result.now c.requires within here
          (end_passed _ _ c.args.self.now.best counted c.args.index) (steps_passed _ _ c.args.self.now.best counted _ _ c.requires.labelled) c.index_mut.result.now c.index_mut.ensures.value;
      same = record { task = refl; limit = refl };
      unlimited = tt;
    }

pub returns-then-leads_nowhere-clause-onward : goal.returns-then-leads_nowhere-clause-onward
returns-then-leads_nowhere-clause-onward c =
    let within = c.if-not-is_pending.ensures.within refl in
    let here = sym (label_read c.args.self.now.labels.items c.args.index c.index.result.now within c.index.ensures) in
    let counted = c.leads_nowhere.ensures c.if-leads_nowhere.true in
    onward_written _ c.args.self.now.labels.items _ c.args.index c.args.self.now.best _ c.index.result.now c.requires within here
    (end_passed _ _ c.args.self.now.best counted c.args.index) (steps_passed _ _ c.args.self.now.best counted _ _ c.requires.labelled) c.index_mut.result.now c.index_mut.ensures.value

pub returns-clause-on : goal.returns-clause-on
returns-clause-on c =
    let within = c.if-not-is_pending.ensures.within refl in
    let here = sym (label_read c.args.self.now.labels.items c.args.index c.index.result.now within c.index.ensures) in
    let kept = c.take_steps.ensures.kept in
    record {
      complete = rw kept.same.task
          (complete_written _ c.args.self.now.labels.items _ c.args.index c.args.self.now.best _ c.index.result.now c.requires within here
          c.best_with-best.ensures c.in_ok-take_steps.ensures.stepped c.index_mut-2.result.now c.index_mut-2.ensures.value);
      same = record { task = kept.same.task; limit = kept.same.limit };
      unlimited = tt;
    }

pub returns-clause-onward : goal.returns-clause-onward
returns-clause-onward c =
    let within = c.if-not-is_pending.ensures.within refl in
    let here = sym (label_read c.args.self.now.labels.items c.args.index c.index.result.now within c.index.ensures) in
    onward_written _ c.args.self.now.labels.items _ c.args.index c.args.self.now.best _ c.index.result.now c.requires within here
    c.best_with-best.ensures c.in_ok-take_steps.ensures.stepped c.index_mut-2.result.now c.index_mut-2.ensures.value
