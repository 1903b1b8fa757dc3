use Rattle.std.proofs.Common.{refl, sym, arith, ◌<◌, length}
use Rattle.labelling.proofs.Advancing.{label_read, complete_counted}
use Rattle.labelling.proofs.labeller.Labeller.cut_at.Goals as goal

pub returns : goal.returns
returns c =
    let within : c.args.index < length c.args.self.now.labels.items = omega (arith) in
    let here = sym (label_read c.args.self.now.labels.items c.args.index c.index.result.now within c.index.ensures) in
    record {
      complete = complete_counted _ c.args.self.now.labels.items _ _ _ c.args.index within here c.requires c.best_with-self.ensures;
      same = record { task = refl; limit = refl };
    }
