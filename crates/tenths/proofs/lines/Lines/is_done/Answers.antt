use Rattle.std.proofs.Common.{sym, ap, ◌∙◌}
use Rattle.tenths.specs.Lines.{Left, is_end}
use Rattle.tenths.proofs.Cuts.{end_is, empty_is}
use Rattle.tenths.proofs.lines.Lines.is_done.Goals as goal

pub returns : goal.returns
returns c = c.is_empty.ensures ∙ empty_is c.self.inside.rest.now ∙ sym (end_is c.self.inside.rest.now) ∙ ap (λ (l : Left). is_end l.1) c.self.view_is
