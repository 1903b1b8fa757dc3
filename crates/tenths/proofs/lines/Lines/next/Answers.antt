use Rattle.std.proofs.Common.{sym, ap, ◌∙◌}
use Rattle.tenths.specs.Lines.{line_at}
use Rattle.tenths.proofs.Cuts.{cut_at, line_cut, no_line_cut}
use Rattle.tenths.proofs.lines.Lines.next.Goals as goal

pub returns-in_err-rest : goal.returns-in_err-rest
returns-in_err-rest c =
    let h = cut_at 10 _ c.self.inside.rest.now c.split_at.result.0.now c.split_at.result.1.now c.part_len-len.ensures c.split_at.ensures.front c.split_at.ensures.back in
    let t = rw c.in_err-rest.was at c.tail.ensures in
    rw c.from_residual.ensures (ap line_at (sym c.self.view_is) ∙ no_line_cut c.self.inside.number c.self.inside.rest.now c.split_at.result.0.now c.split_at.result.1.now h t)

pub returns : goal.returns
returns c =
    let h = cut_at 10 _ c.self.inside.rest.now c.split_at.result.0.now c.split_at.result.1.now c.part_len-len.ensures c.split_at.ensures.front c.split_at.ensures.back in
    let t = rw c.in_ok-rest.was at c.tail.ensures in
    ap line_at (sym c.self.view_is) ∙ line_cut c.self.inside.number c.self.inside.rest.now c.split_at.result.0.now c.split_at.result.1.now c.in_ok-rest.rest h t
