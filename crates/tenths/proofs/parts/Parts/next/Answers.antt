use Rattle.tenths.proofs.Cuts.{cut_at, cut_next}
use Rattle.tenths.proofs.parts.Parts.next.Goals as goal

pub returns : goal.returns
returns c =
    let h = cut_at c.self.inside.separator _ c.in_ok-rest.rest.now c.split_at.result.0.now c.split_at.result.1.now c.part_len-len.ensures c.split_at.ensures.front c.split_at.ensures.back in
    let n = cut_next c.self.inside.separator c.in_ok-rest.rest.now c.split_at.result.0.now c.split_at.result.1.now c.tail-self-inside.result h c.tail-self-inside.ensures in
    rw (← c.self.view_is, c.in_ok-rest.was) n
