use Rattle.std.proofs.Common.{◌∙◌}
use Rattle.segments.specs.Linked.{chain}
use Rattle.segments.specs.Trees.{items_of}
use Rattle.segments.proofs.TreeLevels.{last_total, whole_of_one, never_empty}
use Rattle.segments.proofs.tree.RouteTree.whole.Goals as goal

pub returns : goal.returns
returns g c = λ op tree.
    let top = c.in_ok-last.field-0.now in
    let last = last_total op tree.law (items_of c.args.self.now) c.args.self.now.levels.items top tree.levels (rw c.deref.ensures.value at c.in_ok-last.ensures.value) in
    c.as_ref.ensures.value ∙ whole_of_one op tree.law top.items c.in_ok-first.field-0.now (chain op (items_of c.args.self.now)) last.0 last.1
    (rw c.deref-2.ensures.value at c.in_ok-first.ensures.value)

pub returns-in_err-first : goal.returns-in_err-first
returns-in_err-first g c = λ op tree.
    let top = c.in_ok-last.field-0.now in
    let last = last_total op tree.law (items_of c.args.self.now) c.args.self.now.levels.items top tree.levels (rw c.deref.ensures.value at c.in_ok-last.ensures.value) in
    never_empty op tree.law top.items _ _ last.0 (rw c.deref-2.ensures.value at c.in_err-first.ensures.value)
