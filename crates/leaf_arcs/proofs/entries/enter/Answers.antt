use Rattle.std.proofs.Common.{◌-◌, length, arith, sym, ◌∙◌}
use Rattle.leaf_arcs.specs.Sets.{set_of}
use Rattle.solomon_reader.specs.EntryLaws.{entering_none, entering_more, entering_low, entered_all, member_known}
use Rattle.leaf_arcs.proofs.entries.enter.Goals as goal

pub loop-member-init : goal.loop-member-init
loop-member-init c = entering_none (set_of c.args.set.now) c.args.paid.now

pub overflow_add-paid : goal.overflow_add-paid
overflow_add-paid c =
    let known = member_known (length c.args.paid.now - 1) c.args.set.now.members.now c.loop-member.member-index c.loop-member-test.true c.requires.set.known in
    rw c.from.ensures (omega (
      arith,
      entering_low (set_of c.args.set.now) c.args.paid.now c.loop-member.paid c.loop-member.member-index 1000000000000 c.loop-member-test.true
          (omega (arith, known, c.requires.some)) c.loop-member.invariant c.requires.low,
    ))

pub loop-member-preserved : goal.loop-member-preserved
loop-member-preserved c =
    let known = member_known (length c.args.paid.now - 1) c.args.set.now.members.now c.loop-member.member-index c.loop-member-test.true c.requires.set.known in
    rw c.from.ensures (entering_more (set_of c.args.set.now) c.args.paid.now c.loop-member.paid c.loop-member.member-index c.requires.set.rising c.loop-member-test.true
    (omega (arith, known, c.requires.some)) c.loop-member.invariant)

pub returns : goal.returns
returns c = entered_all (set_of c.args.set.now) c.args.paid.now c.args.v c.loop-member.paid c.loop-member.member-index c.loop-member-test.false (sym c.contains.ensures.value ∙ c.if-contains.false) c.loop-member.invariant
