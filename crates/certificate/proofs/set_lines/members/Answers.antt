use Rattle.std.proofs.lemmas.Result.{err_from_is_err_and}
use Rattle.std.proofs.Common.{◌≡◌, Ok, Err, refl, sym}
use Rattle.certificate.proofs.Loops.{member_at, members_more, members_fail, members_end}
use Rattle.certificate.specs.Reading.{members_at}
use Rattle.certificate.proofs.set_lines.members.Goals as goal

pub returns-in_err-member : goal.returns-in_err-member
returns-in_err-member c =
    let p = err_from_is_err_and c.from_residual.result c.from_residual.ensures.1 in
    let s = rw c.in-Some.ensures at c.loop-word.invariant in
    let bad : member_at c.args.line c.in-Some.word.now ≡ Err c.in_err-member.field-0.0 =
    rw (← c.small_number.ensures, c.in_err-member.ensures.ok_part) (sym (rw c.in_err-member.ensures.ok_part at c.in_err-member.ensures.value)) in
    rw (p.1, p.2) (λ ne. members_fail c.args.line c.loop-word.list.items c.in-Some.word.now c.next.new.self c.in_err-member.field-0.0 (members_at c.args.line c.args.words.now) bad s)

pub loop-word-preserved : goal.loop-word-preserved
loop-word-preserved c =
    let s = rw c.in-Some.ensures at c.loop-word.invariant in
    let is : member_at c.args.line c.in-Some.word.now ≡ Ok c.in_ok-member.member = rw (← c.small_number.ensures, c.in_ok-member.ensures.ok_part) refl in
    rw c.in_ok-push.ensures.items (members_more c.args.line c.in_ok-member.member c.loop-word.list.items c.in-Some.word.now c.next.new.self (members_at c.args.line c.args.words.now) is s)

pub returns : goal.returns
returns c =
    let n = rw c.in_default.is at c.next.ensures in
    let s = rw n.0 at c.loop-word.invariant in
    members_end c.args.line c.loop-word.list.items (members_at c.args.line c.args.words.now) s
