use Rattle.std.proofs.Common.{◌≡◌, ◌≤◌, arith}
use Rattle.std.specs.Prelude.{◌-◌, min}
use Rattle.solomon_reader.specs.Problem.{service, due}
use Rattle.set_needs.proofs.Leaving.{left_never, served_never, begun_never, latest_first}
use Rattle.set_needs.proofs.latest.latest_before.Goals as goal

pub returns-in_err-left : goal.returns-in_err-left
returns-in_err-left c = λ s latest. rw c.from_residual.ensures (left_never c.args.instance.now c.args.from c.args.next s c.args.left latest c.in_err-left.was)

pub returns-in_err-served : goal.returns-in_err-served
returns-in_err-served c = λ s latest. rw c.from_residual-in_err-served.ensures (served_never c.args.instance.now c.args.from c.args.next s c.args.left latest
    c.in_ok-left.field-0 c.in_ok-left.was (rw c.service.ensures.value at c.in_err-served.ensures))

pub returns-then-begun-ready : goal.returns-then-begun-ready
returns-then-begun-ready c = λ s latest.
    let begun : c.min-begun.result ≡ min (c.in_ok-left.field-0 - service c.args.instance.now c.args.next) (due c.args.instance.now c.args.next) =
    rw (c.in_ok-served.ensures.1, c.service.ensures.value, c.due.ensures.value) at c.min-begun.ensures in
    let in_time : service c.args.instance.now c.args.next ≤ c.in_ok-left.field-0 = rw c.service.ensures.value at c.in_ok-served.ensures.0 in
    begun_never c.args.instance.now c.args.from c.args.next s c.args.left latest c.in_ok-left.field-0 c.in_ok-left.was c.min-begun.result begun in_time
    (omega (arith, c.ready.ensures.value, c.if-begun-ready.true))

pub returns : goal.returns
returns c = λ s latest.
    let begun : c.min-begun.result ≡ min (c.in_ok-left.field-0 - service c.args.instance.now c.args.next) (due c.args.instance.now c.args.next) =
    rw (c.in_ok-served.ensures.1, c.service.ensures.value, c.due.ensures.value) at c.min-begun.ensures in
    let in_time : service c.args.instance.now c.args.next ≤ c.in_ok-left.field-0 = rw c.service.ensures.value at c.in_ok-served.ensures.0 in
    latest_first c.args.instance.now c.args.from c.args.next s c.args.left latest c.in_ok-left.field-0 c.in_ok-left.was c.min-begun.result begun in_time
    c.get.result (rw c.requires.ways at c.get.ensures.quickest) (omega (arith, c.ready.ensures.value, c.if-begun-ready.false)) c.checked_sub-2.result
    (rw c.from.ensures at c.checked_sub-2.ensures)
