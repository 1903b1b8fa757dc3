use Rattle.std.proofs.Common.{Some, None}
use Rattle.std.specs.Prelude.{option_map}
use Rattle.std.proofs.lemmas.Result.{err_from_is_err_and}
use Rattle.vrptw.specs.GoingOn.{GivenTexts, AreGiven}
use Rattle.vrptw.proofs.FromTexts.{right_start, no_worse, tree_for, fault_told, fault_on, answer_told}
use Rattle.vrptw.proofs.going_on.solve_on.Goals as goal

-- ---- without a tree

pub returns-in_err-answer : goal.returns-in_err-answer
returns-in_err-answer g c =
    let t : GivenTexts = record { instance = c.args.text.now; start = option_map (λ b. b.now) c.args.given.start; tree = option_map (λ b. b.now) c.args.given.tree } in
    let p = c.in_ok-instance.field-0 in
    let read = c.in_ok-instance.ensures.found in
    let start = c.in_ok-start.start in
    let at = c.in_ok-start.ensures.found in
    let given : AreGiven t p None = record { instance = read; start = right_start p t.start start at; tree_text = rw c.in_default.is at c.in_ok-cert.ensures.found } in
    let err = err_from_is_err_and c.from_residual-in_err-answer.result c.from_residual-in_err-answer.ensures.1 in
    rw (err.1, err.2) (fault_told t c.args.settings.now p None given _ _ _ _ c.in_err-answer.field-0.0 (c.in_err-answer.ensures.solved c.args.text.now read))

pub returns-in_default : goal.returns-in_default
returns-in_default g c =
    let t : GivenTexts = record { instance = c.args.text.now; start = option_map (λ b. b.now) c.args.given.start; tree = option_map (λ b. b.now) c.args.given.tree } in
    let p = c.in_ok-instance.field-0 in
    let read = c.in_ok-instance.ensures.found in
    let start = c.in_ok-start.start in
    let at = c.in_ok-start.ensures.found in
    let given : AreGiven t p None = record { instance = read; start = right_start p t.start start at; tree_text = rw c.in_default.is at c.in_ok-cert.ensures.found } in
    answer_told t c.args.settings.now p None given _ _ _ _ c.in_ok-answer.answer (c.in_ok-answer.ensures.solved c.args.text.now read)
    (no_worse p t.start start at c.in_ok-answer.answer c.in_ok-answer.ensures.at_most) tt

-- ---- with one

pub solve_instance-requires-2-clause-tree : goal.solve_instance-requires-2-clause-tree
solve_instance-requires-2-clause-tree g c κs within =
    let tree = option_map (λ b. b.now) c.args.given.tree in
    rw c.settings_on-settings.ensures (tree_for c.in_ok-instance.field-0 tree c.in-Some.cert (rw c.in-Some.is at c.in_ok-cert.ensures.found))

pub returns-in_err-answer-2 : goal.returns-in_err-answer-2
returns-in_err-answer-2 g c =
    let t : GivenTexts = record { instance = c.args.text.now; start = option_map (λ b. b.now) c.args.given.start; tree = option_map (λ b. b.now) c.args.given.tree } in
    let p = c.in_ok-instance.field-0 in
    let read = c.in_ok-instance.ensures.found in
    let start = c.in_ok-start.start in
    let at = c.in_ok-start.ensures.found in
    let x = c.in-Some.cert in
    let given : AreGiven t p (Some x) = record { instance = read; start = right_start p t.start start at; tree_text = rw c.in-Some.is at c.in_ok-cert.ensures.found } in
    let err = err_from_is_err_and c.from_residual-in_err-answer-2.result c.from_residual-in_err-answer-2.ensures.1 in
    rw (err.1, err.2) (fault_on t c.args.settings.now p (Some x) given _ _ _ _ c.settings_on-settings.result c.settings_on-settings.ensures c.in_err-answer-2.field-0.0
    (c.in_err-answer-2.ensures.solved c.args.text.now read))

pub returns : goal.returns
returns g c =
    let t : GivenTexts = record { instance = c.args.text.now; start = option_map (λ b. b.now) c.args.given.start; tree = option_map (λ b. b.now) c.args.given.tree } in
    let p = c.in_ok-instance.field-0 in
    let read = c.in_ok-instance.ensures.found in
    let start = c.in_ok-start.start in
    let at = c.in_ok-start.ensures.found in
    let x = c.in-Some.cert in
    let given : AreGiven t p (Some x) = record { instance = read; start = right_start p t.start start at; tree_text = rw c.in-Some.is at c.in_ok-cert.ensures.found } in
    answer_told t c.args.settings.now p (Some x) given _ _ _ _ c.in_ok-answer-2.answer
    (rw c.settings_on-settings.ensures at (c.in_ok-answer-2.ensures.solved c.args.text.now read))
    (no_worse p t.start start at c.in_ok-answer-2.answer c.in_ok-answer-2.ensures.at_most) c.in_ok-answer-2.ensures.no_lower
