use Rattle.std.proofs.Common.{◌≡◌, ◌∙◌, ◌<◌, ap, sym, subst, length, slice_index_or, arith}
use Rattle.node_pool.specs.declared.law.Known.{Known}
use Rattle.node_pool.specs.Deques.{Deque, FitsAt, KeepsOthers}
use Rattle.node_pool.specs.Ends.{deque_of}
use Rattle.node_pool.proofs.Shares.{any_default, one_swept, keeps_others, known_at, taken_more}
use Rattle.node_pool.proofs.hand.Hand.take_all_back.Goals as goal

pub loop-pass-preserved : goal.loop-pass-preserved
loop-pass-preserved c =
    let was = c.loop-pass.invariant in
    let i = c.loop-pass.pass-index in
    let test = c.loop-pass-test.true in
    let long = c.loop-pass.auto.passes in
    let inside : i < length c.loop-pass.passes = omega arith in
    let low : i < length c.args.passes.now = omega arith in
    let pass = slice_index_or c.loop-pass.passes i c.pass-item.result in
    let is : pass ≡ slice_index_or c.args.passes.now i pass =
    any_default (KeepsOthers c.args.self.now.number) c.loop-pass.passes i c.pass-item.result pass inside ∙ was.5.later i pass (omega arith) in
    let number = ap (λ (d : Deque). d.0) was.0 in
    let fits = subst (FitsAt (deque_of c.args.self.now)) (sym is) (c.requires.fits i pass low) in
    let at = known_at pass.passes.items c.args.self.now.number c.index_mut.result.now fits.0 (c.index_mut.ensures.value
    ∙ ap (λ n. slice_index_or pass.passes.items n c.index_mut.result.now) number) in
    let fewer = c.take_back.ensures.others in
    let before = was.2 in (
      c.take_back.ensures.same.0 ∙ was.0,
      c.take_back.ensures.same.1 ∙ was.1,
      omega arith,
      ap (λ (v : Known). v.pushed) c.take_back.ensures.knows ∙ was.3,
      ap (λ (v : Known). v.taken) c.take_back.ensures.knows ∙ taken_more (deque_of c.args.self.now) c.args.passes.now i pass _ _ _ low is was.4 (ap (λ (v : Known). v.taken) (sym at)),
      one_swept (KeepsOthers c.args.self.now.number) c.args.passes.now c.loop-pass.passes i c.pass-item.result _ inside
          (λ d apart. keeps_others pass.passes.items c.loop-pass.self.number c.take_back.new.pass d (λ e. apart (e ∙ number)))
          was.5,
    )

pub returns-clause-others : goal.returns-clause-others
returns-clause-others c k p low = let reached = c.loop-pass-test.false in c.loop-pass.invariant.5.earlier k p (omega arith)
