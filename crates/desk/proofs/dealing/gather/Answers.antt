use Rattle.std.proofs.Common.{◌≡◌, arith, sym, ◌∙◌, ap, vec_len}
use Rattle.std.proofs.lemmas.List.{nil_from_length}
use Rattle.desk.specs.Account.{tally_of_shares}
use Rattle.desk.specs.Holding.{Holding}
use Rattle.desk.proofs.Tallies.{gather_first, gather_more, gather_all, holding}
use Rattle.desk.proofs.dealing.gather.Goals as goal

pub loop-share-init : goal.loop-share-init
loop-share-init g c =
    let tokens = c.into_tokens-tokens.ensures in
    (omega (arith, ap (λ (t : Holding). t.parts) tokens, c.in-Some.ensures.cases), rw tokens (gather_first c.args.shares.items c.pop.new.self.items c.in-Some.last c.in-Some.ensures.items))

pub loop-share-preserved : goal.loop-share-preserved
loop-share-preserved g c =
    let merged = ap (λ (t : Holding). t.parts) c.merge.ensures in
    let tokens = ap (λ (t : Holding). t.parts) c.into_tokens.ensures in (
      omega (arith, merged, tokens, c.loop-share.invariant.0, c.in-Some-pop.ensures.cases),
      rw (c.merge.ensures, c.into_tokens.ensures)
          (gather_more c.loop-share.shares.items c.pop-in-loop-share.new.self.items c.in-Some-pop.share c.loop-share.tokens.tally c.in-Some-pop.ensures.items ∙ c.loop-share.invariant.1),
    )

pub returns : goal.returns
returns g c =
    let none = nil_from_length c.loop-share.shares.items (omega (arith, c.loop-share.shares.ok, c.in_default-pop.ensures.cases)) in
    let parts : c.loop-share.tokens.parts ≡ vec_len c.args.shares = omega (arith, c.loop-share.invariant.0, c.in_default-pop.ensures.cases) in
    holding c.loop-share.tokens (vec_len c.args.shares) (tally_of_shares c.args.shares.items) parts
    (sym (gather_all c.loop-share.shares.items c.loop-share.tokens.tally none) ∙ c.loop-share.invariant.1)
