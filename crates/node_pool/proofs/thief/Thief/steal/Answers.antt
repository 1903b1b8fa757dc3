use Rattle.node_pool.specs.Stealing.{IsStolen}
use Rattle.node_pool.proofs.Shares.{keeps_others, said_at}
use Rattle.node_pool.proofs.thief.Thief.steal.Goals as goal

pub returns-clause-others : goal.returns-clause-others
returns-clause-others c = keeps_others _ _ _

pub returns-clause-rule : goal.returns-clause-rule
returns-clause-rule c = said_at (λ old new. IsStolen old new c.steal_by.result) c.args.pass.now.passes.items c.args.self.now.number
    c.index_mut.result.now c.steal_by.new.pass c.requires.0 c.index_mut.ensures.value c.steal_by.ensures.rule
