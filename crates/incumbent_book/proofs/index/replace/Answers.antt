use Rattle.incumbent_book.proofs.Entries.{with_incumbent}
use Rattle.incumbent_book.proofs.index.replace.Goals as goal

pub returns-clause-ok : goal.returns-clause-ok
returns-clause-ok c = λ q. with_incumbent c.args.old c.args.new q _ _ _ c.requires (c.in_ok-put_in.ensures.ok q) (c.take_out.ensures q)
