use Rattle.solomon_reader.specs.CustomerSets.{IsQuickest}
use Rattle.set_needs.proofs.Leaving.{latest_home}
use Rattle.set_needs.proofs.latest.latest_return.Goals as goal

pub returns : goal.returns
returns c =
    let quickest : IsQuickest c.args.instance.now c.args.from 0 c.get.result = rw c.requires.ways at c.get.ensures.quickest in
    latest_home c.args.instance.now c.args.from c.get.result quickest c.checked_sub.result (rw (c.due.ensures.value, c.from.ensures) at c.checked_sub.ensures)
