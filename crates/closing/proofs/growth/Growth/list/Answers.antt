use Rattle.std.proofs.Common.{◌≡◌, refl, [], rules}
use Rattle.closing.proofs.Grown.{bare_node, leaf_grows}
use Rattle.closing.proofs.growth.Growth.list.Goals as goal

pub returns-clause-grows : goal.returns-clause-grows
returns-clause-grows c =
    let same : c.in_ok-customers.customers.items ≡ c.args.leaf.now.prices = search rules in
    let none : c.new-sets.result.items ≡ [] = search rules in
    let free : c.new-rows.result.items ≡ [] = search rules in
    leaf_grows c.args.leaf.now _ _ _ c.lesser-self.ensures.valued c.requires.no_sets c.requires.no_rows c.requires.own (record { instance = refl; limit = refl }) (bare_node _ _ _ _ same none free)
    c.in_ok-push.ensures.items c.requires.low c.lesser-self.ensures.least refl
