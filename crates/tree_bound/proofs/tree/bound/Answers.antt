use Rattle.certificate.specs.Grown.{tree_of}
use Rattle.tree_bound.proofs.Bounding.{whole_bound}
use Rattle.tree_bound.proofs.tree.bound.Goals as goal

pub bound_at-requires-clause-shaped : goal.bound_at-requires-clause-shaped
bound_at-requires-clause-shaped c =
    rw (c.in_ok-setting.ensures.instance, c.in_ok-setting.ensures.version, c.new-path.ensures.items) (rw c.requires.size at c.in_ok-tree.ensures.shaped)

pub returns : goal.returns
returns c = record {
  bound = λ tree e. let same = c.in_ok-tree.ensures.only tree e in
      rw (c.from.ensures, same) (whole_bound c.args.cert.now.version c.args.instance.now c.args.cert.now.neighbours (tree_of c.in_ok-tree.tree) _ _
      (rw c.in_ok-setting.ensures.instance at c.in_ok-setting.setting.most_is)
      (rw (c.in_ok-setting.ensures.instance, c.new-path.ensures.items, c.in_ok-setting.ensures.version, c.in_ok-setting.ensures.k) at c.in_ok-whole.ensures.bound));
}
