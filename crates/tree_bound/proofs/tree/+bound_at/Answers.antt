use Rattle.std.proofs.Common.{◌≡◌, ◌∙◌, ◌∷◌, ◌++◌, false, List, [], length, ap, arith}
use Rattle.solomon_reader.specs.CertificateText.{depth_of}
use Rattle.certificate.specs.declared.tree.CertTree.{CertTree}
use Rattle.leaf_arcs.specs.declared.decision.Decision.{Decision}
use Rattle.certificate.specs.Grown.{tree_of}
use Rattle.tree_bound.proofs.Bounding.{restored, leaf_at, leaf_bound_at, used_at, unused_at, split_at}
use Rattle.certificate.specs.Tree.{leaf_prices_of}
use Rattle.tree_bound.specs.Settings.{neighbours_in, problem_in, version_in}
use Rattle.tree_bound.proofs.tree.+bound_at.Goals as goal

pub bound_at_leaf-requires : goal.bound_at_leaf-requires
bound_at_leaf-requires t c = record {
  shaped = leaf_at (version_in c.args.setting.now) (problem_in c.args.setting.now) (neighbours_in c.args.setting.now) c.args.path.now.items
      (leaf_prices_of c.in-Leaf.prices.now c.in-Leaf.set_prices.now c.in-Leaf.row_prices.now) (rw c.in-Leaf.is at c.requires.shaped);
}

pub returns-in_ok-found-in-Leaf-clause-bound : goal.returns-in_ok-found-in-Leaf-clause-bound
returns-in_ok-found-in-Leaf-clause-bound t c = rw c.in-Leaf.is
    (leaf_bound_at (version_in c.args.setting.now) (problem_in c.args.setting.now) (neighbours_in c.args.setting.now) c.args.path.now.items
    (leaf_prices_of c.in-Leaf.prices.now c.in-Leaf.set_prices.now c.in-Leaf.row_prices.now) c.args.most c.in_ok-found-in-Leaf.found.bound (omega (arith, c.requires.most, c.args.setting.now.most_is))
    (rw c.as_slice.ensures.value at c.in_ok-found-in-Leaf.ensures))

pub bound_at-requires : goal.bound_at-requires
bound_at-requires t c =
    let split = ap (λ (x : CertTree). depth_of (tree_of x)) c.in-Split.is in (
      rw c.deref.ensures (omega (arith, split)),
      (
        c.requires.most,
        rw (c.in_ok-decide-in-Split.ensures, c.deref.ensures)
            (used_at (version_in c.args.setting.now) (problem_in c.args.setting.now) (neighbours_in c.args.setting.now) c.args.path.now.items
            c.in-Split.from c.in-Split.to (tree_of c.in-Split.used.value) (tree_of c.in-Split.unused.value) (rw c.in-Split.is at c.requires.shaped)),
      ),
    )

pub bound_at-requires-in-Split : goal.bound_at-requires-in-Split
bound_at-requires-in-Split t c =
    let count : c.len-depth.result ≡ length c.args.path.now.items = omega arith in
    let back = restored c.args.path.now.items c.bound_at.new.path.items c.truncate.new.self.items c.len-depth.result _ count
    (c.in_ok-first-in-Split.ensures.path ∙ c.in_ok-decide-in-Split.ensures) c.truncate.ensures.items in
    let split = ap (λ (x : CertTree). depth_of (tree_of x)) c.in-Split.is in (
      rw c.deref-in-Split.ensures (omega (arith, split)),
      (
        omega (arith, c.requires.most, c.in_ok-first-in-Split.ensures.less),
        rw (c.in_ok-decide-in-Split-2.ensures, back, c.deref-in-Split.ensures)
            (unused_at (version_in c.args.setting.now) (problem_in c.args.setting.now) (neighbours_in c.args.setting.now) c.args.path.now.items
            c.in-Split.from c.in-Split.to (tree_of c.in-Split.used.value) (tree_of c.in-Split.unused.value) (rw c.in-Split.is at c.requires.shaped)),
      ),
    )

pub returns-in_ok-second-in-Split-clause-path : goal.returns-in_ok-second-in-Split-clause-path
returns-in_ok-second-in-Split-clause-path t c =
    let count : c.len-depth.result ≡ length c.args.path.now.items = omega arith in
    let back = restored c.args.path.now.items c.bound_at.new.path.items c.truncate.new.self.items c.len-depth.result _ count
    (c.in_ok-first-in-Split.ensures.path ∙ c.in_ok-decide-in-Split.ensures) c.truncate.ensures.items in
    restored c.args.path.now.items c.bound_at-in-Split.new.path.items c.truncate-in-Split.new.self.items c.len-depth.result _ count
    (c.in_ok-second-in-Split.ensures.path ∙ (c.in_ok-decide-in-Split-2.ensures
    ∙ ap (λ (ds : List Decision). ds ++ (record { from = c.in-Split.from; to = c.in-Split.to; required = false } ∷ [])) back)) c.truncate-in-Split.ensures.items

pub returns-in_ok-second-in-Split-clause-bound : goal.returns-in_ok-second-in-Split-clause-bound
returns-in_ok-second-in-Split-clause-bound t c =
    let count : c.len-depth.result ≡ length c.args.path.now.items = omega arith in
    let back = restored c.args.path.now.items c.bound_at.new.path.items c.truncate.new.self.items c.len-depth.result _ count
    (c.in_ok-first-in-Split.ensures.path ∙ c.in_ok-decide-in-Split.ensures) c.truncate.ensures.items in
    rw c.in-Split.is (split_at (version_in c.args.setting.now) (problem_in c.args.setting.now) (neighbours_in c.args.setting.now) c.args.path.now.items
    c.in-Split.from c.in-Split.to (tree_of c.in-Split.used.value) (tree_of c.in-Split.unused.value) (rw c.in-Split.is at c.requires.shaped)
    c.args.most c.in_ok-first-in-Split.first.bound c.in_ok-second-in-Split.second.bound
    (rw (c.in_ok-decide-in-Split.ensures, c.deref.ensures) at c.in_ok-first-in-Split.ensures.bound)
    (rw (c.in_ok-decide-in-Split-2.ensures, back, c.deref-in-Split.ensures) at c.in_ok-second-in-Split.ensures.bound))
