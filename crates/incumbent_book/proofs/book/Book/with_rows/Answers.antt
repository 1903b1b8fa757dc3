use Rattle.std.proofs.Common.{◌≡◌, map, refl, rules}
use Rattle.priced_sets.specs.Sets.{listed_set}
use Rattle.solomon_reader.specs.Problem.{customer_count}
use Rattle.solomon_reader.specs.Region.{root_region}
use Rattle.incumbent_book.specs.Contents.{Lists, limits_of}
use Rattle.incumbent_book.specs.RowLists.{listed_row}
use Rattle.incumbent_book.specs.Replies.{AreOpen}
use Rattle.incumbent_book.proofs.Kept.{kept_new, kept_book}
use Rattle.incumbent_book.proofs.book.Book.with_rows.Goals as goal

pub invariant_of-result : goal.invariant_of-result
invariant_of-result c =
    let at : c.args.root.region ≡ root_region (customer_count c.args.root.problem) = search rules in
    let opens : AreOpen c.args.root (limits_of c.args.limits) c.args.sets c.args.rows = search rules in
    rw (c.new-bounded.ensures, c.instance.ensures, c.neighbours-neighbours.ensures.value, c.tenths-value.ensures.value, c.in-Ok.ensures.items, c.in-Ok-new.ensures.ok)
    (kept_new c.args.root (limits_of c.args.limits) c.args.sets c.args.rows _ at opens c.tenths-value.ensures.valued c.in-Ok-first_lists.ensures.sets c.in-Ok-first_lists.ensures.rows)

pub returns-in-Ok-new-clause-book : goal.returns-in-Ok-new-clause-book
returns-in-Ok-new-clause-book c = kept_book _ _ (invariant_of-result c)

pub returns-in-Ok-new-clause-opens : goal.returns-in-Ok-new-clause-opens
returns-in-Ok-new-clause-opens c =
    let at : c.args.root.region ≡ root_region (customer_count c.args.root.problem) = search rules in
    let opens : AreOpen c.args.root (limits_of c.args.limits) c.args.sets c.args.rows = search rules in
    let g = c.in-Ok-first_lists.ensures.sets in
    let r = c.in-Ok-first_lists.ensures.rows in
    let lists : Lists = record { sets = map listed_set c.in-Ok-first_lists.lists.0.items; rows = map listed_row c.in-Ok-first_lists.lists.1.items } in (
      at,
      opens,
      (
        lists,
        rw g.is g.listing,
        r.listing,
        rw (c.new-bounded.ensures, c.instance.ensures, c.neighbours-neighbours.ensures.value, c.tenths-value.ensures.value, c.in-Ok.ensures.items, c.in-Ok-new.ensures.ok) refl,
      ),
    )
