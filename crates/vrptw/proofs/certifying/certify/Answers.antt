use Rattle.std.proofs.Common.{◌≡◌, refl, subst, sym, ◌∙◌, arith}
use Rattle.std.specs.Prelude.{map}
use Rattle.solomon_reader.specs.CertificateText.{Content, HasText}
use Rattle.priced_sets.specs.Sets.{listed_set}
use Rattle.incumbent_book.specs.Contents.{listed_by, version_of}
use Rattle.incumbent_book.specs.RowLists.{listed_row}
use Rattle.vrptw.specs.Certified.{IsCertified}
use Rattle.vrptw.proofs.TreeTexts.{content, certified}
use Rattle.vrptw.proofs.certifying.certify.Goals as goal

pub returns-in-Ok-clause-certified : goal.returns-in-Ok-clause-certified
returns-in-Ok-clause-certified c =
    let p = c.args.instance.now in
    let settings = c.args.settings.now in
    let sets = map listed_set c.args.sets.items in
    let rows = map listed_row c.args.rows.items in
    let tree = c.requires.tree in
    let nodes = c.in_ok-certificate_nodes.ensures ∙ tree.tree.listed in
    let same : c.in-Ok.cert ≡ content (version_of settings.sets sets settings.rows rows) p settings.neighbours c.args.bound tree.tree.tree =
    rw (c.in-Ok.ensures.holds, c.in_ok-version_for.ensures, c.in_ok-from_slice.ensures.items, c.name.ensures, c.customer_count.ensures.value, nodes) refl in
    subst (λ (x : Content). IsCertified p settings x) (sym same)
    (certified p settings (listed_by sets rows) c.args.bound c.args.nodes.items tree c.law_of_limits.ensures.limits c.requires.few
    (omega (arith, c.get-within.ensures.value, c.get-within.ensures.within)) c.requires.most)

pub unreachable-requires : goal.unreachable-requires
unreachable-requires c =
    let p = c.args.instance.now in
    let settings = c.args.settings.now in
    let sets = map listed_set c.args.sets.items in
    let rows = map listed_row c.args.rows.items in
    let tree = c.requires.tree in
    let nodes = c.in_ok-certificate_nodes.ensures ∙ tree.tree.listed in
    let is = certified p settings (listed_by sets rows) c.args.bound c.args.nodes.items tree c.law_of_limits.ensures.limits c.requires.few
    (omega (arith, c.get-within.ensures.value, c.get-within.ensures.within)) c.requires.most in
    let text : HasText (content (version_of settings.sets sets settings.rows rows) p settings.neighbours c.args.bound tree.tree.tree) = record { certificate = is.certificate; shaped = is.shaped; is = is.is } in
    let no = c.in-Err.ensures.refused c.in-NotACertificate.is in
    no (rw (c.in_ok-version_for.ensures, c.in_ok-from_slice.ensures.items, c.name.ensures, c.customer_count.ensures.value, nodes) text)
