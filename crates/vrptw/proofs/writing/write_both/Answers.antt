use Rattle.std.proofs.Common.{◌<◌, refl, ap}
use Rattle.solomon_reader.specs.Bound.{ceiling_of}
use Rattle.solomon_reader.specs.CertificateText.{Content}
use Rattle.vrptw.proofs.TreeTexts.{no_plan}
use Rattle.vrptw.proofs.writing.write_both.Goals as goal

pub returns-then-get : goal.returns-then-get
returns-then-get g c =
    let p = c.args.instance.now in
    let above : ceiling_of p < c.args.cert.now.bound =
    rw (c.get-in_default.ensures.value, c.ceiling.ensures.value, c.get.ensures.value, ap (λ (x : Content). x.bound) c.parts.ensures.value) at c.if-get.true in
    let both = no_plan p c.args.settings.now c.args.cert.now c.requires.certified _ _ above c.in_ok-write_bound.ensures in
    ((refl, both.0, both.1), tt)
