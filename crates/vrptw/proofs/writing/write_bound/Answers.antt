use Rattle.std.proofs.Common.{refl}
use Rattle.solomon_reader.specs.CertificateText.{certificate_text}
use Rattle.vrptw.proofs.TreeTexts.{bound_text}
use Rattle.vrptw.proofs.writing.write_bound.Goals as goal

pub returns-in-Ok : goal.returns-in-Ok
returns-in-Ok g c = record {
  text = certificate_text c.requires.certificate;
  is = bound_text c.args.instance.now c.args.settings.now c.args.cert.now c.requires;
  takes = c.in-Ok.ensures.text c.requires.certificate c.requires.is;
}

pub returns-in-Err : goal.returns-in-Err
returns-in-Err g c = (
  refl,
  record {
    text = certificate_text c.requires.certificate;
    is = bound_text c.args.instance.now c.args.settings.now c.args.cert.now c.requires;
    fails = c.in-Err.ensures.text c.requires.certificate c.requires.is;
  },
)
