-- What texts say of certificates.
use Rattle.std.specs.Prelude.{◌≡◌, ◌≢◌, ℕ, List, ◌++◌, Err}
use Rattle.solomon_reader.specs.CertificateText.{Certificate, IsCertificate, certificate_text}
use Rattle.certificate.specs.declared.fault.CertFault.{CertFault}
use Rattle.certificate.specs.declared.fault.CertFault.TheVariants.{Truncated}
use Rattle.certificate.specs.Reading.{reading}

abbrev pub TextsDiffer : Type 0
TextsDiffer = (c d : Certificate) → IsCertificate c → IsCertificate d → certificate_text c ≡ certificate_text d → c ≡ d

-- A fault that the first bytes show, other than that they end, is the fault of all bytes, however they go on. So the fault that is told is the first from the left.
abbrev pub FirstFaultStays : Type 0
FirstFaultStays = (front back : List ℕ) (e : CertFault) → reading front ≡ Err e → e ≢ Truncated → reading (front ++ back) ≡ Err e
