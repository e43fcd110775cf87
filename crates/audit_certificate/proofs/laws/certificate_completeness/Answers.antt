use Rattle.audit_certificate.proofs.CertifyLemmas.{completeness}
use Rattle.audit_certificate.proofs.laws.certificate_completeness.Goals as goal

pub returns : goal.returns
returns c = completeness c.greatest_matching_reaches_the_least_cut.ensures c.short_orders_do_not_meet.ensures c.extremes_exist.ensures.cut
