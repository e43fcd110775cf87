use Rattle.std.proofs.Common.{Global, Vec}
use Rattle.std.proofs.lemmas.Result.{err_from_is_err_and}
use Rattle.fix_fields.specs.declared.field.Field.{Field}
use Rattle.fix_fields.specs.declared.field.FieldFault.TheVariants as fault
use Rattle.fix_fields.proofs.LawLemmas.{Fields-only}
use Rattle.fix_fields.proofs.RefusalLemmas.{refused_alike, never_refused}
use Rattle.fix_fields.proofs.split.fields.Goals as goal

pub returns-in_err-read_fields-clause-reads : goal.returns-in_err-read_fields-clause-reads
returns-in_err-read_fields-clause-reads c =
    let p = err_from_is_err_and c.from_residual.result c.from_residual.ensures.1 in
    rw (p.1, p.2) (λ fs is. never_refused (Unit {0}) (Vec Field Global) c.in_err-read_fields.field-0.0 _ (c.in_err-read_fields.ensures.reads fs is))

pub returns-in_err-read_fields-clause-unreadable : goal.returns-in_err-read_fields-clause-unreadable
returns-in_err-read_fields-clause-unreadable c =
    let p = err_from_is_err_and c.from_residual.result c.from_residual.ensures.1 in
    rw (p.1, p.2) (λ n is. refused_alike _ _ c.in_err-read_fields.field-0.0 (fault.Field n) (c.in_err-read_fields.ensures.unreadable n is))

pub returns-clause-reads : goal.returns-clause-reads
returns-clause-reads c =
    λ fs is. Fields-only c.args.body.now _ fs c.in_ok-read_fields.ensures.fields.read is

pub returns-clause-unreadable : goal.returns-clause-unreadable
returns-clause-unreadable c =
    λ n is. let e = c.in_ok-read_fields.ensures.unreadable n is in (cc)
