use Rattle.fix_fields.proofs.LawLemmas.{one_place, fields_are_readable, fields_are_typed, untyped_is_readable}
use Rattle.fix_fields.proofs.laws.one_answer_for_a_body.Goals as goal

pub returns-clause-place : goal.returns-clause-place
returns-clause-place c = one_place

pub returns-clause-readable : goal.returns-clause-readable
returns-clause-readable c = fields_are_readable

pub returns-clause-typed : goal.returns-clause-typed
returns-clause-typed c = fields_are_typed

pub returns-clause-untyped : goal.returns-clause-untyped
returns-clause-untyped c = untyped_is_readable
