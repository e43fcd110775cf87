-- The case is in the rows of its table, and its digests in those of theirs.
use Rattle.std.proofs.Common.{arith, inr, sym, ap, ◌∙◌, subst, Err}
use Rattle.std.proofs.lemmas.Result.{err_from_is_err_and}
use Rattle.case_sqlite.specs.CaseRows.{rows_of_case}
use Rattle.case_sqlite.specs.Statements.{find_text}
use Rattle.digest_sqlite.specs.DigestRuns.{ShowsIfThere}
use Rattle.digest_sqlite.specs.DigestStatements.{cases_table}
use Rattle.digest_sqlite.proofs.FoundLemmas.{failed_too, finds_none, finds_both}
use Rattle.digest_sqlite.proofs.sql_digest_keeper.find_both.Goals as goal

pub returns-in_default-clause-shown : goal.returns-in_default-clause-shown
returns-in_default-clause-shown g c clean =
    finds_none g.S.Store c.args.label.now c.in_ok-found.found c.args.connection.now c.find_case.new.connection c.in_default.is (c.in_ok-found.ensures.shown clean)

pub returns-clause-shown : goal.returns-clause-shown
returns-clause-shown g c clean =
    finds_both g.S.Store c.args.label.now c.in_ok-found.found c.args.connection.now c.find_case.new.connection c.find_digests.new.connection c.in-Some.case c.in_ok-digests.digests c.in-Some.is
    (c.in_ok-found.ensures.shown (omega (arith, clean, c.find_digests.ensures.clean))) (c.in_ok-digests.ensures.shown clean)

pub returns-in_err-digests-clause-cause : goal.returns-in_err-digests-clause-cause
returns-in_err-digests-clause-cause g c clean failed =
    let shown = c.in_ok-found.ensures.shown (omega (arith, clean, c.find_digests.ensures.clean)) in
    let refused = err_from_is_err_and c.from_residual-in_err-digests.result c.from_residual-in_err-digests.ensures.1 in
    let is = sym (refused.1 ∙ ap Err refused.2) ∙ failed in
    inr (
      c.find_case.new.connection,
      c.in-Some.case,
      subst (λ found. ShowsIfThere g.S.Store cases_table find_text c.args.label.now c.args.connection.now c.find_case.new.connection (rows_of_case found)) c.in-Some.is shown,
      c.in_err-digests.ensures.cause clean (failed_too _ is),
    )
