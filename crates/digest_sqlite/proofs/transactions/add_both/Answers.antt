-- First the case, then its digests.
use Rattle.std.proofs.lemmas.Result.{err_from_is_err_and}
use Rattle.std.proofs.Common.{[], ◌∷◌}
use Rattle.digest_sqlite.specs.DigestStatements.{adding_case, adding_digests}
use Rattle.digest_sqlite.proofs.InsideLemmas.{inside_then, stops_before, survives_both}
use Rattle.digest_sqlite.proofs.transactions.add_both.Goals as goal

pub returns-clause-inside : goal.returns-clause-inside
returns-clause-inside g c =
    inside_then g.S.Store (λ _. ⊥) (adding_case c.args.digested.now ∷ []) (adding_digests c.args.digested.now ∷ []) _ _ _ c.add_digests.result
    c.in_ok-add_case.ensures.inside c.add_digests.ensures.survives c.add_digests.ensures.inside

pub returns-clause-survives : goal.returns-clause-survives
returns-clause-survives g c = survives_both _ _ _ c.add_case.ensures.survives c.add_digests.ensures.survives

pub returns-in_err-add_case-clause-inside : goal.returns-in_err-add_case-clause-inside
returns-in_err-add_case-clause-inside g c clean began =
    let refused = err_from_is_err_and c.from_residual.result c.from_residual.ensures.1 in
    rw (refused.1, refused.2) (stops_before g.S.Store (adding_case c.args.digested.now ∷ []) (adding_digests c.args.digested.now ∷ []) c.args.transaction.now.conn.now c.add_case.new.transaction.conn.now _ (c.in_err-add_case.ensures.inside clean began))
