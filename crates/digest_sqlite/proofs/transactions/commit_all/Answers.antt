-- All statements ran inside, and what they left was committed.
use Rattle.std.proofs.lemmas.Result.{IfErr-weaker}
use Rattle.std.proofs.Common.{inr, ap, ◌∙◌, arith, rules}
use Rattle.std.specs.Prelude.{OnOk}
use Rattle.case_sqlite.proofs.RunLemmas.{on_ok_then, moved}
use Rattle.sqlite.specs.Effect.{Database}
use Rattle.sqlite.specs.Held.{state}
use Rattle.sqlite.specs.State.{HasCleanDisk, Survives}
use Rattle.sqlite.proofs.Callers.{survives_begin}
use Rattle.sqlite.proofs.StateLemmas.{survives_then}
use Rattle.digest_sqlite.specs.DigestRuns.{MakesTreesTogether, RunsTogether}
use Rattle.digest_sqlite.specs.DigestStatements.{filing_statements}
use Rattle.digest_sqlite.proofs.transactions.commit_all.Goals as goal

pub returns-clause-committed : goal.returns-clause-committed
returns-clause-committed g c clean =
    let old = c.args.connection.now in
    let end = c.commit.new.self.0 in
    let begun = c.transaction-transaction.ensures.begun in
    let late : HasCleanDisk (state g.S.Store end) = search rules in
    let all = c.in_ok-fill.ensures.inside (omega (arith, c.commit.ensures.survives.clean)) (rw begun) in
    moved (λ h. OnOk c.commit.result (RunsTogether g.S.Store (filing_statements c.args.filed.now) old h)) end _ (search rules)
    (on_ok_then c.commit.result (c.commit.ensures.ok late) (λ ok. record {
      inside = c.fill.new.transaction.conn.now;
      ran = rw begun at all.ran;
      now = ok.1.now_is;
      committed = ok.1.committed_is;
      is_open = ok.1.is_open;
      lasts = (λ db may. g.met.S.Store.settled end.store db ok.1.is_open may ∙ ap (λ (d : Database). d.trees) ok.1.committed_is);
    }))

pub returns-clause-survives : goal.returns-clause-survives
returns-clause-survives g c =
    let old = c.args.connection.now in
    let mid = c.fill.new.transaction.conn.now in
    let end = c.commit.new.self.0 in
    let begun = c.transaction-transaction.ensures.begun in
    let P = MakesTreesTogether g.S.Store (filing_statements c.args.filed.now) old in
    let ran = λ (clean : HasCleanDisk (state g.S.Store end)).
    let all = c.in_ok-fill.ensures.inside (omega (arith, c.commit.ensures.survives.clean)) (rw begun) in
    rw begun at all.ran in
    moved (λ h. Survives (state g.S.Store old) (state g.S.Store h) P) end c.connection-2-1.given.0 (search rules)
    (survives_then (state g.S.Store old) (state g.S.Store mid) (state g.S.Store end) (λ _. ⊥) _ P (λ _ db none. absurd none)
    (λ clean db is. record { inside = mid; ran = ran clean; trees = is })
    (survives_begin g.S.Store old (state g.S.Store mid) (λ _. ⊥) (rw begun at c.fill.ensures.survives)) c.commit.ensures.survives)

pub returns-clause-cause : goal.returns-clause-cause
returns-clause-cause g c clean =
    let end = c.commit.new.self.0 in
    let begun = c.transaction-transaction.ensures.begun in
    let late : HasCleanDisk (state g.S.Store end) = search rules in
    let all = c.in_ok-fill.ensures.inside (omega (arith, c.commit.ensures.survives.clean)) (rw begun) in
    IfErr-weaker c.commit.result _ _
    (λ error failed. inr (record { inside = c.fill.new.transaction.conn.now; ran = rw begun at all.ran; new = end; is = failed }))
    (c.commit.ensures.err late)
