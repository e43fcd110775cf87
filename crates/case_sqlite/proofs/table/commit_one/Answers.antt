-- The statement ran inside, and what it left was committed.
use Rattle.std.proofs.Common.{ap, ◌∙◌, arith, rules}
use Rattle.std.specs.Prelude.{OnOk}
use Rattle.sqlite.specs.Effect.{Database}
use Rattle.sqlite.specs.Held.{state}
use Rattle.sqlite.specs.State.{HasCleanDisk}
use Rattle.sqlite.specs.Values.{bound}
use Rattle.sqlite.proofs.StateLemmas.{survives_then}
use Rattle.sqlite.proofs.Callers.{survives_begin}
use Rattle.sqlite.specs.State.{Survives}
use Rattle.case_sqlite.specs.Runs.{MakesTrees, RunsCommitted}
use Rattle.case_sqlite.proofs.RunLemmas.{on_ok_then, moved}
use Rattle.case_sqlite.proofs.table.commit_one.Goals as goal

pub returns-clause-committed : goal.returns-clause-committed
returns-clause-committed g c clean =
    let old = c.args.connection.now in
    let end = c.commit.new.self.0 in
    let begun = c.transaction-transaction.ensures.begun in
    let late : HasCleanDisk (state g.S.Store end) = search rules in
    let one = c.in_ok-execute.ensures.runs (omega (arith, c.commit.ensures.survives.clean)) (rw begun) in
    moved (λ h. OnOk c.commit.result (RunsCommitted g.S.Store c.args.sql.now (bound c.args.values.now) old h)) end _ (search rules)
    (on_ok_then c.commit.result (c.commit.ensures.ok late) (λ ok. record {
      inside = c.execute.new.self.conn.now;
      count = c.in_ok-execute.field-0;
      ran = rw begun at one.0;
      now = ok.1.now_is;
      committed = ok.1.committed_is;
      is_open = ok.1.is_open;
      lasts = (λ db may. g.met.S.Store.settled end.store db ok.1.is_open may ∙ ap (λ (d : Database). d.trees) ok.1.committed_is);
    }))

pub returns-clause-survives : goal.returns-clause-survives
returns-clause-survives g c =
    let old = c.args.connection.now in
    let mid = c.execute.new.self.conn.now in
    let end = c.commit.new.self.0 in
    let begun = c.transaction-transaction.ensures.begun in
    let P = MakesTrees g.S.Store c.args.sql.now (bound c.args.values.now) old in
    let ran = λ (clean : HasCleanDisk (state g.S.Store end)).
    let one = c.in_ok-execute.ensures.runs (omega (arith, c.commit.ensures.survives.clean)) (rw begun) in
    rw begun at one.0 in
    moved (λ h. Survives (state g.S.Store old) (state g.S.Store h) P) end c.connection-2-1.given.0 (search rules)
    (survives_then (state g.S.Store old) (state g.S.Store mid) (state g.S.Store end) (λ _. ⊥) _ P (λ _ db none. absurd none)
    (λ clean db is. record { inside = mid; count = c.in_ok-execute.field-0; ran = ran clean; trees = is })
    (survives_begin g.S.Store old (state g.S.Store mid) (λ _. ⊥) (rw begun at c.execute.ensures.survives)) c.commit.ensures.survives)
