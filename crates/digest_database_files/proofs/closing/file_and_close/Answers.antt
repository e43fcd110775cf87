use Rattle.std.proofs.Common.{rules}
use Rattle.std.specs.Prelude.{option_map}
use Rattle.digest_database_files.proofs.closing.file_and_close.Goals as goal
use Rattle.digest_database_files.proofs.closing.file_and_close.Goals.{in-Some, in_default}

-- what words ask for is left as it is said: only the close is looked at
pub returns : goal.returns
returns g c = elim c.match-keeper.branch [
  | in-Some w ↦ record {
    left = c.run_filing_seeded-status.new.opener;
    keeper = option_map g.O.Book.DigestKeeper.state c.run_filing_seeded-status.result.back.keeper;
    files = c.run_filing_seeded-status.ensures.files;
    closed = search rules;
    stays = search rules;
    opener = search rules;
    sink = c.run_filing_seeded-status.ensures.sink;
  }
  | in_default w ↦ record {
    left = c.run_filing_seeded-status.new.opener;
    keeper = option_map g.O.Book.DigestKeeper.state c.run_filing_seeded-status.result.back.keeper;
    files = c.run_filing_seeded-status.ensures.files;
    closed = search rules;
    stays = search rules;
    opener = search rules;
    sink = c.run_filing_seeded-status.ensures.sink;
  }
]
