use Rattle.page_parts.proofs.verdict_pages.with_evidence.Goals as goal

pub returns-in_ok-table-in-Some : goal.returns-in_ok-table-in-Some
returns-in_ok-table-in-Some c =
    rw c.in-Some.is (rw c.in_ok-table-in-Some.ensures at c.with_section.ensures)
