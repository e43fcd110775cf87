use Rattle.std.proofs.Common.{List, ℕ, ◌++◌, ap, ◌∙◌, subst, sym}
use Rattle.std.specs.Prelude.{IsTrue}
use Rattle.std.specs.List.{flat_map}
use Rattle.page_markup.specs.Addresses.{is_relative}
use Rattle.day_page.specs.FileNames.{address_byte}
use Rattle.day_page.proofs.RelativeLemmas.{address-relative}
use Rattle.day_page.proofs.file_names.page_address.Goals as goal

pub returns-clause-relative : goal.returns-clause-relative
returns-clause-relative c =
    let behind = ap (λ (t : List ℕ). t ++ flat_map address_byte c.deref.result.now) c.new-address.ensures.items in
    let name = ap (flat_map address_byte) c.deref.ensures.value in
    subst (λ (t : List ℕ). IsTrue (is_relative t)) (sym (c.in_ok-append_address.ensures ∙ behind ∙ name)) (address-relative c.in_ok-name.name.items c.in_ok-name.ensures.relative)
