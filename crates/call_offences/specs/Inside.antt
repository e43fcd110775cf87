-- Offences whose orders are in the order list, so that their findings can be made.
use Rattle.std.specs.Prelude.{List, All}
use Rattle.audit_base.specs.declared.orders.Order.{Order}
use Rattle.audit_base.specs.Flaws.{IsEvidenceInside}
use Rattle.offence_list.specs.declared.offences.ListedOffence.{ListedOffence}
use Rattle.offence_list.specs.ListedOffences.{flaw_of_offence}
use Rattle.call_offences.specs.declared.listing.Listing.{Listing}
use Rattle.call_offences.specs.declared.listing.Listing.TheVariants.{Alone, Listed}

-- the orders that an offence names are in the list
abbrev pub IsOffenceInside : List Order → ListedOffence → Type 0
IsOffenceInside orders o = IsEvidenceInside orders (flaw_of_offence o).evidence

-- those that each offence of a list names are
abbrev pub AreOffencesInside : List Order → List ListedOffence → Type 0
AreOffencesInside orders found = All (IsOffenceInside orders) found

-- the same of a listing
abbrev pub IsListingInside : List Order → Listing → Type 0
IsListingInside orders Alone = Unit {0}
IsListingInside orders (Listed found) = AreOffencesInside orders found.items
