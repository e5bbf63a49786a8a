-- `index_sheet` has room for both tables: the fields of the sheet bound them.
use Rattle.tlv.proofs.PlaceFacts.{placed-start}
use Rattle.search_answers.proofs.SearchLaws.{units-fit, entries_fit, sheet-indexed}
use Rattle.search_answers.proofs.tables.index_sheet.Goals as goal

pub index_units-requires-clause-placed : goal.index_units-requires-clause-placed
index_units-requires-clause-placed c = search placed-start

pub index_units-requires-clause-records_fit : goal.index_units-requires-clause-records_fit
index_units-requires-clause-records_fit c = search units-fit

pub index_entries-requires-clause-placed : goal.index_entries-requires-clause-placed
index_entries-requires-clause-placed c = search placed-start

pub index_entries-requires-clause-records_fit : goal.index_entries-requires-clause-records_fit
index_entries-requires-clause-records_fit c = search entries_fit

pub returns : goal.returns
returns c = search sheet-indexed
