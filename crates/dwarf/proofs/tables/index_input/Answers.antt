-- `tables::index_input` meets its contract: the units' table ends where the entries' begins.
use Rattle.tlv.proofs.PlaceFacts.{placed-start}
use Rattle.dwarf.proofs.tables.IndexingLaws.{indexes-input}
use Rattle.dwarf.proofs.tables.index_input.Goals as goal

pub index_units-requires-clause-placed : goal.index_units-requires-clause-placed
index_units-requires-clause-placed c = placed-start _ c.requires.accepted.number c.requires.accepted.is

pub index_entries-requires-clause-placed : goal.index_entries-requires-clause-placed
index_entries-requires-clause-placed c = placed-start _ c.requires.accepted.number c.requires.accepted.is

pub returns : goal.returns
returns c = indexes-input _ c.requires.accepted c.requires.units_fit c.requires.entries_fit c.index_units.ensures.indexed c.index_entries.ensures.indexed
    c.index_units.ensures.based c.index_entries.ensures.based
