-- Contract. A subprogram's entry, and where the entries below it begin.
use Rattle.std.specs.Prelude.{◌≡◌, List, ℕ, ◌+◌}
use Rattle.tlv.specs.Tags.{entry_whole}
use Rattle.tlv.specs.Checked.{Placed}
use Rattle.references.specs.Tables.{EntryKnown}
use Rattle.dies.specs.Details.{EntriesKnown, entries_from}
use Rattle.subprograms.specs.declared.model.Subprogram.{Subprogram}

-- a field of the sheet stands at place p, and what stands from there on belongs to the unit
-- Stays a clause: it holds which field of the sheet stands at the place, so it is no proposition that a ghost field takes.
abbrev pub FieldsKnown : List ℕ → ℕ → ℕ → Type 0
FieldsKnown s unit p = (Placed s p) × EntriesKnown s unit p

-- from place r on stand the same entries of the unit as from place p on
pub record BeginsAt (s : List ℕ) (unit p r : ℕ) : Type 0 where
  pub placed : Placed s r
  pub known : EntriesKnown s unit r
  pub same : entries_from s r ≡ entries_from s p

-- its entry stands in the unit, and the entries below it follow from `below` on
-- Stays a clause: it holds which entry of the index stands at the place, so it is no proposition that a ghost field takes.
pub record SubprogramIn (s : List ℕ) (unit : ℕ) (x : Subprogram) : Type 0 where
  pub entry : EntryKnown s unit x.place
  pub below : BeginsAt s unit (x.place + entry_whole) x.below
