-- Theorem. Demand 3, as far as rows go: rows stay in the function, never fall in address, never repeat a neighbour.
use Rattle.std.specs.Prelude.{ℕ, ◌≤◌, ◌≡◌, List, [], ◌∷◌}
use Rattle.tlv.specs.declared.model.AddressRange.{AddressRange}
use Rattle.tlv.specs.declared.model.LineEntry.{LineEntry}
use Rattle.tlv.specs.Addresses.{RangeHolds}
use Rattle.tlv.specs.Lists.{All}

-- the first row's address is at least a, and each later one's at least the one's before it
abbrev pub Rising : ℕ → List LineEntry → Type 0
Rising a [] = Unit {0}
Rising a (l ∷ ls) = (a ≤ l.address) × Rising l.address ls

abbrev pub Repeats : LineEntry → LineEntry → Type 0
Repeats x y = (x.file ≡ y.file) × (x.line ≡ y.line)

-- no row repeats the file and line of the one before it
abbrev pub Distinct : List LineEntry → Type 0
Distinct [] = Unit {0}
Distinct (x ∷ []) = Unit {0}
Distinct (x ∷ y ∷ ls) = ¬ Repeats x y × Distinct (y ∷ ls)

pub record RowsAgree (f : AddressRange) (ls : List LineEntry) : Type 0 where
  pub within : All (λ l. RangeHolds f l.address) ls
  pub rising : Rising 0 ls
  pub distinct : Distinct ls
