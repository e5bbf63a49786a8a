-- Contract. How many bytes an address of a size takes.
use Rattle.std.specs.Prelude.{ℕ}
use Rattle.rnglists.specs.declared.sizes.AddressSize.{AddressSize}

abbrev pub width_of : AddressSize → ℕ
width_of AddressSize.Four = 4
width_of AddressSize.Eight = 8
