-- Definition. What is said of address ranges (document 01, "A range holds the addresses from its start to below its end").
use Rattle.std.specs.Prelude.{ℕ, ◌≤◌, ◌<◌}
use Rattle.tlv.specs.declared.model.AddressRange.{AddressRange}

abbrev pub RangeHolds : AddressRange → ℕ → Type 0
RangeHolds r a = (r.start ≤ a) × (a < r.end)

-- Stays a clause: an `AddressRange` may be empty elsewhere, as one that a list gives before it is looked at.
abbrev pub Nonempty : AddressRange → Type 0
Nonempty r = r.start < r.end

-- r lies inside p
abbrev pub Inside : AddressRange → AddressRange → Type 0
Inside r p = (p.start ≤ r.start) × (r.end ≤ p.end)
