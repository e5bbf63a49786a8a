-- Contract. What a closure says of a range of addresses, for the functions that are handed one.
use Rattle.std.specs.Prelude.{◌^◌, ◌<◌, ◌≡◌, Bool}
use Rattle.tlv.specs.declared.model.AddressRange.{AddressRange}

-- a range of two 64-bit numbers
abbrev pub Fits : AddressRange → Type 0
Fits r = (r.start < 2 ^ 64) × (r.end < 2 ^ 64)

-- what a closure answers of a range is what the test says: `post` is the closure's, of the range and the answer
abbrev pub Tests : (AddressRange → Bool → Type 0) → (AddressRange → Bool) → Type 0
Tests post test = (r : AddressRange) (b : Bool) → Fits r → post r b → b ≡ test r
