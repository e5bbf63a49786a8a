-- Definition. The numbers of the refusals in document 01's table, and what an answer that can be one means.
use Rattle.std.specs.Prelude.{ℕ, Result, Ok, Err}
use Rattle.tlv.specs.declared.refusal.Refusal.{Refusal}
use Rattle.tlv.specs.Outcome.{Outcome, refused, done}

abbrev pub number_of : Refusal → ℕ
number_of Refusal.Oversize = 1
number_of Refusal.Misshapen = 2
number_of Refusal.PastLimit = 3
number_of Refusal.NoUnit = 4
number_of Refusal.ShortWork = 5
number_of Refusal.Decoder = 6
number_of Refusal.Cut = 7
number_of Refusal.CutExtended = 8
number_of Refusal.ZeroExtended = 9
number_of Refusal.Overflowing = 10
number_of Refusal.Overlong = 11
number_of Refusal.Overflow = 12
number_of Refusal.NoEntry = 13
number_of Refusal.TooDeep = 14
number_of Refusal.FilesFull = 15
number_of Refusal.ShortRecords = 16
number_of Refusal.ShortFiles = 17
number_of Refusal.ShortWarnings = 18
number_of Refusal.MisshapenRecords = 19
number_of Refusal.NoFunction = 20
number_of Refusal.LineEncoding = 21
number_of Refusal.LineAddress = 22
number_of Refusal.CutList = 23
number_of Refusal.NoAddress = 24
number_of Refusal.WideAddress = 25
number_of Refusal.MisshapenSymbols = 26
number_of Refusal.ShortResult = 27

module _ {A : Type 0} where
  -- a value, or the refusal's number
  abbrev pub as_outcome : Result A Refusal → Outcome A
  as_outcome (Ok a) = done a
  as_outcome (Err e) = refused (number_of e)

  -- the number of the refusal; 0 is none
  abbrev pub status_of : Result A Refusal → ℕ
  status_of (Ok a) = 0
  status_of (Err e) = number_of e
