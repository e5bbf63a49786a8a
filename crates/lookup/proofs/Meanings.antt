-- The look-ups mean what the request says.
use Rattle.lookup.specs.Means.{Meanings}
use Rattle.lookup.proofs.ClauseTests.{form-is}
use Rattle.lookup.proofs.PlaceLaws.{reading}
use Rattle.lookup.proofs.RowMeans.{function-is, row_is, filled}
use Rattle.lookup.proofs.FormLaws.{chaining}
use Rattle.lookup.proofs.NearestLaws.{nearest}
use Rattle.lookup.proofs.WindowLaws.{windows}

pub meanings : Meanings
meanings = record {
  form = form-is;
  reading = reading;
  function = function-is;
  row = row_is;
  chaining = chaining;
  nearest = nearest;
  windows = windows;
  filled = filled;
}
