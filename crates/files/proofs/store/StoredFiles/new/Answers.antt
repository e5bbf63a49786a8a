-- `store::StoredFiles::new` meets its contract. Every head is 0.
use Prim.Native.Nat.{◌≤◌}
use native.Mathlib.Omega.{arith}
use Rattle.files.proofs.KeptLaws.{empty-files}
use Rattle.files.proofs.store.StoredFiles.new.Goals as goal

pub returns : goal.returns
returns c = let fits : c.args.written ≤ 18446744073709551615 = omega (arith, c.ranges.written.fits) in
    search empty-files
