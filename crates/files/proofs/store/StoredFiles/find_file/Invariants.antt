-- `store::StoredFiles::find_file` meets its contract. The loop follows a chain to ever lower places.
use Rattle.files.proofs.ChainLaws.{Searching}
use Rattle.files.proofs.store.StoredFiles.find_file.Given as goal

abbrev pub invariant-loop-k : goal.invariant-loop-k
invariant-loop-k l = Searching l.sheets.main.now l.sheets.supplementary.now l.work l.self (record { directory = l.directory; basename = l.base }) l.k

abbrev pub decreases-loop-k : goal.decreases-loop-k
decreases-loop-k l = l.k
