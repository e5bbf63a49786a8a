-- `records::is_file` meets its contract. Files of two hashes are two files.
use Rattle.files.proofs.SameLaws.{other-hash, source-file}
use Rattle.files.proofs.records.is_file.Goals as goal

pub returns : goal.returns
returns c = source-file c.requires.stored_at c.read-2.ensures c.source_at.ensures c.of-s.ensures _ c.is_file.ensures

pub returns-then-read-hash : goal.returns-then-read-hash
returns-then-read-hash c = search other-hash
