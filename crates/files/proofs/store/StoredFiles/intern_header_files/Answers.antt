-- `store::StoredFiles::intern_header_files` meets its contract.
use Rattle.files.proofs.header.HeaderLaws.{files-after, unit-after, header-before, header-from}
use Rattle.files.proofs.store.StoredFiles.intern_header_files.Goals as goal

pub intern_files-requires-clause-files_in : goal.intern_files-requires-clause-files_in
intern_files-requires-clause-files_in c = files-after c.requires.map_room c.put_index.ensures c.put_index.auto.work c.requires.files_in

pub intern_files-requires-clause-file_unit_in : goal.intern_files-requires-clause-file_unit_in
intern_files-requires-clause-file_unit_in c = unit-after c.requires.map_room c.put_index.ensures c.put_index.auto.work c.requires.file_unit_in

pub returns-then-counts_from_one : goal.returns-then-counts_from_one
returns-then-counts_from_one c = header-before c.requires.map_room c.put_index.ensures c.put_index.auto.work c.requires.files_in c.requires.file_unit_in c.counts_from_one.ensures c.if-counts_from_one.true c.new.ensures.based c.new.ensures.counted c.intern_files.ensures

pub returns : goal.returns
returns c = header-from c.requires.file_unit_in c.counts_from_one.ensures c.if-counts_from_one.false c.new-2.ensures.based c.new-2.ensures.counted c.intern_files-2.ensures
