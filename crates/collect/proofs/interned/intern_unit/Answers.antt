-- `interned::intern_unit` meets its contract: the unit's directories, and its map behind them.
use native.Mathlib.Omega.{arith}
use Rattle.tlv.proofs.AnswerLaws.{handed}
use Rattle.collect.proofs.UnitInternLaws.{main-sheet, described-files, interned-refused, interned_done}
use Rattle.collect.proofs.interned.intern_unit.Goals as goal

pub intern_header_files-requires-clause-files_in : goal.intern_header_files-requires-clause-files_in
intern_header_files-requires-clause-files_in c = described-files c.describe-unit.ensures c.requires.files_in c.requires.unit_room c.describe-unit.auto.work

pub returns-in_err-interned : goal.returns-in_err-interned
returns-in_err-interned c = rw (handed _ _ c.from_residual.ensures.1) (interned-refused c.describe-unit.ensures c.requires.files_in c.requires.unit_room c.describe-unit.auto.work (rw (main-sheet c.args.sheets.main.now c.args.sheets.supplementary.now _ c.describe-unit.ensures.source-is) at c.in_err-interned.ensures))

pub returns : goal.returns
returns c = interned_done c.describe-unit.ensures c.requires.files_in c.requires.unit_room c.describe-unit.auto.work (rw (main-sheet c.args.sheets.main.now c.args.sheets.supplementary.now _ c.describe-unit.ensures.source-is) at c.in_ok-interned.ensures) (omega arith)
