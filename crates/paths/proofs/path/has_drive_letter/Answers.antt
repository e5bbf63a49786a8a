-- `path::has_drive_letter` meets its contract.
use Rattle.paths.proofs.PathCodeLaws.{drive-some, drive-letter}
use Rattle.paths.proofs.path.has_drive_letter.Goals as goal

pub bounds-path-0 : goal.bounds-path-0
bounds-path-0 c = drive-some _ c.if-has_drive.ensures

pub returns-then-has_drive : goal.returns-then-has_drive
returns-then-has_drive c = drive-letter _ _ c.if-has_drive.ensures c.is_letter.ensures
