-- `store::StoredFiles::look_up_nth` meets its contract.
use mathlib.Core.Path.{◌≡◌}
use borrow.Author.Rules.{rules}
use Rattle.std.specs.Prelude.{Some, None}
use Rattle.files.proofs.UnitLaws.{unit-next}
use Rattle.files.proofs.lookup.LookupLaws.{is-ok, nth-missing, nth-failed, nth-unnamed, nth-pieces}
use Rattle.files.proofs.store.StoredFiles.look_up_nth.Goals as goal

pub returns-in_err-field : goal.returns-in_err-field
returns-in_err-field c = rw c.from_residual.ensures (nth-missing c.requires.unit_placed c.in_err-field.ensures c.requires.files_in)

pub returns-in_err-ok : goal.returns-in_err-ok
returns-in_err-ok c = rw c.from_residual-in_err-ok.ensures (nth-failed c.requires.unit_placed c.in_ok-field.ensures _ (rw c.from.ensures at c.file_pieces.ensures) c.in_err-ok.ensures.value c.requires.files_in)

pub returns-in_err-pieces : goal.returns-in_err-pieces
returns-in_err-pieces c = let none : c.in_ok-ok.field-0 ≡ None = search rules in
    rw c.from_residual-in_err-pieces.ensures (nth-unnamed c.requires.unit_placed c.in_ok-field.ensures (rw (c.from.ensures, is-ok _ _ c.in_ok-ok.ensures.value, none) at c.file_pieces.ensures) c.requires.files_in)

pub returns : goal.returns
returns c = let found : c.in_ok-ok.field-0 ≡ Some c.in_ok-pieces.pieces = search rules in
    nth-pieces c.requires.unit_placed c.in_ok-field.ensures (rw (c.from.ensures, is-ok _ _ c.in_ok-ok.ensures.value, found) at c.file_pieces.ensures) c.look_up_pieces.ensures

pub nth_file-requires : goal.nth_file-requires
nth_file-requires c = search unit-next
