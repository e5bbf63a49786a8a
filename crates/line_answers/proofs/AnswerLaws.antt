-- A sheet's fields bound what its file table and a unit's lines take, and a function's rows leave the unit's in place.
use mathlib.Core.Path.{◌≡◌, refl, sym, ap, subst}
use mathlib.Core.Logic.{inl, inr}
use mathlib.Core.Bool.{Bool, true}
use mathlib.Core.List.{List, [], ◌∷◌}
use mathlib.Core.Option.{Option, none, some}
use Prim.Native.Nat.{ℕ, zero, suc, ◌+◌, ◌*◌, ◌<◌, ◌^◌}
use native.Mathlib.Omega.{arith}
use lib.ListN.{length}
use Rattle.tlv.specs.declared.model.AddressRange.{AddressRange}
use Rattle.tlv.specs.Lists.{Any, at}
use Rattle.tlv.specs.Fields.{fields, fields_from, whole_fields, payloads, count_of}
use Rattle.tlv.specs.Checked.{Accepts}
use Rattle.tlv.specs.Limits.{joined_limit}
use Rattle.std.specs.Prelude.{Result, Ok, Err, Some}
use Rattle.tlv.specs.declared.refusal.Refusal.{Refusal}
use Rattle.access.specs.Access.{place_of}
use Rattle.access.specs.Places.{unit_here, unit_places}
use Rattle.files.specs.declared.store.StoredFiles.{StoredFiles}
use Rattle.files.specs.Store.{Empty}
use Rattle.files.specs.Possible.{possible_files}
use Rattle.files.proofs.FewLaws.{tags-few, possible-few, directories-few, files-few_in, rows_few}
use Rattle.std.specs.Prelude as std
use Rattle.rows.specs.declared.unit_lines.StoredLines.{StoredLines}
use Rattle.rows.specs.declared.unit_lines.FunctionRows.{FunctionRows}
use Rattle.rows.specs.Selects.{RowsIn, ForRange}
use Rattle.rows.proofs.StoredLaws.{lines-kept}
use Rattle.machine.proofs.UnitLines.{most-few}
use Rattle.collect.specs.declared.collect.CollectedLines.{CollectedLines}
use Rattle.collect.specs.Collects.{UnitIn, lines_extent, LinesRoom, CollectsLines}
use Rattle.line_answers.specs.Answers.{Room, HasRoom, CollectedRows}

pub unit-in : (s : List ℕ) {p : ℕ} → place_of (Some p) ≡ at (unit_places 0 (fields s)) 0 → UnitIn s p
unit-in s e = record { number = 0; is = sym e }

-- the value of an option, or 0
abbrev value_of : Option ℕ → ℕ
value_of none = 0
value_of (some x) = x

abbrev Known : Option ℕ → Type 0
Known none = ⊥
Known (some x) = Unit {0}

at-any : (q n : ℕ) (xs : List ℕ) → at xs n ≡ some q → Any (λ p. p ≡ q) xs
unfolding at
at-any q n [] e = subst Known (sym e) tt
at-any q zero (x ∷ xs) e = inl (ap value_of e)
at-any q (suc n) (x ∷ xs) e = inr (at-any q n xs e)

none-empty : count_of 0x15 [] + count_of 0x1c [] ≡ 0
unfolding fields_from whole_fields payloads
none-empty = refl

pub possible-room : (s : List ℕ) (n : ℕ) → Accepts s n → length (possible_files s []) < n + 1
possible-room s n e = omega (arith, possible-few s [], none-empty, tags-few s n e)

pub room-yes : {main program n work : ℕ} {r : Bool} → HasRoom main program n work r → r ≡ true → Room main program n work
room-yes {main} {program} {n} {work} {r} H e = let Y : HasRoom main program n work true = rw e at H in Y.is

pub room-main : {main program n work : ℕ} → Room main program n work → main < 2 ^ 32
room-main R = R.main-small

pub lines-room : {s w w' program : List ℕ} {n p : ℕ} {t : StoredFiles} → Accepts s n → UnitIn s p → Room (length s) (length program) n (length w)
    → Empty s [] w w' 0 (n + 1) 1 0 t → length w' ≡ length w → LinesRoom s w' program t p ((n + 1) * 45 + joined_limit)
unfolding lines_extent
lines-room {s} {w} {w'} {program} {n} {p} {t} e U R E same =
    let any = at-any p U.number (unit_places 0 (fields s)) U.is in
    record {
      table = omega (arith, E.base-is, E.room-is);
      room = omega (arith, R.within, tags-few s n e, directories-few s p any, files-few_in s p any, rows_few s p any, most-few (unit_here s p) program);
    }

pub collected-rows : {s supplementary program w w' files files' warnings warnings' : List ℕ} {p : ℕ} {t : StoredFiles} {warned free : ℕ} (r : Result CollectedLines Refusal)
    → CollectsLines s supplementary program w w' files files' warnings warnings' p t warned free r → CollectedRows w' r
collected-rows (Err e) C = record { is = tt }
collected-rows (Ok r) C = record { is = C.is.rows }

pub rows-still : {w w' : List ℕ} {l : StoredLines} {range : AddressRange} {asked : std.Option ℕ} {r : FunctionRows} → RowsIn w l → ForRange w w' l range asked r → length w' ≡ length w → RowsIn w' l
rows-still {w} {w'} {l} R F e =
    record {
      lines = R.lines;
      sequences = R.sequences;
      buffer = omega (arith, R.buffer);
      sorted = rw (lines-kept l.lines.base l.lines.count F.rest (inl (omega (arith, R.lines)))) R.sorted;
    }
