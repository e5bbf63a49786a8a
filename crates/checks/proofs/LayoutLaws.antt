-- The places that are computed from the counts of fields leave room for each table, and fit the work slice.
use mathlib.Core.Path.{◌≡◌, refl, sym, ◌∙◌}
use mathlib.Core.Bool.{Bool, true, false, not}
use mathlib.Core.List.{List}
use mathlib.Core.Option.{Option, none, some}
use Prim.Native.Nat.{ℕ, ◌+◌, ◌*◌, ◌/◌, ◌≤◌, ◌<◌, ◌^◌}
use native.Mathlib.Nat.{mul-le-mul_left}
use native.Mathlib.Omega.{arith}
use lib.Dec.{eqb}
use lib.ListN.{length}
use borrow.Author.Tests.{eqb-true}
use Rattle.tlv.specs.Limits.{field_limit, program_limit, list_limit, work_of_field, work_besides, joined_limit}
use Rattle.tlv.specs.Lists.{is_none}
use Rattle.tlv.specs.Fields.{fields, count_of}
use Rattle.tlv.specs.Model.{CompilationUnit, LineEncoding}
use Rattle.tlv.specs.Checked.{Accepted}
use Rattle.access.specs.Places.{unit_here, UnitOf}
use Rattle.access.proofs.UnitsOrder.{unit_places-length}
use Rattle.files.specs.Possible.{possible_files}
use Rattle.files.proofs.FewLaws.{directories-few, files-few_in, rows_few, possible-few}
use Rattle.files.specs.Interns.{map_extent}
use Rattle.rows.specs.Sizes.{entry_size, row_room}
use Rattle.machine.specs.LineRows.{most_by, rows_most}
use Rattle.rnglists.specs.Room.{open_most, open_lists}
use Rattle.rnglists.proofs.RoomLaws.{list-bytes}
use Rattle.collect.specs.Collects.{lines_extent}
use Rattle.references.specs.Keys.{possible_keys}
use Rattle.references.proofs.FewKeys.{keys-few}
use Rattle.imports.specs.Answer.{work_of_unit}
use Rattle.checks.specs.declared.layout.Counts.{Counts}
use Rattle.checks.specs.declared.layout.Layout.{Layout}
use Rattle.checks.specs.declared.layout.UnitLayout.{UnitLayout}
use Rattle.checks.specs.Layout.{Sized, total_of, rooms_end, program_rows, LaidOut, LaysOut, unit_layout, UnitLaid}
use Rattle.checks.specs.Checks.{is_encoded, work_of_program, UnitEnough}
use Rattle.checks.proofs.CountLaws.{total_few, total-small, text-few}
use Rattle.checks.proofs.WorkLaws.{of-program}

-- ---- the places and rooms, from the counts m of the main input, s of the supplementary one, the program's size and the lists' bytes

module _ (m s : Counts) where
  abbrev entries_at : ℕ
  entries_at = 24 * m.units

  abbrev other_units_at : ℕ
  other_units_at = entries_at + 16 * m.entries

  abbrev other_entries_at : ℕ
  other_entries_at = other_units_at + 24 * s.units

  abbrev files_at : ℕ
  files_at = other_entries_at + 16 * s.entries

  abbrev file_room : ℕ
  file_room = m.files + m.zeros + s.files + s.zeros + 1

  abbrev span_room : ℕ
  span_room = 8 * (m.directories + s.directories) + 5 * (1 + m.files + s.files)

  abbrev line_room : ℕ → ℕ
  line_room x = x * 8 + 8 * m.directories + 5 * (1 + m.files) + row_room * m.rows + entry_size

  abbrev pub places_of : ℕ → ℕ → Layout
  places_of size bytes = record {
    main_entries = entries_at;
    supplementary_units = other_units_at;
    supplementary_entries = other_entries_at;
    files = files_at;
    room = file_room;
    lines = files_at + file_room * 45 + joined_limit;
    line_room = line_room (size / 3);
    text_room = 16 * m.text;
    span_room = span_room;
    range_room = 16 * (1 + m.ranges);
    stack_room = 14 * m.entries;
    site_room = 12 * m.entries;
    size = size;
    third = bytes / 3;
    with_encodings = not (eqb m.encodings 0);
    with_lists = not (eqb m.lists 0);
  }

  -- 64 bytes for each field cover what its tables take, with the followed targets
  rooms-within : (size bytes k n n' : ℕ) → total_of m ≤ n → total_of s ≤ n' → k ≤ m.attributes + 2 * s.attributes
      → rooms_end (places_of size bytes) + ((m.entries + s.entries + 1) * 4 + 13 * k) ≤ work_of_field * (n + n') + size / 3 * 8 + work_besides
  rooms-within size bytes k n n' h h' c = omega arith

  rooms-small : (size bytes : ℕ) → total_of m ≤ field_limit → total_of s ≤ field_limit → size ≤ program_limit → rooms_end (places_of size bytes) < 2 ^ 32
  rooms-small size bytes h h' k = omega arith

-- ---- what a unit needs is no more than what its input and the program can bring

lines-most : (x d f r d' f' r' : ℕ) → d ≤ d' → f ≤ f' → r ≤ r'
    → x * 8 + 8 * d + 5 * (1 + f) + row_room * r + entry_size ≤ x * 8 + 8 * d' + 5 * (1 + f') + row_room * r' + entry_size
lines-most x d f r d' f' r' a b c = omega arith

map-most : (d f a b a' b' : ℕ) → d ≤ a + a' → f ≤ b + b' → 8 * d + 5 * (1 + f) ≤ 8 * (a + a') + 5 * (1 + b + b')
map-most d f a b a' b' h k = omega arith

module _ {main supplementary : List ℕ} {m s : Counts} (M : Sized main m) (S : Sized supplementary s) where
  files-fit : length (possible_files main supplementary) < file_room m s
  files-fit = omega (arith, possible-few main supplementary, M.files, M.zeros, S.files, S.zeros)

  room_small : Accepted main → Accepted supplementary → file_room m s < 2 ^ 32
  room_small A B = omega (arith, total-small A M, total-small B S)

  map-main : (q : ℕ) → UnitOf main q → map_extent main q ≤ span_room m s
  map-main q any =
      map-most _ _ m.directories m.files s.directories s.files
      (omega (arith, directories-few main q any, M.directories)) (omega (arith, files-few_in main q any, M.files))

  map-supplementary : (q : ℕ) → UnitOf supplementary q → map_extent supplementary q ≤ span_room m s
  map-supplementary q any =
      map-most _ _ m.directories m.files s.directories s.files
      (omega (arith, directories-few supplementary q any, S.directories)) (omega (arith, files-few_in supplementary q any, S.files))

-- a unit has no more rows than its fields and, where they come from it, the program give
rows-most : (u : CompilationUnit) (program : List ℕ) → rows_most u program ≤ length u.rows + program_rows (length program) (is_encoded u)
unfolding rows_most
rows-most u program = go u.encoding
  where
    go : (o : Option LineEncoding) → most_by u program o ≤ length u.rows + program_rows (length program) (not (is_none o))
    go none = omega arith
    go (some e) = omega arith

lines_fit : {main : List ℕ} {m : Counts} (s : Counts) (program : List ℕ) → Sized main m → (q : ℕ) → UnitOf main q
    → lines_extent main q program ≤ line_room m s (length program / 3) + row_room * program_rows (length program) (is_encoded (unit_here main q))
unfolding lines_extent
lines_fit {main} {m} s program M q any =
    let u = unit_here main q in
    let most = lines-most (length program / 3) (length u.directories) (length u.files) (rows_most u program) m.directories m.files (m.rows + program_rows (length program) (is_encoded (unit_here main q)))
    (omega (arith, directories-few main q any, M.directories)) (omega (arith, files-few_in main q any, M.files))
    (omega (arith, rows_few main q any, M.rows, rows-most (unit_here main q) program)) in
    omega arith

times_most : (l k a b : ℕ) → a ≤ b → l + k * a ≤ l + k * b
times_most l k a b h = omega (arith, mul-le-mul_left k h)

times_as : (l k a b : ℕ) → a ≡ b → l + k * b ≤ l + k * a
times_as l k a b e = times_most l k b a (omega arith)

times : (k a b : ℕ) → a ≡ b → k * b ≤ k * a
times k a b e = mul-le-mul_left k (omega arith)

-- a tag that was not counted is not there
none-counted : {n k : ℕ} → n ≡ k → not (eqb n 0) ≡ false → k ≡ 0
none-counted {n} e h = sym e ∙ eqb-true n 0 (go (eqb n 0) h)
  where
    go : (b : Bool) → not b ≡ false → b ≡ true
    go true h = refl
    go false h = sym h

-- ---- all of it

laid_out : {main supplementary program lists : List ℕ} {m s : Counts} → Accepted main → Accepted supplementary → Sized main m → Sized supplementary s
    → length program ≤ program_limit → length lists ≤ list_limit → LaidOut main supplementary program lists (places_of m s (length program) (length lists))
laid_out {main} {supplementary} {program} {lists} {m} {s} A B M S small few = record {
  few = files-fit M S;
  small = room_small M S A B;
  main-entries = rw (unit_places-length 0 (fields main)) (times 24 m.units _ M.units);
  supplementary-units = times_as (entries_at m s) 16 m.entries _ M.entries;
  supplementary-entries = rw (unit_places-length 0 (fields supplementary)) (times_as (other_units_at m s) 24 s.units _ S.units);
  files = times_as (other_entries_at m s) 16 s.entries _ S.entries;
  lines = omega arith;
  line-room = lines_fit s program M;
  text-room = λ q any. mul-le-mul_left 16 (omega (arith, text-few main q any, M.text));
  room-main = map-main M S;
  room-supplementary = map-supplementary M S;
  range-room = times 16 (1 + m.ranges) (1 + count_of 0x19 main) (rw M.ranges);
  stack-room = times 14 m.entries _ M.entries;
  site-room = times 12 m.entries _ M.entries;
  within = λ n n' e e'.
      let a = M.entries in
      let b = S.entries in
      let c = rooms-within m s (length program) (length lists) (length (possible_keys main supplementary)) n n' (total_few n M e) (total_few n' S e')
      (omega (arith, keys-few main supplementary, M.attributes, S.attributes)) in
      omega arith;
  size_is = refl;
  third-is = refl;
  tags = record { encodings = none-counted M.encodings; lists = none-counted M.lists };
  rooms = record { rooms = rooms-small m s (length program) (length lists) (total-small A M) (total-small B S) small; size = small; third = omega arith };
}

pub lays_out : (m s : Counts) (size bytes : ℕ) → size ≤ program_limit → bytes ≤ list_limit → LaysOut m s size bytes (places_of m s size bytes)
lays_out m s size bytes small few = record {
  laid = λ main supplementary program lists A B M S same alike.
      rw (← same, ← alike) (laid_out A B M S (omega arith) (omega arith));
}

-- ---- the parts of a unit

-- the places of a unit, from the most rows of its program and its open lists
abbrev unit_from : Layout → ℕ → ℕ → UnitLayout
unit_from l y n =
    let text = l.lines + l.line_room + row_room * y in
    let spans = text + l.text_room in
    let ranges = spans + l.span_room in
    let stack = ranges + l.range_room + 16 * (l.third * n) in
    let sites = stack + l.stack_room in
    record { text = text; spans = spans; ranges = ranges; stack = stack; sites = sites; keys = sites + l.site_room }

-- what the code computes of them stays small
pub program-few : (size : ℕ) (encoded : Bool) {y : ℕ} → y ≡ program_rows size encoded → y ≤ size
program-few size true e = omega arith
program-few size false e = omega arith

pub open_few : (third lists : ℕ) {n : ℕ} → n ≡ open_lists lists → third * n ≤ third * open_most
open_few third lists e = mul-le-mul_left third (omega arith)

pub laid-unit : (l : Layout) (encoded : Bool) (lists : ℕ) {y n : ℕ} → y ≡ program_rows l.size encoded → n ≡ open_lists lists
    → unit_from l y n ≡ unit_layout l encoded lists
unfolding unit_layout
laid-unit l encoded lists ey en = λ k. unit_from l (ey k) (en k)

-- the rows of a program, their sort buffer and the offsets of its sequences fit the bytes that it asks for
program-room : (encoded : Bool) (size : ℕ) → row_room * program_rows size encoded + size / 3 * 8 ≤ work_of_program encoded size
program-room true size = omega arith
program-room false size = omega arith

module _ {main supplementary program lists : List ℕ} {l : Layout} (L : LaidOut main supplementary program lists l) (A : Accepted main) (B : Accepted supplementary)
    (unit : ℕ) {size : ℕ} (any : UnitOf main unit) (E : UnitEnough main supplementary program lists size (unit_here main unit)) where
  abbrev here : CompilationUnit
  here = unit_here main unit

  -- what the program and the lists add is within what the unit asks for
  added : row_room * program_rows l.size (is_encoded here) + l.size / 3 * 8 + 16 * (l.third * open_lists here.lists)
      ≤ work_of_unit (length program) (length lists) here
  unfolding work_of_unit
  added =
      rw (L.size_is, L.third-is)
      (omega (arith, of-program here.encoding (length program), program-room (is_encoded here) (length program), list-bytes (length lists) here.lists))

  pub unit-laid : {p : UnitLayout} → p ≡ unit_layout l (is_encoded here) here.lists → UnitLaid main supplementary program size l unit p
  unfolding unit_layout
  unit-laid e = rw e (record {
    text = let a = L.line-room unit any in omega arith;
    spans = let a = L.text-room unit any in omega arith;
    ranges = omega arith;
    stack = let a = L.range-room in omega arith;
    sites = let a = L.stack-room in omega arith;
    keys = let a = L.site-room in omega arith;
    room = let a = L.within A.number B.number A.is B.is in
        let b = E.long A.number B.number A.is B.is in
        let c = added in
        omega arith;
  })
