-- The file that a header has at a number for which the unit's map has none: nothing, a file with no path, or file 0 before version 5.
use mathlib.Core.Path.{◌≡◌, refl, sym, subst, ◌∙◌}
use mathlib.Core.Bool.{Bool, true, false}
use mathlib.Core.Logic.{inl, ⊎_elim}
use mathlib.Core.List.{List, []}
use mathlib.Core.Option.{none, some}
use Prim.Native.Nat.{ℕ, ◌+◌, ◌-◌, ◌≤◌, ◌<◌}
use native.Mathlib.Omega.{arith}
use lib.Dec.{leb}
use lib.ListN.{length, drop, get_or}
use borrow.Author.Tests.{eq-eqb, ne_eqb, le-leb, lt-leb, lt-ltb, le-ltb}
use Rattle.std.specs.Prelude.{Option as Maybe, Some, None}
use Rattle.tlv.specs.declared.fields.FieldSpan.{FieldSpan}
use Rattle.tlv.specs.Outcome.{done}
use Rattle.tlv.specs.Lists.{at, map_option}
use Rattle.tlv.specs.Fields.{fields, payload_of}
use Rattle.tlv.specs.Cursor.{step_at}
use Rattle.tlv.specs.Model.{HeaderFile, file_of}
use Rattle.tlv.proofs.PlacePromises.{placed-file_zero, placed-file_zero-string}
use Rattle.buffers.specs.Table.{chunk}
use Rattle.buffers.proofs.TableLaws.{le-or_lt}
use Rattle.access.specs.Places.{own_fields}
use Rattle.access.specs.Access.{NextOwn}
use Rattle.access.proofs.OwnLaws.{own-within, own-field}
use Rattle.access.proofs.UnitFacts.{unit-file_zero}
use Rattle.paths.specs.Paths.{file_entry}
use Rattle.lines.specs.Files.{get, header_file}
use Rattle.files.specs.declared.spans.Span.{Span}
use Rattle.files.specs.Pieces.{span_in, FileSpanIn}
use Rattle.files.specs.Indices.{indices_in}
use Rattle.files.specs.Interns.{OfUnit}
use Rattle.files.proofs.PieceLaws.{at_some, at_none}
use Rattle.files.proofs.UnitLaws.{first-none, first_found, unit-next}
use Rattle.collect.specs.declared.convert.Conversion.{Conversion}
use Rattle.collect.specs.declared.convert.Converting.{Converting}
use Rattle.collect.specs.declared.sought.SoughtFile.{SoughtFile}
use Rattle.collect.specs.Converts.{unit_at, header_in, ConversionIn, zero_of, listed_of, sought_of}

-- ---- what the code finds

module _ (c : Conversion) (n : ℕ) {r : SoughtFile} {early : Bool} (is : early ≡ leb c.unit.version 4) where
  pub sought_zero : early ≡ true → n ≡ 0 → r ≡ zero_of c.zero → r ≡ sought_of c n
  unfolding sought_of
  sought_zero h z e = e ∙ rw (← is, h, eq-eqb n 0 z)

  pub sought_early : early ≡ true → (n ≡ 0 → ⊥) → r ≡ listed_of c.indices.count n → r ≡ sought_of c n
  unfolding sought_of
  sought_early h z e = e ∙ rw (← is, h, ne_eqb n 0 z)

  pub sought_late : early ≡ false → r ≡ listed_of c.indices.count n → r ≡ sought_of c n
  unfolding sought_of
  sought_late h e = e ∙ rw (← is, h)

-- ---- what it means

-- file 0 before version 5 is this one
pub record ZeroIs (main : List ℕ) (c : Conversion) (n : ℕ) (a : Span) : Type 0 where
  pub is : header_file (unit_at main c) (header_in main c) n ≡ some (file_of (span_in main a))
  pub span : FileSpanIn main a
  pub listed : OfUnit main c.unit.place a

-- the header lists a file with no path
pub record UnnamedIs (main : List ℕ) (c : Conversion) (n : ℕ) : Type 0 where
  pub file : HeaderFile
  pub is : header_file (unit_at main c) (header_in main c) n ≡ some file
  pub none_named : file_entry (unit_at main c) (header_in main c) file ≡ done none

-- what the code finds means that, where the map has no number
abbrev Means : List ℕ → List ℕ → Conversion → ℕ → SoughtFile → Type 0
Means main w c n SoughtFile.Missing = header_file (unit_at main c) (header_in main c) n ≡ none
Means main w c n SoughtFile.Unnamed = get (indices_in w c.indices) n ≡ none → UnnamedIs main c n
Means main w c n (SoughtFile.Zero a) = ZeroIs main c n a

module _ {main supplementary w : List ℕ} {c : Conversion} {st : Converting} (C : ConversionIn main supplementary w c st) (n : ℕ) where
  zero_field : (unit_at main c).file_zero ≡ map_option file_of (payload_of 0x1c (own_fields (fields (drop (c.unit.place + 21) main))))
  zero_field = let p = c.unit.place in unit-file_zero main p (step_at main p) 0x10 (p + 3) 18 (p + 21) refl C.placed.is

  zero-means : header_file (unit_at main c) (header_in main c) n ≡ (unit_at main c).file_zero → (o : Maybe FieldSpan) → NextOwn main (c.unit.place + 21) 0x1c o
      → Means main w c n (zero_of o)
  unfolding map_option chunk
  zero-means e None own = e ∙ rw (zero_field, first-none main (c.unit.place + 21) 0x1c own)
  zero-means e (Some f) own =
      let p = c.unit.place + 21 in
      let x = own-field main p 0x1c f own (unit-next C.placed) in
      let a : Span = record { start = f.start; len = f.len } in
      let found : (unit_at main c).file_zero ≡ some (file_of (span_in main a)) = zero_field ∙ rw (first_found main p 0x1c f own) in
      let long = placed-file_zero main x.place (step_at main x.place) 0x1c f.start f.len f.next x.here refl x.is refl in
      let short = placed-file_zero-string main x.place (step_at main x.place) 0x1c f.start f.len f.next x.here refl x.is refl in
      record {
        is = e ∙ found;
        span = record { within = (own-within main p 0x1c f own).0; numbered = long; short = omega arith };
        listed = record { listed = rw found (inl refl) };
      }

  listed-means : (m : ℕ) → header_file (unit_at main c) (header_in main c) n ≡ at (unit_at main c).files m → (n < c.indices.count → m < length (unit_at main c).files)
      → (c.indices.count ≤ n → length (unit_at main c).files ≤ m) → ((n ≡ 0) × (leb (header_in main c).version 4 ≡ true) → ⊥) → Means main w c n (listed_of c.indices.count n)
  listed-means m e inside outside other =
      let files = (unit_at main c).files in
      let d : HeaderFile = record { failed = true; directory = 0; path = [] } in
      ⊎_elim
      (λ h. rw (le-ltb n c.indices.count h) (e ∙ at_none files m (outside h)))
      (λ h.
      let is : header_file (unit_at main c) (header_in main c) n ≡ some (get_or files m d) = e ∙ at_some files m d (inside h) in
      rw (lt-ltb n c.indices.count h) (λ g. record { file = get_or files m d; is = is; none_named = ⊎_elim (λ z. absurd (other z)) (λ x. x) (C.unnamed.unnamed n (get_or files m d) g is) }))
      (le-or_lt c.indices.count n)

  -- in other words
  means_as : {q r : SoughtFile} → q ≡ r → Means main w c n q → Means main w c n r
  means_as e m = subst (λ (q : SoughtFile). Means main w c n q) e m

  sought_means : Means main w c n (sought_of c n)
  unfolding header_file
  sought_means =
      let v = (header_in main c).version in
      let same : c.unit.version ≡ v = C.unit.version in
      let files = (unit_at main c).files in
      ⊎_elim
      (λ h.
      let early : c.unit.version ≤ 4 = omega arith in
      let b : leb v 4 ≡ true = le-leb v 4 h in
      let count : c.indices.count ≡ 1 + length files = rw b at C.all in
      ⊎_elim
      (λ z. let z₀ : n ≡ 0 = omega arith in means_as (sought_zero c n refl (le-leb c.unit.version 4 early) z₀ refl) (zero-means (rw (b, eq-eqb n 0 z₀)) c.zero C.zero))
      (λ z.
      let z₀ : n ≡ 0 → ⊥ = λ e. omega arith in
      means_as (sought_early c n refl (le-leb c.unit.version 4 early) z₀ refl) (listed-means (n - 1) (rw (b, ne_eqb n 0 z₀)) (λ i. omega arith) (λ o. omega arith) (λ x. z₀ x.0)))
      (le-or_lt n 0))
      (λ h.
      let late : 4 < c.unit.version = omega arith in
      let b = lt-leb v 4 h in
      let count : c.indices.count ≡ 0 + length files = rw b at C.all in
      means_as (sought_late c n refl (lt-leb c.unit.version 4 late) refl) (listed-means n (rw b) (λ i. omega arith) (λ o. omega arith) (λ x. let y = x.1 in let z : ◌≡◌ {A = ℕ} 0 1 = cc in omega arith)))
      (le-or_lt v 4)

  module _ {r : SoughtFile} (found : r ≡ sought_of c n) where
    means : (q : SoughtFile) → r ≡ q → Means main w c n q
    means q e = means_as (sym found ∙ e) sought_means

    pub is-missing : r ≡ SoughtFile.Missing → header_file (unit_at main c) (header_in main c) n ≡ none
    is-missing e = means SoughtFile.Missing e

    pub is-unnamed : r ≡ SoughtFile.Unnamed → get (indices_in w c.indices) n ≡ none → UnnamedIs main c n
    is-unnamed e = means SoughtFile.Unnamed e

  pub is_zero : {a : Span} → SoughtFile.Zero a ≡ sought_of c n → ZeroIs main c n a
  is_zero {a} e = means e (SoughtFile.Zero a) refl
