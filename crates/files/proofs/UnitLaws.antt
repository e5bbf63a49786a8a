-- What of a unit tells the paths of its files: its compilation directory, its header's version, its directories.
use mathlib.Core.Path.{◌≡◌, refl, sym, ap, ◌∙◌}
use mathlib.Core.List.{List, map}
use mathlib.Core.Option.{Option, none, some}
use Prim.Native.Nat.{ℕ, ◌+◌, ◌*◌, ◌≤◌}
use native.Mathlib.Omega.{arith}
use lib.ListN.{length, take, drop, length-map}
use Rattle.tlv.specs.Lists.{map_option}
use Rattle.tlv.specs.Bytes.{le_at}
use Rattle.tlv.specs.Fields.{fields, payloads, payload_of, head_of}
use Rattle.tlv.specs.Model.{header_of, directory_of}
use Rattle.tlv.specs.Cursor.{step_at}
use Rattle.tlv.specs.declared.model.DebugSource.{DebugSource}
use Rattle.tlv.specs.Checked.{Placed}
use Rattle.tlv.proofs.CursorLaws.{next-within}
use Rattle.tlv.proofs.ShapeLaws.{number_at}
use Rattle.tlv.proofs.PlaceFacts.{placed-next}
use Rattle.tlv.proofs.PlacePromises.{placed-header, placed-string}
use Rattle.buffers.specs.Table.{chunk}
use Rattle.std.specs.Prelude.{Some, None}
use Rattle.tlv.specs.declared.fields.FieldSpan.{FieldSpan}
use Rattle.access.specs.Places.{own_fields, unit_here}
use Rattle.access.specs.Access.{NextOwn}
use Rattle.access.proofs.OwnLaws.{own-within, own-field}
use Rattle.access.proofs.UnitFacts.{unit-directory, unit-header, unit-directories}
use Rattle.buffers.specs.declared.table.Stored.{Stored}
use Rattle.files.specs.declared.spans.Span.{Span}
use Rattle.files.specs.Pieces.{or_header, header_here, version_in, CompilationIn, DirectoriesIn, UnitPlaced, Described}
use Rattle.files.proofs.DirectoryLaws.{spanned-length}

-- ---- the first field of a tag

module _ (s : List ℕ) (p t : ℕ) where
  pub first-none : NextOwn s p t None → payload_of t (own_fields (fields (drop p s))) ≡ none
  unfolding payload_of
  first-none own = ap head_of (sym own.is)

  pub first_found : (f : FieldSpan) → NextOwn s p t (Some f) → payload_of t (own_fields (fields (drop p s))) ≡ some (take f.len (drop f.start s))
  unfolding payload_of
  first_found f own = ap head_of (sym own.is)

-- ---- the compilation directory

pub compilation-none : (s : List ℕ) (p : ℕ) → NextOwn s p 0x11 None → CompilationIn s p (record { start = 0; len = 0 })
unfolding chunk
compilation-none s p own = record {
  is = rw (first-none s p 0x11 own);
  string = record { within = omega arith; short = omega arith };
}

pub compilation-found : (s : List ℕ) (p : ℕ) (f : FieldSpan) → NextOwn s p 0x11 (Some f) → Placed s p → CompilationIn s p (record { start = f.start; len = f.len })
unfolding chunk
compilation-found s p f own h =
    let x = own-field s p 0x11 f own h in
    record {
      is = rw (first_found s p 0x11 f own);
      string = record {
        within = (own-within s p 0x11 f own).0;
        short = placed-string s x.place (step_at s x.place) 0x11 f.start f.len f.next x.here refl x.is refl;
      };
    }

-- ---- the version

pub version-none : (s : List ℕ) (p : ℕ) → NextOwn s p 0x13 None → 0 ≡ version_in s p
unfolding version_in map_option
version-none s p own = sym (ap (λ (o : Option (List ℕ)). (or_header (map_option header_of o)).version) (first-none s p 0x13 own))

module _ (s : List ℕ) (p : ℕ) (f : FieldSpan) (own : NextOwn s p 0x13 (Some f)) (h : Placed s p) where
  header-long : 19 ≤ f.len
  header-long =
      let x = own-field s p 0x13 f own h in
      placed-header s x.place (step_at s x.place) 0x13 f.start f.len f.next x.here refl x.is refl

  pub version-read : f.start + 16 + 1 ≤ length s
  version-read =
      let l = header-long in
      let w = own-within s p 0x13 f own in
      omega arith

  pub version-found : (v : ℕ) → v ≡ le_at 1 s (f.start + 16) → v ≡ version_in s p
  unfolding version_in map_option header_of
  version-found v ev =
      let l = header-long in
      sym (number_at s f.start f.len 1 16 v (omega arith) ev)
      ∙ sym (ap (λ (o : Option (List ℕ)). (or_header (map_option header_of o)).version) (first_found s p 0x13 f own))

-- ---- the unit

module _ {s : List ℕ} {p : ℕ} (U : UnitPlaced s p) where
  pub unit-next : Placed s (p + 21)
  unit-next = placed-next s p (step_at s p) 0x10 (p + 3) 18 (p + 21) U.placed refl U.is

  pub unit-within : p + 21 ≤ length s
  unit-within = next-within s p (step_at s p) 0x10 (p + 3) 18 (p + 21) refl U.is

  directories-are : (unit_here s p).directories ≡ map directory_of (payloads 0x14 (own_fields (fields (drop (p + 21) s))))
  directories-are = unit-directories s p (step_at s p) 0x10 (p + 3) 18 (p + 21) refl U.is

  directories-count : length (unit_here s p).directories ≡ length (payloads 0x14 (own_fields (fields (drop (p + 21) s))))
  directories-count = ap length directories-are ∙ length-map (payloads 0x14 (own_fields (fields (drop (p + 21) s)))) directory_of

  pub directories-room : (base : ℕ) (w : List ℕ) → base + 8 * length (unit_here s p).directories ≤ length w
      → base + 8 * length (payloads 0x14 (own_fields (fields (drop (p + 21) s)))) ≤ length w
  directories-room base w h = let e = directories-count in omega arith

  pub described : {w w' : List ℕ} {base : ℕ} (source : DebugSource) (v : ℕ) {a : Span} {ds : Stored Span} → ds.base ≡ base → v ≡ version_in s (p + 21)
      → CompilationIn s (p + 21) a → DirectoriesIn s w w' (p + 21) base ds.count
      → Described s w w' source p base (record { source = source; place = p; version = v; compilation = a; directories = ds })
  unfolding header_here version_in
  described {w} {w'} {base} source v {a} {ds} eb ev C D = record {
    unit = record {
      version = rw (unit-header s p (step_at s p) 0x10 (p + 3) 18 (p + 21) refl U.is) ev;
      compilation = rw (unit-directory s p (step_at s p) 0x10 (p + 3) 18 (p + 21) refl U.is) C.is;
      directories = rw eb (ap (map directory_of) D.is ∙ sym directories-are);
      string = C.string;
      spans = rw eb D.spans;
      within = rw eb D.within;
    };
    source-is = refl;
    place = refl;
    directories = eb;
    count = sym (spanned-length s w' base ds.count) ∙ ap length D.is ∙ sym directories-count;
    rest = D.rest;
  }
