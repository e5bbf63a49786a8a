-- The file table has room for each file that an import can meet: its files are different ones of those.
use mathlib.Core.Path.{◌≡◌, sym, ap, ◌∙◌}
use mathlib.Core.List.{List}
use mathlib.Core.Option.{Option, none, some}
use Prim.Native.Nat.{ℕ, ◌+◌, ◌<◌, ◌^◌}
use native.Mathlib.Omega.{arith}
use lib.ListN.{length}
use Rattle.tlv.specs.declared.model.DebugSource.{DebugSource}
use Rattle.buffers.specs.Output.{FileEntry}
use Rattle.lines.specs.Files.{place_of}
use Rattle.files.specs.declared.store.StoredFiles.{StoredFiles}
use Rattle.files.specs.declared.pieces.FilePieces.{FilePieces}
use Rattle.files.specs.Pieces.{source_in, PiecesIn, PiecesSmall}
use Rattle.files.specs.Possible.{possible_files, Possible}
use Rattle.files.specs.Store.{stored_file, record_in, entries_of, FilesIn}
use Rattle.files.proofs.PigeonLaws.{pigeons, one_more}

module _ {main supplementary w : List ℕ} {t : StoredFiles} (F : FilesIn main supplementary w t) where
  abbrev file : ℕ → FileEntry
  file i = stored_file main supplementary (record_in w t i)

  place-file : FileEntry → Option ℕ
  place-file e = place_of e (entries_of main supplementary w t)

  different : (i j : ℕ) → i < j → j < t.count → file i ≡ file j → ⊥
  unfolding place-file
  different i j h g q =
      let d : some i ≡ some j = sym (F.distinct i (omega arith)) ∙ ap place-file q ∙ F.distinct j g in
      let z : i ≡ j = cc in
      omega arith

  pub count_room : t.count < t.room
  count_room = omega (arith, pigeons t.count file (possible_files main supplementary) different (λ i h. (F.possible i h).listed), F.few)

  -- and for one more that it has not
  pub room-left : (e : FileEntry) → Possible main supplementary e → place_of e (entries_of main supplementary w t) ≡ none → t.count + 1 < t.room
  unfolding place-file
  room-left e P q = omega (arith, one_more t.count file e (possible_files main supplementary) different (λ i h. (F.possible i h).listed) other P.listed, F.few)
    where
      other : (i : ℕ) → i < t.count → file i ≡ e → ⊥
      other i h z =
          let d : some i ≡ none = sym (F.distinct i h) ∙ ap (λ (x : FileEntry). place_of x (entries_of main supplementary w t)) z ∙ q in
          let y : ◌≡◌ {A = ℕ} 0 1 = cc in
          omega arith

-- the sheets of a table are small
pub source-small : {main supplementary w s : List ℕ} {t : StoredFiles} (source : DebugSource) → FilesIn main supplementary w t → s ≡ source_in main supplementary source → length s < 2 ^ 32
source-small DebugSource.Main F e = rw e F.main-small
source-small DebugSource.Supplementary F e = rw e F.supplementary-small

-- pieces of a short sheet end at numbers of 4 bytes
pub pieces-small : {s : List ℕ} {p : FilePieces} → PiecesIn s p → length s < 2 ^ 32 → PiecesSmall p
pieces-small P h = record {
  compilation = omega (arith, P.compilation.within);
  directory = omega (arith, P.directory.within);
  own = omega (arith, P.own.within);
  base = omega (arith, P.base.within);
}
