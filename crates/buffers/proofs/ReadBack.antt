-- What the trays are given is read back from their bytes, where it fits: the record `ReadBack` of specs/Fits.antt.
use mathlib.Core.Path.{◌≡◌, refl}
use mathlib.Core.List.{List, [], ◌∷◌}
use mathlib.Core.Option.{Option, some}
use Prim.Native.Nat.{ℕ}
use Rattle.tlv.specs.Lists.{All}
use Rattle.tlv.specs.Fields.{Field, end}
use Rattle.tlv.proofs.ListLaws.{all_map, map_back}
use Rattle.buffers.specs.Output.{FileEntry, Function, Warning, file_payload, warning_payload, records_bytes, files_bytes, warnings_bytes}
use Rattle.buffers.specs.Reader.{function_of, read_each, file_entry_of, warning_of, read_records, read_files, read_warnings}
use Rattle.buffers.specs.Fits.{FunctionFits, FileFits, WarningFits, ReadBack}
use Rattle.buffers.proofs.FieldLaws.{prepend, whole-only, fields-spelled, spells-tagged, fields_of_each, tagged}
use Rattle.buffers.proofs.PayloadLaws.{warning-short, file-back, warning_back}
use Rattle.buffers.proofs.RecordFields.{function_fields, records-spelled}
use Rattle.buffers.proofs.RecordGroups.{function_group, functions-grouped, function-back}
use Rattle.buffers.proofs.RecordForm.{records-formed}

-- fields of one tag, each of which is read back
read-each : {A : Type 0} (read : Field → Option A) (t : ℕ) (g : A → List ℕ) (xs : List A) → All (λ x. read (record { tag = t; payload = g x }) ≡ some x) xs → read_each read (prepend (tagged t g xs) end) ≡ some xs
unfolding read_each
read-each read t g [] h = refl
read-each read t g (x ∷ xs) h = rw (h.0, read-each read t g xs h.1)

pub records-back : (fs : List Function) → All FunctionFits fs → read_records (records_bytes fs) ≡ some fs
unfolding read_records
records-back fs h =
    let all = fields_of_each function_fields fs in
    rw (fields-spelled (records-spelled fs h), records-formed fs h, whole-only all, functions-grouped fs, map_back function_of function_group fs function-back h)

pub files-back : (fs : List FileEntry) → All FileFits fs → read_files (files_bytes fs) ≡ some fs
unfolding read_files files_bytes
files-back fs h = rw (fields-spelled (spells-tagged 0x40 file_payload fs h)) (read-each file_entry_of 0x40 file_payload fs (all_map fs file-back h))

pub warnings-back : (ws : List Warning) → All WarningFits ws → read_warnings (warnings_bytes ws) ≡ some ws
unfolding read_warnings warnings_bytes
warnings-back ws h = rw (fields-spelled (spells-tagged 0x46 warning_payload ws (all_map ws warning-short h))) (read-each warning_of 0x46 warning_payload ws (all_map ws warning_back h))

pub read_back : ReadBack
read_back = record { records = records-back; files = files-back; warnings = warnings-back }
