-- A warning about an entry: the entry's offset is read, and the warning laid or the sum of the offsets refused.
use mathlib.Core.Path.{◌≡◌, refl, sym, ap, ◌∙◌}
use mathlib.Core.List.{List, [], ◌∷◌, ◌++◌, append-nil}
use Prim.Native.Nat.{ℕ, ◌+◌, ◌≤◌}
use lib.ListN.{length}
use Rattle.std.specs.Prelude.{Ok, Err}
use Rattle.tlv.specs.declared.refusal.Refusal.{Refusal}
use Rattle.tlv.specs.Refusals
use Rattle.tlv.specs.Outcome.{refused, done}
use Rattle.tlv.specs.Bytes.{le_at, bytes_of}
use Rattle.tlv.specs.Fields.{encode}
use Rattle.tlv.specs.Checked.{Placed, Accepted}
use Rattle.tlv.proofs.PlaceFacts.{placed-start}
use Rattle.buffers.specs.Buffer.{Put}
use Rattle.buffers.specs.Output.{about, warning_payload, each_of, warnings_bytes}
use Rattle.buffers.proofs.OutputLaws.{put-about}
use Rattle.access.specs.Places.{entry_here, unit_here}
use Rattle.access.proofs.EntryPlaceLaws.{entry-offset_is}
use Rattle.references.specs.Search.{absolute_entry_offset}
use Rattle.references.specs.Tables.{EntryKnown}
use Rattle.references.specs.Warnings.{AboutWarned}
use Rattle.references.proofs.ReferenceLaws.{entry-placed, entry-step, entry-inside}

module _ {s : List ℕ} {q p : ℕ} (A : Accepted s) (K : EntryKnown s q p) where
  pub warned-placed : Placed s 0
  warned-placed = placed-start s A.number A.is

  pub warned_inside : p + 15 ≤ length s
  warned_inside = entry-inside warned-placed K

  same-offset : {offset : ℕ} → offset ≡ le_at 8 s (p + 3) → absolute_entry_offset (unit_here s q) (entry_here s p).offset ≡ absolute_entry_offset (unit_here s q) offset
  same-offset eo =
      ap (absolute_entry_offset (unit_here s q)) (entry-offset_is s p _ 0x17 (p + 3) 12 (p + 15) refl (entry-step warned-placed K) (entry-placed warned-placed K) refl ∙ sym eo)

  module _ {kind number at offset : ℕ} {u : List ℕ} (eo : offset ≡ le_at 8 s (p + 3)) where
    pub about-refused : {u' : List ℕ} (e : Refusal) → refused (Refusals.number_of e) ≡ absolute_entry_offset (unit_here s q) offset → AboutWarned s q p kind number at u u' (Err e)
    about-refused e is = record { is = same-offset eo ∙ sym is }

    pub about-put : {u' : List ℕ} {sum r : ℕ} → done sum ≡ absolute_entry_offset (unit_here s q) offset → Put at (encode 0x46 ((kind ∷ []) ++ bytes_of 8 sum ++ bytes_of 8 number)) u u' r
        → AboutWarned s q p kind number at u u' (Ok r)
    unfolding warnings_bytes each_of
    about-put {sum = sum} is P = record {
      is = record {
        offset = sum;
        is = same-offset eo ∙ sym is;
        put = P;
        laid = λ k known. rw (append-nil (encode 0x46 (warning_payload (about k sum number)))) (put-about k kind sum number known P);
      };
    }
