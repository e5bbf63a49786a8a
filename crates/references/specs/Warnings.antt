-- Contract. What a warning about an entry promises.
use Rattle.std.specs.Prelude.{ℕ, ◌≡◌, List, [], ◌∷◌, ◌++◌, Result, Ok, Err}
use Rattle.tlv.specs.Tags.{tray_warning_tag}
use Rattle.tlv.specs.Bytes.{bytes_of}
use Rattle.tlv.specs.Fields.{encode}
use Rattle.tlv.specs.declared.refusal.Refusal.{Refusal}
use Rattle.tlv.specs.Refusals.{number_of}
use Rattle.tlv.specs.Outcome.{refused, done}
use Rattle.buffers.specs.Buffer.{Put}
use Rattle.buffers.specs.Output.{WarningKind, about, kind_number, warnings_bytes}
use Rattle.access.specs.Places.{entry_here, unit_here}
use Rattle.references.specs.Search.{absolute_entry_offset}

-- a warning of a kind about the entry at p of the unit at q was laid, with the entry's offset in its section, and the warnings go on at r
pub record WarningLaid (s : List ℕ) (q p kind number at : ℕ) (u u' : List ℕ) (r : ℕ) : Type 0 where
  pub offset : ℕ
  pub is : absolute_entry_offset (unit_here s q) (entry_here s p).offset ≡ done offset
  pub put : Put at (encode tray_warning_tag ((kind ∷ []) ++ bytes_of 8 offset ++ bytes_of 8 number)) u u' r
  pub laid : (k : WarningKind) → kind ≡ kind_number k → Put at (warnings_bytes (about k offset number ∷ [])) u u' r

abbrev pub AboutIs : List ℕ → ℕ → ℕ → ℕ → ℕ → ℕ → List ℕ → List ℕ → Result ℕ Refusal → Type 0
AboutIs s q p kind number at u u' (Ok r) = WarningLaid s q p kind number at u u' r
AboutIs s q p kind number at u u' (Err e) = absolute_entry_offset (unit_here s q) (entry_here s p).offset ≡ refused (number_of e)

-- the warning was laid, or the offset is refused
pub record AboutWarned (s : List ℕ) (q p kind number at : ℕ) (u u' : List ℕ) (r : Result ℕ Refusal) : Type 0 where
  pub is : AboutIs s q p kind number at u u' r
