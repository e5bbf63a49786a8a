-- A call's file and line, and the warnings about them.
use mathlib.Core.Path.{◌≡◌, refl, ap, ◌∙◌}
use mathlib.Core.List.{List, [], ◌∷◌}
use mathlib.Core.Option.{Option, none, some}
use Prim.Native.Nat.{ℕ, ◌+◌, ◌^◌, ◌≤◌, ◌<◌}
use native.Mathlib.Omega.{arith}
use lib.ListN.{length}
use borrow.Author.Tests.{lt-ltb, le-ltb}
use Rattle.std.specs.Prelude.{Option as Maybe, Some, None, Result, Ok, Err}
use Rattle.tlv.specs.declared.model.FileIndex.{FileIndex}
use Rattle.tlv.specs.declared.refusal.Refusal.{Refusal}
use Rattle.tlv.specs.Refusals.{status_of}
use Rattle.tlv.specs.Outcome.{◌>>=◌}
use Rattle.tlv.proofs.AnswerLaws.{numbered}
use Rattle.tlv.specs.Bytes.{le_at}
use Rattle.tlv.specs.Checked.{Accepted}
use Rattle.buffers.specs.Buffer.{Put, top}
use Rattle.buffers.specs.Output.{about, missing_inline_call_file, invalid_inline_call_line, kind_number, each_of, warnings_bytes}
use Rattle.buffers.proofs.BufferLaws.{put-none}
use Rattle.access.specs.Places.{entry_here}
use Rattle.access.proofs.EntryPlaceLaws.{entry_depth-is, entry_tag-is}
use Rattle.lines.specs.Files.{FileIndices, file_index, get}
use Rattle.files.specs.Indices.{number_of}
use Rattle.references.specs.Search.{unsigned_attribute, file_index_attribute}
use Rattle.references.specs.Tables.{EntryKnown, number_given}
use Rattle.references.proofs.ReferenceLaws.{entry-placed, entry-step, entry-inside}
use Rattle.imports.specs.Tree.{DetailContext, call_file_from, call_file_of, call_line_if, call_line_of}
use Rattle.references.specs.Warnings.{AboutWarned}
use Rattle.dies.specs.Answers.{value_or}
use Rattle.dies.specs.Calls.{FileCalled, LineCalled}
use Rattle.dies.proofs.AttributeReads.{accepted-placed}

-- no warning
pub warn_none : {at : ℕ} {u : List ℕ} → at ≤ top → length u < top → Put at (warnings_bytes []) u u at
unfolding warnings_bytes each_of
warn_none h k = put-none h k

-- ---- the numbers of the fields of an entry and its unit

module _ {s : List ℕ} {q p : ℕ} (A : Accepted s) (K : EntryKnown s q p) where
  pub entry_read : p + 15 ≤ length s
  entry_read = entry-inside (accepted-placed A K) K

  pub entry_depth-here : (entry_here s p).depth ≡ le_at 2 s (p + 11)
  entry_depth-here =
      let e : p + 3 + 8 ≡ p + 11 = omega arith in
      entry_depth-is s p _ 0x17 (p + 3) 12 (p + 15) refl (entry-step (accepted-placed A K) K) (entry-placed (accepted-placed A K) K) refl ∙ ap (le_at 2 s) e

  pub entry_tag-here : (entry_here s p).tag ≡ le_at 2 s (p + 13)
  entry_tag-here =
      let e : p + 3 + 10 ≡ p + 13 = omega arith in
      entry_tag-is s p _ 0x17 (p + 3) 12 (p + 15) refl (entry-step (accepted-placed A K) K) (entry-placed (accepted-placed A K) K) refl ∙ ap (le_at 2 s) e

-- ---- the file

-- what an answer says of the number
number-none : (o : Option ℕ) → None ≡ number_given o → o ≡ none
number-none none e = refl
number-none (some n) e = cc

number-some : (o : Option ℕ) (m : ℕ) → Some m ≡ number_given o → o ≡ some m
number-some none m e = cc
number-some (some n) m e = cc

of_number : (is : FileIndices) (s : List ℕ) (p number : ℕ) (f : Maybe FileIndex) → Some number ≡ number_given (file_index_attribute (entry_here s p) 0x58) → number_of f ≡ get is number
    → (c : DetailContext) → c.file_indices ≡ is → call_file_of c (entry_here s p) ≡ call_file_from c (entry_here s p) number (number_of f)
unfolding call_file_of
of_number is s p number f read found c ei = rw (number-some (file_index_attribute (entry_here s p) 0x58) number read, ei, ← found)

module _ {is : FileIndices} {s : List ℕ} {q p at : ℕ} {u : List ℕ} (h : at ≤ top) (k : length u < top) where
  pub file-missing : None ≡ number_given (file_index_attribute (entry_here s p) 0x58) → FileCalled is s q p at u u 0 (record { value = file_index 0; at = at })
  unfolding call_file_of
  file-missing read = record {
    warnings = [];
    laid = λ z. warn_none h k;
    ok = λ z c ei eu. rw (number-none (file_index_attribute (entry_here s p) 0x58) read);
    no = λ z. absurd (z refl);
  }

  module _ {number : ℕ} {f : Maybe FileIndex} (read : Some number ≡ number_given (file_index_attribute (entry_here s p) 0x58)) (found : number_of f ≡ get is number) where
    pub file-found : {i : FileIndex} → f ≡ Some i → FileCalled is s q p at u u 0 (record { value = i; at = at })
    file-found is_number = record {
      warnings = [];
      laid = λ z. warn_none h k;
      ok = λ z c ei eu. of_number is s p number f read found c ei ∙ rw is_number;
      no = λ z. absurd (z refl);
    }

    pub file-warned : {u' : List ℕ} {y : Result ℕ Refusal} → f ≡ None → AboutWarned s q p 8 number at u u' y
        → FileCalled is s q p at u u' (status_of y) (record { value = file_index 0; at = value_or at y })
    unfolding ◌>>=◌ kind_number
    file-warned {y = Ok r} missing W = record {
      warnings = about missing_inline_call_file W.is.offset number ∷ [];
      laid = λ z. W.is.laid missing_inline_call_file refl;
      ok = λ z c ei eu. of_number is s p number f read found c ei ∙ rw (missing, eu, W.is.is);
      no = λ z. absurd (z refl);
    }
    file-warned {y = Err e} missing W = record {
      warnings = [];
      laid = λ z. absurd (numbered e z);
      ok = λ z. absurd (numbered e z);
      no = λ z c ei eu. of_number is s p number f read found c ei ∙ rw (missing, eu, W.is);
    }

-- ---- the line

of_line : (s : List ℕ) (p number : ℕ) → Some number ≡ number_given (unsigned_attribute (entry_here s p) 0x59) → (c : DetailContext) → call_line_of c (entry_here s p) ≡ call_line_if c (entry_here s p) (some number)
unfolding call_line_of
of_line s p number read c = rw (number-some (unsigned_attribute (entry_here s p) 0x59) number read)

module _ {s : List ℕ} {q p at : ℕ} {u : List ℕ} (h : at ≤ top) (k : length u < top) where
  pub line-missing : None ≡ number_given (unsigned_attribute (entry_here s p) 0x59) → LineCalled s q p at u u 0 (record { value = 0; at = at })
  unfolding call_line_of
  line-missing read = record {
    warnings = [];
    laid = λ z. warn_none h k;
    ok = λ z c eu. rw (number-none (unsigned_attribute (entry_here s p) 0x59) read);
    no = λ z. absurd (z refl);
  }

  module _ {number : ℕ} (read : Some number ≡ number_given (unsigned_attribute (entry_here s p) 0x59)) where
    pub line_small : number < 4294967296 → LineCalled s q p at u u 0 (record { value = number; at = at })
    line_small l = record {
      warnings = [];
      laid = λ z. warn_none h k;
      ok = λ z c eu. of_line s p number read c ∙ rw (lt-ltb number (2 ^ 32) (omega arith));
      no = λ z. absurd (z refl);
    }

    pub line-warned : {u' : List ℕ} {y : Result ℕ Refusal} → 4294967296 ≤ number → AboutWarned s q p 9 number at u u' y
        → LineCalled s q p at u u' (status_of y) (record { value = 0; at = value_or at y })
    unfolding ◌>>=◌ kind_number
    line-warned {y = Ok r} l W = record {
      warnings = about invalid_inline_call_line W.is.offset number ∷ [];
      laid = λ z. W.is.laid invalid_inline_call_line refl;
      ok = λ z c eu. of_line s p number read c ∙ rw (le-ltb number (2 ^ 32) (omega arith), eu, W.is.is);
      no = λ z. absurd (z refl);
    }
    line-warned {y = Err e} l W = record {
      warnings = [];
      laid = λ z. absurd (numbered e z);
      ok = λ z. absurd (numbered e z);
      no = λ z c eu. of_line s p number read c ∙ rw (le-ltb number (2 ^ 32) (omega arith), eu, W.is);
    }
