-- The statement sequence that an entry asks for, as it is read, and the warning of one that does not exist.
use mathlib.Core.Path.{◌≡◌, refl, sym, ap, ◌∙◌}
use mathlib.Core.Logic.{◌⊎◌, inl, inr, ⊎_elim}
use mathlib.Core.Bool.{Bool, true, false, cond, not, ◌||◌}
use mathlib.Core.List.{List, [], ◌∷◌}
use mathlib.Core.Option.{Option, none, some}
use Prim.Native.Nat.{ℕ, ◌+◌, ◌-◌, ◌*◌, ◌^◌, ◌≤◌, ◌<◌}
use native.Mathlib.Omega.{arith}
use lib.Dec.{eqb}
use lib.ListN.{length, take, drop}
use borrow.Author.Tests.{eqb-true}
use Rattle.std.specs.Prelude.{Option as Maybe, Some, None, Result, Ok, Err}
use Rattle.tlv.specs.declared.refusal.Refusal.{Refusal}
use Rattle.tlv.specs.Refusals.{status_of}
use Rattle.tlv.proofs.AnswerLaws.{numbered}
use Rattle.tlv.specs.Outcome.{done, ◌>>=◌}
use Rattle.tlv.specs.Bytes.{le_at}
use Rattle.tlv.specs.Cursor.{step_at}
use Rattle.tlv.specs.Grammar.{may_follow, unit_shaped, payload_shaped, shaped}
use Rattle.tlv.specs.Model.{CompilationUnit, Attribute}
use Rattle.tlv.specs.Checked.{Accepted}
use Rattle.tlv.proofs.TestLaws.{and_left, and_right, or_either}
use Rattle.tlv.proofs.ShapeLaws.{number_at}
use Rattle.tlv.proofs.PlaceFacts.{placed-start, placed-shaped}
use Rattle.buffers.specs.Buffer.{top}
use Rattle.buffers.specs.Output.{kind_number, about, invalid_statement_sequence, each_of, warnings_bytes}
use Rattle.buffers.proofs.BufferLaws.{put-none}
use Rattle.access.specs.declared.access.Value.{Value}
use Rattle.access.specs.Places.{entry_here, unit_here}
use Rattle.access.specs.Access.{Meaning, absent, unsigned, file_number, text, unit_reference, section_reference, supplementary_reference, section_offset, line_offset, address, failed, value_of, meaning_of, said, Says}
use Rattle.access.proofs.IndexModel.{either}
use Rattle.access.proofs.UnitFacts.{unit-word_size}
use Rattle.files.specs.Pieces.{UnitPlaced}
use Rattle.files.proofs.UnitLaws.{unit-within}
use Rattle.rnglists.specs.declared.sizes.AddressSize.{AddressSize}
use Rattle.rnglists.specs.RangeLists.{largest}
use Rattle.rnglists.specs.Sizes.{width_of}
use Rattle.rows.specs.Stored.{sequence_of}
use Rattle.collect.specs.Collects.{UnitIn}
use Rattle.collect.proofs.HeaderPlaces.{unit-stands}
use Rattle.references.specs.Search.{attribute}
use Rattle.imports.specs.Import.{sequence_if, statement_sequence_offset, sequence_warning}
use Rattle.references.specs.Warnings.{AboutWarned}
use Rattle.dies.specs.Answers.{value_or}
use Rattle.subprograms.specs.Steps.{sequence_in, SequenceWarned}

-- ---- the size of a unit's word

module _ {s : List ℕ} {q : ℕ} (A : Accepted s) (U : UnitIn s q) where
  stands : UnitPlaced s q
  stands = unit-stands (placed-start s A.number A.is) U

  pub word-within : q + 21 ≤ length s
  word-within = unit-within stands

  word-here : (unit_here s q).word_size ≡ le_at 1 s (q + 3 + 17)
  word-here = unit-word_size s q (step_at s q) 0x10 (q + 3) 18 (q + 21) refl stands.is stands.placed refl

  -- the grammar has words of 4 and of 8 bytes
  word-is : (le_at 1 s (q + 3 + 17) ≡ 4) ⊎ (le_at 1 s (q + 3 + 17) ≡ 8)
  unfolding shaped payload_shaped unit_shaped
  word-is =
      let n = le_at 1 s (q + 3 + 17) in
      let shape : payload_shaped stands.placed.context 0x10 (take 18 (drop (q + 3) s)) ≡ true =
      and_right (may_follow stands.placed.context.previous 0x10) (payload_shaped stands.placed.context 0x10 (take 18 (drop (q + 3) s)))
      (placed-shaped s q (step_at s q) 0x10 (q + 3) 18 (q + 21) stands.placed refl stands.is) in
      let all = rw (number_at s (q + 3) 18 1 17 (le_at 1 s (q + 3 + 17)) (omega arith) refl) at shape in
      let word : (eqb n 4 || eqb n 8) ≡ true = search (and_left, and_right) in
      ⊎_elim (λ e. inl (eqb-true n 4 e)) (λ e. inr (eqb-true n 8 e)) (or_either (eqb n 4) (eqb n 8) word)

  -- .. and their largest numbers are those of an address of the size
  pub word-size : {n : ℕ} → n ≡ le_at 1 s (q + 3 + 17) → (n ≡ 4) ⊎ (n ≡ 8)
  word-size e = rw e word-is

  pub word-limit : {n r : ℕ} (size : AddressSize) → n ≡ le_at 1 s (q + 3 + 17) → width_of size ≡ n → r ≡ largest (width_of size)
      → r ≡ 2 ^ (8 * (unit_here s q).word_size) - 1
  unfolding largest
  word-limit size e wide is = let w : (unit_here s q).word_size ≡ width_of size = word-here ∙ sym e ∙ sym wide in rw w is

-- ---- the sequence that a value asks for

abbrev sequence_meant : ℕ → Meaning → Option ℕ
sequence_meant limit absent = none
sequence_meant limit (unsigned n) = cond (eqb n limit) none (some n)
sequence_meant limit (file_number n) = none
sequence_meant limit (text b) = none
sequence_meant limit (unit_reference n) = none
sequence_meant limit (section_reference n) = none
sequence_meant limit (supplementary_reference n) = none
sequence_meant limit (section_offset n) = cond (eqb n limit) none (some n)
sequence_meant limit (line_offset n) = cond (eqb n limit) none (some n)
sequence_meant limit (address n) = none
sequence_meant limit failed = none

value-sequence : (limit : ℕ) (s : List ℕ) (v : Maybe Value) → sequence_in limit v ≡ sequence_meant limit (said s v)
value-sequence limit s None = refl
value-sequence limit s (Some (Value.Unsigned n)) = refl
value-sequence limit s (Some (Value.FileNumber n)) = refl
value-sequence limit s (Some (Value.Text start len)) = refl
value-sequence limit s (Some (Value.UnitReference n)) = refl
value-sequence limit s (Some (Value.SectionReference n)) = refl
value-sequence limit s (Some (Value.SupplementaryReference n)) = refl
value-sequence limit s (Some (Value.SectionOffset n)) = refl
value-sequence limit s (Some (Value.LineOffset n)) = refl
value-sequence limit s (Some (Value.Address n)) = refl
value-sequence limit s (Some Value.Failed) = refl

cond-not : (b : Bool) (x y : Option ℕ) → cond b x y ≡ cond (not b) y x
cond-not true x y = refl
cond-not false x y = refl

meaning-sequence : (u : CompilationUnit) (o : Option Attribute) → sequence_meant (2 ^ (8 * u.word_size) - 1) (meaning_of o) ≡ sequence_if u o
unfolding meaning_of value_of
meaning-sequence u none = refl
meaning-sequence u (some a) =
    let asks = cond-not (eqb a.value (2 ^ (8 * u.word_size) - 1)) none (some a.value) in
    either (eqb a.kind 1) (λ y. rw (eqb-true a.kind 1 y) asks) (λ n1.
    either (eqb a.kind 2) (λ y. rw (eqb-true a.kind 2 y)) (λ n2.
    either (eqb a.kind 3) (λ y. rw (eqb-true a.kind 3 y)) (λ n3.
    either (eqb a.kind 4) (λ y. rw (eqb-true a.kind 4 y)) (λ n4.
    either (eqb a.kind 5) (λ y. rw (eqb-true a.kind 5 y)) (λ n5.
    either (eqb a.kind 6) (λ y. rw (eqb-true a.kind 6 y)) (λ n6.
    either (eqb a.kind 7) (λ y. rw (eqb-true a.kind 7 y) asks) (λ n7.
    either (eqb a.kind 8) (λ y. rw (eqb-true a.kind 8 y) asks) (λ n8.
    either (eqb a.kind 9) (λ y. rw (eqb-true a.kind 9 y)) (λ n9.
    rw (n1, n2, n3, n4, n5, n6, n7, n8, n9))))))))))

module _ {s : List ℕ} {limit : ℕ} {v : Maybe Value} (q p : ℕ) (says : Says s v (meaning_of (attribute (entry_here s p) 0x3e0c)))
    (most : limit ≡ 2 ^ (8 * (unit_here s q).word_size) - 1) where
  pub sequence-read : {x : Option ℕ} → x ≡ sequence_in limit v → x ≡ statement_sequence_offset (unit_here s q) (entry_here s p)
  unfolding statement_sequence_offset
  sequence-read is =
      is ∙ value-sequence limit s v
      ∙ ap (sequence_meant limit) says.is
      ∙ ap (λ (l : ℕ). sequence_meant l (meaning_of (attribute (entry_here s p) 0x3e0c))) most
      ∙ meaning-sequence (unit_here s q) (attribute (entry_here s p) 0x3e0c)

-- ---- a sequence that does not exist warns

module _ {main : List ℕ} {unit p at : ℕ} {u : List ℕ} where
  -- none is asked for, or it exists
  pub warned-none : (requested : Maybe ℕ) (invalid : Bool) → sequence_warning (unit_here main unit) (entry_here main p) (sequence_of requested) invalid ≡ done []
      → at ≤ top → length u < top → SequenceWarned main unit p (sequence_of requested) invalid at u u 0 at
  unfolding warnings_bytes each_of
  warned-none requested invalid e h k = record {
    new = [];
    ok = λ z. e;
    laid = λ z. put-none h k;
    no = λ n. absurd (n refl);
  }

  pub warned-about : {n : ℕ} {u' : List ℕ} (y : Result ℕ Refusal) → AboutWarned main unit p 4 n at u u' y
      → SequenceWarned main unit p (sequence_of (Some n)) true at u u' (status_of y) (value_or at y)
  unfolding ◌>>=◌ kind_number
  warned-about {n} (Ok r) W = record {
    new = about invalid_statement_sequence W.is.offset n ∷ [];
    ok = λ z. rw W.is.is;
    laid = λ z. W.is.laid invalid_statement_sequence refl;
    no = λ z. absurd (z refl);
  }
  warned-about (Err e) W = record {
    new = [];
    ok = λ z. absurd (numbered e z);
    laid = λ z. absurd (numbered e z);
    no = λ z. rw W.is;
  }
