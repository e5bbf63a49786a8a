-- The loop of next_range: what is left of the list gives what was asked from the start.
use mathlib.Core.Path.{◌≡◌, sym, ap, ◌∙◌}
use mathlib.Core.Bool.{Bool}
use mathlib.Core.List.{List, []}
use Prim.Native.Nat.{ℕ, ◌≤◌, ◌<◌}
use native.Mathlib.Omega.{arith}
use lib.ListN.{drop, length-drop}
use Rattle.std.specs.Prelude.{Result, Ok, Err, Some, None}
use Rattle.tlv.specs.Outcome.{Outcome, refused, done}
use Rattle.tlv.specs.declared.refusal.Refusal.{Refusal}
use Rattle.tlv.specs.declared.model.AddressRange.{AddressRange}
use Rattle.tlv.specs.Refusals.{number_of}
use Rattle.tlv.proofs.RefusalLaws.{refusal-number}
use Rattle.rnglists.specs.declared.entries.EntryRead.{EntryRead}
use Rattle.rnglists.specs.declared.lists.Meant.{Meant}
use Rattle.rnglists.specs.Standard.{RawEntry}
use Rattle.rnglists.specs.RangeLists.{read_entry, meaning_of, ranges_after, ranges_from, ranges_in}
use Rattle.rnglists.specs.Steps.{ReadsEntry, raw_entry, meaning_given, Says, NextIs}
use Rattle.rnglists.proofs.EntryLaws.{bounded-size}
use Rattle.rnglists.proofs.RangeListLaws.{ranges-step, refuses-entry, refuses-meaning}

-- from place p and base address `from` on the list is the one that was asked for
pub record Left (s addresses : List ℕ) (place size at base p from : ℕ) : Type 0 where
  pub goes : ranges_in size (drop place addresses) base (drop at s) ≡ ranges_in size (drop place addresses) from (drop p s)
  pub behind : at ≤ p

module _ {s addresses : List ℕ} {place size at base p from : ℕ} (L : Left s addresses place size at base p from) where
  left_by : (o : Outcome RawEntry) → o ≡ read_entry size (drop p s)
      → ranges_in size (drop place addresses) base (drop at s) ≡ ranges_from (ranges_in size (drop place addresses)) size (drop place addresses) from o
  left_by o e = L.goes ∙ ranges-step size (drop place addresses) from (drop p s)
      ∙ ap (ranges_from (ranges_in size (drop place addresses)) size (drop place addresses) from) (sym e)

  pub next-fault : {f : Refusal} → ReadsEntry s p size (Err f) → NextIs s addresses place size at base (Err f)
  next-fault {f} R = record { is = sym (left_by (refused (number_of f)) R.is); within = (refusal-number (refuses-entry size (drop p s)) (sym R.is)).0 }

  module _ {e : EntryRead} (R : ReadsEntry s p size (Ok e)) where
    -- what the entry at p says, and the list behind it; what follows an entry is of no account to what it says
    said : (m : Result Meant Refusal) → Says addresses place size from e.entry m
        → ranges_in size (drop place addresses) base (drop at s) ≡ ranges_after (λ c. ranges_in size (drop place addresses) c (drop e.next s)) from (meaning_given m)
    unfolding meaning_of
    said m S =
        left_by (done (raw_entry e.entry (drop e.next s))) R.is
        ∙ ap (ranges_after (λ c. ranges_in size (drop place addresses) c (drop e.next s)) from) (sym S.is)

    pub meant-fault : {f : Refusal} → Says addresses place size from e.entry (Err f) → NextIs s addresses place size at base (Err f)
    meant-fault {f} S = record { is = sym (said (Err f) S); within = omega (arith, refusal-number (refuses-meaning size (drop place addresses) from (raw_entry e.entry [])) (sym S.is)) }

    pub meant-end : Says addresses place size from e.entry (Ok Meant.End) → NextIs s addresses place size at base (Ok None)
    meant-end S = record { is = sym (said (Ok Meant.End) S); within = tt }

    pub meant-base : {c : ℕ} → Says addresses place size from e.entry (Ok (Meant.Base c)) → Left s addresses place size at base e.next c
    meant-base {c} S = record { goes = said (Ok (Meant.Base c)) S; behind = omega (arith, L.behind, R.within) }

    pub meant-range : {x : AddressRange} {d : Bool} → 0 < size → Says addresses place size from e.entry (Ok (Meant.Range x d))
        → NextIs s addresses place size at base (Ok (Some (record { range = x; dead = d; next = e.next; base = from })))
    unfolding meaning_of
    meant-range {x} {d} w S =
        let z = bounded-size size (drop place addresses) from (drop p s) (raw_entry e.entry (drop e.next s)) (record { range = x; tombstone = d })
        (omega arith) (sym R.is) (sym S.is) in
        record { is = sym (said (Ok (Meant.Range x d)) S); within = (omega (arith, z, length-drop e.next s, length-drop p s, L.behind, R.within), R.within.1) }
