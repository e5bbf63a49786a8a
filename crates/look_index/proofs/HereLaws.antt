-- One function of a tray of any content: its form, and that each function of a tray in document 01's form is found at its place.
use mathlib.Core.Path.{◌≡◌, refl, sym}
use mathlib.Core.Bool.{Bool, true, false}
use mathlib.Core.List.{List}
use Prim.Native.Nat.{ℕ, zero, suc, ◌-◌, ◌≤◌, ◌<◌}
use native.Mathlib.Omega.{arith}
use lib.Dec.{eqb}
use lib.ListN.{length, take, drop}
use borrow.Author.Tests.{eqb-true, eqb-false, ne_eqb}
use Rattle.std.specs.Prelude.{Option, Some, None, Ok, Err}
use Rattle.tlv.specs.declared.fields.FieldSpan.{FieldSpan}
use Rattle.tlv.specs.declared.refusal.Refusal.{Refusal}
use Rattle.tlv.specs.Outcome.{refused, done}
use Rattle.tlv.specs.Lists.{All, exists}
use Rattle.tlv.specs.Fields.{FieldList, fields}
use Rattle.tlv.specs.Cursor.{field_from}
use Rattle.tlv.specs.Checked.{field_in}
use Rattle.tlv.proofs.FieldLaws.{at-none, fields-field, next-less, next-within}
use Rattle.buffers.specs.Reader.{records_after, records_formed, depth_after, records_form}
use Rattle.access.specs.Places.{behind}
use Rattle.lookup.specs.Tray.{GroupAt, up_to_next}
use Rattle.lookup.specs.Walk.{Stands, own_at}
use Rattle.lookup.proofs.OwnLaws.{own-formed}
use Rattle.lookup.proofs.StepLaws.{functions_from, functions-none, functions-this, functions-next, formed-here, rest-formed, stands-next}
use Rattle.lookup.proofs.StepLaws.{behind-is}
use Rattle.look_index.specs.Index.{function_from, function_here}
use Rattle.look_index.specs.LookIn.{IsHere}

-- ---- what stands at a place

module _ (s : List ℕ) (p : ℕ) where
  pub here_end : None ≡ field_from s p → IsHere s p (Err Refusal.MisshapenRecords)
  unfolding function_here
  here_end at = record { is = (refl, at-none s p at (λ (fs : FieldList). function_from p fs ≡ refused 19) refl refl) }

  module _ (f : FieldSpan) (at : Some f ≡ field_from s p) where
    pub here-other : (f.tag ≡ 0x41 → ⊥) → IsHere s p (Err Refusal.MisshapenRecords)
    unfolding function_here records_form records_after exists
    here-other q = record { is = (refl, rw (fields-field s p f at, ne_eqb f.tag 0x41 q)) }

    module _ (q : f.tag ≡ 0x41) (g : List ℕ) (payload : g ≡ take f.len (drop f.start s)) where
      pub here-misformed : false ≡ records_formed 0 0x41 g → IsHere s p (Err Refusal.MisshapenRecords)
      unfolding function_here records_form records_after exists
      here-misformed h = record { is = (refl, rw (fields-field s p f at, q, ← payload, ← h)) }

      module _ (formed : true ≡ records_formed 0 0x41 g) where
        pub here-own : false ≡ records_form 0x41 0 (up_to_next (fields (drop f.next s))) → IsHere s p (Err Refusal.MisshapenRecords)
        unfolding function_here records_form records_after exists depth_after
        here-own k = record { is = (refl, rw (fields-field s p f at, q, ← payload, ← formed, ← k)) }

        pub here-formed : true ≡ records_form 0x41 0 (up_to_next (fields (drop f.next s))) → IsHere s p (Ok f.next)
        unfolding function_here records_form records_after exists depth_after own_at
        here-formed k = record {
          is = record {
            function = record { place = p; head = field_in s 0x41 f.start f.len; rest = own_at s f.next };
            is = rw (fields-field s p f at, q, ← payload, ← formed, ← k, payload, behind-next);
            here = refl;
            rest = refl;
            stands = record { previous = 0x41; depth = 0; formed = sym k; within = next-within s p f at };
          };
        }
          where
            behind-next : behind p (field_in s 0x41 f.start f.len) ≡ f.next
            behind-next = behind-is s p f at

-- ---- of a tray in document 01's form

module _ (s : List ℕ) where
  abbrev Found : GroupAt → Type 0
  Found f = function_here s f.place ≡ done f

  -- the function whose field is met at p
  this_here : (p : ℕ) (f : FieldSpan) → Some f ≡ field_from s p → f.tag ≡ 0x41 → Stands s p
      → Found (record { place = p; head = field_in s f.tag f.start f.len; rest = own_at s f.next })
  unfolding function_here own_at records_form records_formed depth_after exists records_after
  this_here p f at q st =
      let formed : records_formed 0 0x41 (take f.len (drop f.start s)) ≡ true = rw q at (formed-here s p f at st) in
      let after : records_form 0x41 0 (fields (drop f.next s)) ≡ true = rw q at (rest-formed s p f at st) in
      rw (fields-field s p f at, q, formed, own-formed 0x41 0 (fields (drop f.next s)) after, behind-is s p f at)

  by_field : (p : ℕ) (o : Option FieldSpan) → o ≡ field_from s p → Stands s p
      → ((next : ℕ) → length s - next < length s - p → Stands s next → All Found (functions_from s next)) → All Found (functions_from s p)
  by_field p None at st rest = rw (functions-none s p at) tt
  by_field p (Some f) at st rest = go (eqb f.tag 0x41) refl
    where
      left : All Found (functions_from s f.next)
      left = rest f.next (next-less s p f at) (stands-next s p f at st)

      go : (b : Bool) → eqb f.tag 0x41 ≡ b → All Found (functions_from s p)
      go true q = let k = eqb-true f.tag 0x41 q in rw (functions-this s p f at k) (this_here p f at k st, left)
      go false q = rw (functions-next s p f at (eqb-false f.tag 0x41 q)) left

  by_fuel : (k p : ℕ) → length s - p ≤ k → Stands s p → All Found (functions_from s p)
  by_fuel zero p h st = by_field p (field_from s p) refl st (λ next l. absurd (omega arith))
  by_fuel (suc k) p h st = by_field p (field_from s p) refl st (λ next l. by_fuel k next (omega arith))

pub each-here : (s : List ℕ) → records_form 0 0 (fields s) ≡ true → All (λ f. function_here s f.place ≡ done f) (functions_from s 0)
each-here s h = by_fuel s (length s) 0 (omega arith) (record { previous = 0; depth = 0; formed = h; within = omega arith })
