-- A window's functions, laid field by field, and the list as a whole.
use mathlib.Core.Path.{◌≡◌, refl, sym, ap, subst, ◌∙◌}
use mathlib.Core.Bool.{Bool, true, false, cond, not}
use mathlib.Core.List.{List, [], ◌∷◌, ◌++◌}
use Prim.Native.Nat.{ℕ, ◌+◌, ◌-◌, ◌≤◌, ◌<◌}
use native.Mathlib.Omega.{arith}
use lib.ListN.{length, take, drop}
use borrow.Author.Tests.{lt-ltb, le-ltb, not-true, not-false}
use Rattle.std.specs.Prelude.{Some, None, Result, Ok}
use Rattle.tlv.specs.declared.fields.FieldSpan.{FieldSpan}
use Rattle.tlv.specs.declared.refusal.Refusal.{Refusal}
use Rattle.tlv.specs.declared.model.AddressRange.{AddressRange}
use Rattle.tlv.specs.Outcome.{refused, done, ◌>>=◌}
use Rattle.tlv.specs.Lists.{All, filter, is_empty}
use Rattle.tlv.specs.Bytes.{Bytes}
use Rattle.tlv.specs.Fields.{fields, encode}
use Rattle.tlv.specs.Cursor.{field_from}
use Rattle.tlv.specs.Model.{range_of}
use Rattle.tlv.specs.Refusals.{number_of}
use Rattle.tlv.proofs.FieldLaws.{field-within, payload-length}
use Rattle.buffers.specs.Buffer.{Put}
use Rattle.buffers.specs.Output.{each_of}
use Rattle.buffers.specs.Reader.{records_form}
use Rattle.buffers.proofs.BufferLaws.{put-length, put_whole, put-lost, put-fits, Left, left-put}
use Rattle.lookup.specs.Tray.{FieldAt, GroupAt, fields_at, function_range, functions_at, functions_of}
use Rattle.lookup.specs.Window.{fitting, ListAfter, listed_in, function_fields, listing}
use Rattle.lookup.specs.Means.{StandsIn}
use Rattle.lookup.specs.Listing.{wanted_bytes, Cleared}
use Rattle.lookup.specs.Answers.{list_given}
use Rattle.lookup.proofs.StepLaws.{functions_from, functions-none, functions-this, functions-next, fields-this}
use Rattle.lookup.proofs.PlaceLaws.{stand}

-- ---- the fields that are left

abbrev pub left_bytes : (AddressRange → Bool) → List ℕ → ℕ → List ℕ
left_bytes test s p = wanted_bytes test (functions_from s p)

module _ (s : List ℕ) (p : ℕ) (f : FieldSpan) (at : Some f ≡ field_from s p) where
  pub part-below : p ≤ f.next
  part-below = let i = field-within s p f at in omega arith

  -- the field's bytes are those from its place to the next
  part-is : Bytes s → take (f.next - p) (drop p s) ≡ encode f.tag (take f.len (drop f.start s))
  part-is b =
      let i = field-within s p f at in
      let l = payload-length s p f at in
      let stands = subst (λ (l : List FieldAt). All (StandsIn s) l) (fields-this s p f at)
      (subst (λ (q : ℕ). All (StandsIn s) (fields_at q (fields (drop p s)))) (omega arith) (stand s b 0 (drop p s) p refl)) in
      let here = stands.0 in
      let size : f.next - p ≡ 3 + length (take f.len (drop f.start s)) = omega arith in
      rw size here

module _ (s : List ℕ) (test : AddressRange → Bool) (p : ℕ) where
  pub left-none : None ≡ field_from s p → left_bytes test s p ≡ []
  unfolding wanted_bytes function_fields filter each_of
  left-none at = rw (functions-none s p at)

  module _ (f : FieldSpan) (at : Some f ≡ field_from s p) where
    pub left_other : (f.tag ≡ 0x41 → ⊥) → left_bytes test s p ≡ left_bytes test s f.next
    left_other q = rw (functions-next s p f at q)

    module _ (g : List ℕ) (x : AddressRange) (b : Bool) (q : f.tag ≡ 0x41) (payload : g ≡ take f.len (drop f.start s)) (is : x ≡ range_of g) (h : b ≡ test x) where
      pub left_not : b ≡ false → left_bytes test s p ≡ left_bytes test s f.next
      unfolding wanted_bytes filter
      left_not z = rw (functions-this s p f at q, ← payload, ← is, ← h, z)

      pub left-this : Bytes s → b ≡ true → left_bytes test s p ≡ take (f.next - p) (drop p s) ++ left_bytes test s f.next
      unfolding wanted_bytes filter function_fields each_of
      left-this bytes z = rw (part-is s p f at bytes, functions-this s p f at q, ← payload, ← is, ← h, z, q)

-- a wanted field is laid: the others are left
pub left_laid : {all lent₀ lent lent₂ : List ℕ} {at₁ at₂ : ℕ} (s : List ℕ) (test : AddressRange → Bool) (p : ℕ) (f : FieldSpan) (g : List ℕ) (x : AddressRange) (b : Bool)
    → Left 0 all lent₀ at₁ (left_bytes test s p) lent → Some f ≡ field_from s p → f.tag ≡ 0x41 → g ≡ take f.len (drop f.start s) → x ≡ range_of g
    → b ≡ test x → b ≡ true → Bytes s → Put at₁ (take (f.next - p) (drop p s)) lent lent₂ at₂ → Left 0 all lent₀ at₂ (left_bytes test s f.next) lent₂
left_laid s test p f g x b left at q payload is h z bytes put =
    left-put (left_bytes test s p) (left_bytes test s f.next) left (left-this s test p f at g x b q payload is h bytes z) put

-- ---- the list as a whole

module _ (s : List ℕ) (test : AddressRange → Bool) (lent : List ℕ) where
  abbrev answer : ListAfter
  answer = listed_in lent (listing test s lent)

  -- a refusal fills the lent tray with 0
  cleared-as : (n : Refusal) (lent₁ lent₂ : List ℕ) (x : Result ℕ Refusal) → length lent₁ ≡ length lent → Cleared n lent₁ lent₂ x
      → listing test s lent ≡ refused (number_of n)
      → list_given x lent₂ ≡ answer
  unfolding listed_in
  cleared-as n lent₁ lent₂ x l c e = rw (c.is, e, c.zeros, l)

  module _ (b : Bool) (form : b ≡ records_form 0 0 (fields s)) where
    misshapen : not b ≡ true → listing test s lent ≡ refused 19
    unfolding listing functions_of ◌>>=◌
    misshapen h = rw (← form, not-true b h)

    pub list-misshapen : (lent₂ : List ℕ) (x : Result ℕ Refusal) → Cleared Refusal.MisshapenRecords lent lent₂ x → not b ≡ true → list_given x lent₂ ≡ answer
    list-misshapen lent₂ x c h = cleared-as Refusal.MisshapenRecords lent lent₂ x refl c (misshapen h)

    module _ (h : not b ≡ false) (lent₁ : List ℕ) (n : ℕ) (laid : Put 0 (wanted_bytes test (functions_at s)) lent lent₁ n) where
      whole : listing test s lent ≡ (fitting 16 lent (wanted_bytes test (functions_at s)) >>= λ bytes. cond
          (is_empty (filter (λ f. test (function_range f)) (functions_at s))) (refused 20) (done bytes))
      unfolding listing functions_of ◌>>=◌ wanted_bytes
      whole = rw (← form, not-false b h)

      short : length lent₁ < n → listing test s lent ≡ refused 16
      unfolding fitting ◌>>=◌
      short l = whole ∙ rw (lt-ltb (length lent) (length (wanted_bytes test (functions_at s))) (put-lost laid l))

      pub list-short : (lent₂ : List ℕ) (x : Result ℕ Refusal) → length lent₁ < n → Cleared Refusal.ShortRecords lent₁ lent₂ x → list_given x lent₂ ≡ answer
      list-short lent₂ x l c = cleared-as Refusal.ShortRecords lent₁ lent₂ x (put-length laid) c (short l)

      module _ (l : n ≤ length lent₁) where
        fits : length (wanted_bytes test (functions_at s)) ≤ length lent
        fits = omega (arith, put-fits laid l)

        size : n ≡ length (wanted_bytes test (functions_at s))
        size = let p = laid.place in let q = laid.small in let f = fits in omega arith

        fitted : (fitting 16 lent (wanted_bytes test (functions_at s)) >>= λ bytes. cond (is_empty (filter (λ f. test (function_range f)) (functions_at s)))
            (refused 20) (done bytes))
            ≡ cond (is_empty (filter (λ f. test (function_range f)) (functions_at s))) (refused 20) (done (wanted_bytes test (functions_at s)))
        unfolding fitting ◌>>=◌
        fitted = rw (le-ltb (length lent) (length (wanted_bytes test (functions_at s))) fits)

        -- a list of no bytes is a list of no function
        empty_is : (fs : List GroupAt) → length (function_fields fs) ≡ 0 → is_empty fs ≡ true
        unfolding function_fields each_of encode
        empty_is [] e = refl
        empty_is (f ∷ fs) e = absurd (omega arith)

        filled_is : (fs : List GroupAt) → (length (function_fields fs) ≡ 0 → ⊥) → is_empty fs ≡ false
        unfolding function_fields each_of
        filled_is [] e = absurd (e refl)
        filled_is (f ∷ fs) e = refl

        pub list-none : (lent₂ : List ℕ) (x : Result ℕ Refusal) → n ≡ 0 → Cleared Refusal.NoFunction lent₁ lent₂ x → list_given x lent₂ ≡ answer
        unfolding wanted_bytes
        list-none lent₂ x z c =
            let e : length (function_fields (filter (λ f. test (function_range f)) (functions_at s))) ≡ 0 = sym size ∙ z in
            cleared-as Refusal.NoFunction lent₁ lent₂ x (put-length laid) c
            (whole ∙ fitted ∙ rw (empty_is (filter (λ f. test (function_range f)) (functions_at s)) e))

        pub list_done : (n ≡ 0 → ⊥) → list_given (Ok n) lent₁ ≡ answer
        unfolding wanted_bytes listed_in
        list_done z =
            let e : (length (function_fields (filter (λ f. test (function_range f)) (functions_at s))) ≡ 0 → ⊥) = λ y. z (size ∙ y) in
            let is : listing test s lent ≡ done (function_fields (filter (λ f. test (function_range f)) (functions_at s)))
            = whole ∙ fitted ∙ ap (λ (b : Bool). cond b (refused 20) (done (function_fields (filter (λ f. test (function_range f)) (functions_at s)))))
            (filled_is (filter (λ f. test (function_range f)) (functions_at s)) e) in
            rw (is, size, put_whole laid l)
