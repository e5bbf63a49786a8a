-- One symbol more behind a records tray: what is read of the result, and what is left of the list.
use mathlib.Core.Path.{◌≡◌, refl, sym, ap, subst, ◌∙◌}
use mathlib.Core.Bool.{Bool, true, false, cond}
use mathlib.Core.List.{List, [], ◌∷◌, ◌++◌, map, append-nil, append_assoc, cons≢nil}
use mathlib.Core.Option.{none, some, none-ne-some, some-injective}
use Prim.Native.Nat.{ℕ}
use Rattle.tlv.specs.declared.model.AddressRange.{AddressRange}
use Rattle.tlv.specs.Addresses.{Nonempty}
use Rattle.tlv.specs.Lists.{exists}
use Rattle.tlv.specs.Fields.{fields, encode}
use Rattle.buffers.specs.Output.{Function, function_payload, each_of}
use Rattle.buffers.specs.Reader.{records_form, function_of, read_records}
use Rattle.lookup.specs.Tray.{group, functions_at}
use Rattle.lookup.specs.Lookup.{holds}
use Rattle.lookup.proofs.ReadLaws.{map-map, reads-functions}
use Rattle.symbols.specs.Symbols.{Symbol, passed_over, joining, bare_bytes}
use Rattle.symbols.specs.Join.{bare}
use Rattle.symbols.specs.Walk.{ranges_in, laid_for}
use Rattle.symbols.proofs.BareLaws.{Fits, reads-joined, map-append}

-- ---- a record more behind a tray

abbrev record_bytes : Symbol → List ℕ
record_bytes m = encode 0x41 (function_payload m.range m.name)

record_some : (m : Symbol) → record_bytes m ≡ [] → ⊥
unfolding encode
record_some m e = cons≢nil e

module _ (t : List ℕ) where
  -- what a tray in form reads as
  reads-formed : records_form 0 0 (fields t) ≡ true → read_records t ≡ some (map (λ f. function_of (group f)) (functions_at t))
  reads-formed h = reads-functions t ∙ rw h

  -- what can be read is in form
  formed-read : (fs : List Function) → read_records t ≡ some fs → (records_form 0 0 (fields t) ≡ true) × (map (λ f. function_of (group f)) (functions_at t) ≡ fs)
  formed-read fs e = go (records_form 0 0 (fields t)) refl (sym (reads-functions t) ∙ e)
    where
      go : (b : Bool) → records_form 0 0 (fields t) ≡ b → cond b (some (map (λ f. function_of (group f)) (functions_at t))) none ≡ some fs
          → (records_form 0 0 (fields t) ≡ true) × (map (λ f. function_of (group f)) (functions_at t) ≡ fs)
      go true h q = (h, some-injective _ _ q)
      go false h q = absurd (none-ne-some _ q)

  ranges-read : ranges_in t ≡ map (λ (f : Function). f.range) (map (λ f. function_of (group f)) (functions_at t))
  unfolding function_of
  ranges-read = sym (map-map (λ (f : Function). f.range) (λ g. function_of (group g)) (functions_at t))

module _ (t : List ℕ) (m : Symbol) (fit : Fits m) (form : records_form 0 0 (fields t) ≡ true) where
  one_more : read_records (t ++ record_bytes m) ≡ some (map (λ f. function_of (group f)) (functions_at t) ++ (bare m ∷ []))
  unfolding bare_bytes each_of
  one_more =
      subst (λ (l : List ℕ). read_records (t ++ l) ≡ some (map (λ f. function_of (group f)) (functions_at t) ++ (bare m ∷ []))) (append-nil (record_bytes m))
      (reads-joined t (m ∷ []) (map (λ f. function_of (group f)) (functions_at t)) (fit, tt) (reads-formed t form))

  form-more : records_form 0 0 (fields (t ++ record_bytes m)) ≡ true
  form-more = (formed-read (t ++ record_bytes m) _ one_more).0

  ranges_more : ranges_in (t ++ record_bytes m) ≡ ranges_in t ++ (m.range ∷ [])
  ranges_more =
      ranges-read (t ++ record_bytes m)
      ∙ ap (map (λ (f : Function). f.range)) (formed-read (t ++ record_bytes m) _ one_more).1
      ∙ map-append (λ (f : Function). f.range) (map (λ f. function_of (group f)) (functions_at t)) (bare m ∷ [])
      ∙ ap (λ (l : List AddressRange). l ++ (m.range ∷ [])) (sym (ranges-read t))

-- ---- one symbol: the result and what is left of the list

module _ (t : List ℕ) (m : Symbol) (ss : List Symbol) (fit : passed_over m ≡ false → Fits m) (form : records_form 0 0 (fields t) ≡ true) where
  abbrev pub laid : List ℕ
  laid = laid_for (ranges_in t) m

  pub record Turned : Type 0 where
    pub formed : records_form 0 0 (fields (t ++ laid)) ≡ true
    pub same : (t ++ bare_bytes (joining (ranges_in t) (m ∷ ss))) ≡ (t ++ laid) ++ bare_bytes (joining (ranges_in (t ++ laid)) ss)
    pub alike : laid ≡ [] → ranges_in (t ++ laid) ≡ ranges_in t
    pub grown : (laid ≡ [] → ⊥) → ranges_in (t ++ laid) ≡ ranges_in t ++ (m.range ∷ [])
    pub filled : (laid ≡ [] → ⊥) → Nonempty m.range

  pub turned : Turned
  unfolding laid_for joining bare_bytes each_of
  turned = go (passed_over m) refl (exists (holds m.range.start) (ranges_in t)) refl
    where
      nothing : laid_for (ranges_in t) m ≡ [] → joining (ranges_in t) (m ∷ ss) ≡ joining (ranges_in t) ss → Turned
      nothing e j = record {
        formed = rw (e, append-nil t) form;
        same = rw (e, append-nil t, j);
        alike = λ _. rw (e, append-nil t);
        grown = λ k. absurd (k e);
        filled = λ k. absurd (k e);
      }

      go : (b : Bool) → passed_over m ≡ b → (c : Bool) → exists (holds m.range.start) (ranges_in t) ≡ c → Turned
      go true p c h = nothing (rw p) (rw p)
      go false p true h = nothing (rw (p, h)) (rw (p, h))
      go false p false h =
          let is : laid_for (ranges_in t) m ≡ record_bytes m = rw (p, h) in
          let j : joining (ranges_in t) (m ∷ ss) ≡ m ∷ joining (ranges_in t ++ (m.range ∷ [])) ss = rw (p, h) in
          record {
            formed = rw is (form-more t m (fit p) form);
            same = rw (
              is,
              j,
              ranges_more t m (fit p) form,
              append_assoc t (record_bytes m)
                  (each_of (λ s. encode 0x41 (function_payload s.range s.name)) (joining (ranges_in t ++ (m.range ∷ [])) ss)),
            );
            alike = λ k. absurd (record_some m (sym is ∙ k));
            grown = λ _. rw is (ranges_more t m (fit p) form);
            filled = λ _. (fit p).range.filled;
          }
