-- Demand 3 in a look-up, of a tray that an import of all units wrote.
use mathlib.Core.Path.{◌≡◌, refl, sym, ap, subst, ◌∙◌}
use mathlib.Core.Bool.{Bool, true, false, cond}
use mathlib.Core.List.{List, [], ◌∷◌, ◌++◌, map}
use mathlib.Core.Option.{Option, none, some, none-ne-some, some-injective}
use Prim.Native.Nat.{ℕ, zero, suc}
use lib.ListN.{drop}
use Rattle.tlv.specs.Outcome.{done}
use Rattle.tlv.specs.Lists.{All, at, first}
use Rattle.tlv.specs.Model.{CompilationUnit, units}
use Rattle.tlv.specs.Fields.{fields}
use Rattle.tlv.proofs.ListLaws.{all_map}
use Rattle.tlv.proofs.OutcomeLaws.{done-is, refused-not, with_done}
use Rattle.buffers.specs.Output.{Function}
use Rattle.buffers.specs.Reader.{records_form, read_records, function_of}
use Rattle.references.specs.Search.{Dwarf}
use Rattle.imports.specs.Answer.{Inputs, dwarf_of, after_dwarf}
use Rattle.imports.specs.Demand.{Subject, subjects, RecordAgrees, UnitsAgree, DwarfFinished}
use Rattle.imports.proofs.Demand.{dwarf-demand}
use Rattle.lookup.specs.Tray.{GroupAt, group, functions_at, nodes_at, function_range, functions_of}
use Rattle.lookup.specs.Lookup.{holds, chain_from, chain, Frames, frames_of, qualifying, look_up}
use Rattle.lookup.specs.DemandAll.{ExplainedByUnit, WrittenByAll, ExplainingAll}
use Rattle.lookup.proofs.ReadLaws.{reads-functions}
use Rattle.lookup.proofs.DemandLaws.{first-at, at_map, pointwise_at, Kept-here, kept_here, rest-held, found_in}

-- ---- a record of the joined tray is one of a unit's

-- which unit a record is of, and which of its subjects it answers for
record OfUnit (d : Dwarf) (inlines : Bool) (us : List CompilationUnit) (r : Function) : Type 0 where
  unit-number : ℕ
  unit : CompilationUnit
  listed : at us unit-number ≡ some unit
  subject-number : ℕ
  subject : Subject
  asked : at (subjects d unit) subject-number ≡ some subject
  agrees : RecordAgrees d unit inlines subject r

module _ {A : Type 0} where
  -- what stands in two lists, one behind the other, stands in one of them
  data Either-at (xs ys : List A) (y : A) : Type 0 where
    in-first : (k : ℕ) → at xs k ≡ some y → Either-at xs ys y
    in-second : (k : ℕ) → at ys k ≡ some y → Either-at xs ys y

  either_at : (xs ys : List A) (k : ℕ) (y : A) → at (xs ++ ys) k ≡ some y → Either-at xs ys y
  unfolding at
  either_at [] ys k y e = in-second k e
  either_at (x ∷ xs) ys zero y e = in-first 0 e
  either_at (x ∷ xs) ys (suc k) y e = later (either_at xs ys k y e)
    where
      later : Either-at xs ys y → Either-at (x ∷ xs) ys y
      later (in-first j q) = in-first (suc j) q
      later (in-second j q) = in-second j q

module _ (d : Dwarf) (inlines : Bool) where
  of_unit : (us : List CompilationUnit) (rs : List Function) (k : ℕ) (r : Function) → UnitsAgree d inlines us rs → at rs k ≡ some r → OfUnit d inlines us r
  unfolding at
  of_unit [] rs k r h e = absurd (none-ne-some r (subst (λ (l : List Function). at l k ≡ some r) h e))
  of_unit (u ∷ us) rs k r h e =
      go (λ j q. of_unit us h.1 j r h.4 q) (either_at h.0 h.1 k r (subst (λ (l : List Function). at l k ≡ some r) h.2 e))
    where
      next : OfUnit d inlines us r → OfUnit d inlines (u ∷ us) r
      next o = record {
        unit-number = suc o.unit-number;
        unit = o.unit;
        listed = o.listed;
        subject-number = o.subject-number;
        subject = o.subject;
        asked = o.asked;
        agrees = o.agrees;
      }

      go : ((j : ℕ) → at h.1 j ≡ some r → OfUnit d inlines us r) → Either-at h.0 h.1 r → OfUnit d inlines (u ∷ us) r
      go others (in-first j q) =
          let s = pointwise_at (RecordAgrees d u inlines) (subjects d u) h.0 j r h.3 q in
          record { unit-number = 0; unit = u; listed = refl; subject-number = j; subject = s.0; asked = s.1; agrees = s.2 }
      go others (in-second j q) = next (others j q)

-- ---- the whole

module _ (i : Inputs) (tray : List ℕ) (a : ℕ) (x : Frames) (w : WrittenByAll i tray) where
  -- the import's records are what the tray's functions say
  records-are : (f : DwarfFinished i (after_dwarf i)) → f.state.records ≡ map (λ g. function_of (group g)) (functions_at tray)
  records-are f = go (records_form 0 0 (fields tray)) (sym (reads-functions tray) ∙ ap read_records w.tray_is ∙ f.records)
    where
      go : (b : Bool) → cond b (some (map (λ g. function_of (group g)) (functions_at tray))) none ≡ some f.state.records
          → f.state.records ≡ map (λ g. function_of (group g)) (functions_at tray)
      go true e = sym (some-injective _ _ e)
      go false e = absurd (none-ne-some _ e)

  explained : (g : GroupAt) (k : ℕ) → at (functions_at tray) k ≡ some g → frames_of a g ≡ x → ExplainedByUnit i tray a x
  unfolding frames_of chain
  explained g k e q =
      let f = dwarf-demand i w.lent w.finished in
      let told : at f.state.records k ≡ some (function_of (group g)) =
      subst (λ (l : List Function). at l k ≡ some (function_of (group g))) (sym (records-are f)) (at_map (λ h. function_of (group h)) (functions_at tray) k g e) in
      let o = of_unit (dwarf_of i) true (units i.main) f.state.records k (function_of (group g))
      (subst (λ (b : Bool). UnitsAgree (dwarf_of i) b (units i.main) f.state.records) w.inlines f.agree) told in
      let t = o.agrees.tree refl in
      record {
        unit-number = o.unit-number;
        unit = o.unit;
        listed = o.listed;
        subject-number = o.subject-number;
        subject = o.subject;
        asked = o.asked;
        number = k;
        found = g;
        numbered = e;
        here = ap (λ (y : Frames). y.function) q;
        agrees = o.agrees;
        nodes = t.0;
        tree = t.2;
        inline = t.1;
        below = subst (λ (l : List ℕ). All (Kept-here i o.unit o.subject.number g a t.0 t.1 t.2) (drop 1 l)) (ap (λ (y : Frames). y.chain) q)
            (all_map (drop 1 (chain_from a 0 (nodes_at g))) (kept_here i o.unit o.subject.number g a t.0 t.1 t.2) (rest-held a 0 (nodes_at g)));
      }

  by_first : (o : Option GroupAt) → first (λ f. holds a (function_range f)) (functions_at tray) ≡ o → qualifying (frames_of a) o ≡ done x → ExplainedByUnit i tray a x
  by_first none e q = refused-not q
  by_first (some g) e q = let k = first-at (λ f. holds a (function_range f)) (functions_at tray) g e in explained g k.0 k.1 (done-is q)

pub explaining_all : ExplainingAll
unfolding look_up
explaining_all i tray a x w e =
    with_done (functions_of tray) _ e λ fs q r.
    by_first i tray a x w _ refl
    (subst (λ (l : List GroupAt). qualifying (frames_of a) (first (λ f. holds a (function_range f)) l) ≡ done x) (found_in tray fs q) r)
