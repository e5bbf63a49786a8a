-- The files of a unit of a sheet are ones that an import can meet.
use Prim.Native.Nat.{ℕ, zero, suc}
use native.Mathlib.Omega.{arith}
use mathlib.Core.Path.{◌≡◌, refl, sym, subst}
use mathlib.Core.Logic.{inl, inr}
use mathlib.Core.List.{List, [], ◌∷◌, ◌++◌}
use mathlib.Core.Option.{Option, some}
use Rattle.tlv.specs.Outcome.{done}
use Rattle.tlv.specs.Lists.{Any, at}
use Rattle.tlv.specs.Model.{CompilationUnit, LineHeader, HeaderFile, units}
use Rattle.buffers.specs.Output.{FileEntry}
use Rattle.paths.specs.Paths.{file_entry}
use Rattle.files.specs.Possible.{named_file, named_files, with_zero, headed, files_of_units, possible_files}
use Rattle.files.specs.Interns.{Listed}

module _ {A : Type 0} (P : A → Type 0) where
  pub any_left : (xs ys : List A) → Any P xs → Any P (xs ++ ys)
  any_left [] ys k = absurd k
  any_left (x ∷ xs) ys (inl p) = inl p
  any_left (x ∷ xs) ys (inr k) = inr (any_left xs ys k)

  pub any_right : (xs ys : List A) → Any P ys → Any P (xs ++ ys)
  any_right [] ys k = k
  any_right (x ∷ xs) ys k = inr (any_right xs ys k)

-- a file of a list that has a path
named_in : (u : CompilationUnit) (h : LineHeader) (f : HeaderFile) (e : FileEntry) (fs : List HeaderFile) → Any (λ x. f ≡ x) fs → file_entry u h f ≡ done (some e) → Any (λ x. e ≡ x) (named_files u h fs)
unfolding named_files
named_in u h f e [] k is = absurd k
named_in u h f e (x ∷ xs) (inl same) is =
    let here : file_entry u h x ≡ done (some e) = rw same at is in
    any_left (λ x. e ≡ x) (named_file (file_entry u h x)) (named_files u h xs) (rw here (inl refl))
named_in u h f e (x ∷ xs) (inr k) is = any_right (λ x. e ≡ x) (named_file (file_entry u h x)) (named_files u h xs) (named_in u h f e xs k is)

unit-in : (P : FileEntry → Type 0) (us : List CompilationUnit) (k : ℕ) (u : CompilationUnit) → at us k ≡ some u → Any P (headed u u.header) → Any P (files_of_units us)
unfolding at files_of_units
unit-in P [] k u e a = let z : ◌≡◌ {A = ℕ} 0 1 = cc in absurd (omega arith)
unit-in P (x ∷ us) zero u e a =
    let same : x ≡ u = cc in
    any_left P (headed x x.header) (files_of_units us) (rw same a)
unit-in P (x ∷ us) (suc k) u e a = any_right P (headed x x.header) (files_of_units us) (unit-in P us k u e a)

module _ (main supplementary : List ℕ) (k : ℕ) (u : CompilationUnit) (h : LineHeader) where
  of-units : (us : List CompilationUnit) → at us k ≡ some u → u.header ≡ some h → (f : HeaderFile) (e : FileEntry) → Any (λ x. f ≡ x) (with_zero u.file_zero u.files) → file_entry u h f ≡ done (some e)
      → Any (λ x. e ≡ x) (files_of_units us)
  of-units us is header f e a entry = unit-in (λ x. e ≡ x) us k u is (subst (λ (o : Option LineHeader). Any (λ x. e ≡ x) (headed u o)) (sym header) (named_in u h f e (with_zero u.file_zero u.files) a entry))

  -- a unit of the main sheet
  pub listed : at (units main) k ≡ some u → u.header ≡ some h → Listed main supplementary u h
  unfolding possible_files
  listed is header = record {
    possible = λ f e a entry. record {
      listed = any_left (λ x. e ≡ x) (files_of_units (units main)) (files_of_units (units supplementary)) (of-units (units main) is header f e a entry);
    };
  }

  -- a unit of the supplementary sheet
  pub listed-supplementary : at (units supplementary) k ≡ some u → u.header ≡ some h → Listed main supplementary u h
  unfolding possible_files
  listed-supplementary is header = record {
    possible = λ f e a entry. record {
      listed = any_right (λ x. e ≡ x) (files_of_units (units main)) (files_of_units (units supplementary)) (of-units (units supplementary) is header f e a entry);
    };
  }
