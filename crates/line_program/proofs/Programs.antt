-- Skipping an instruction, and scanning a program, beside the Standard's and within the limits.
use mathlib.Core.Path.{refl}
use mathlib.Core.Bool.{Bool, true, false, cond}
use mathlib.Core.List.{List, [], ◌∷◌}
use mathlib.Core.Option.{Option}
use Prim.Native.Nat.{ℕ, zero, suc, ◌+◌, ◌^◌}
use native.Mathlib.Omega.{arith}
use lib.Dec.{ltb}
use lib.ListN.{length}
use Rattle.tlv.specs.Outcome.{Outcome, refused, done, ◌>>=◌}
use Rattle.tlv.specs.Lists.{map_option}
use Rattle.line_program.specs.Standard.{Opcodes, instruction, sequences_within as standard_within, sequences}
use Rattle.line_program.specs.Program.{place_of, skip, sequences_within, scan_line_sequence_offsets}
use Rattle.line_program.specs.Conforms.{DeclaresStandard, Beside, Programs}
use Rattle.line_program.proofs.Beside.{beside-limit, beside_if, beside_then, beside_map}
use Rattle.line_program.proofs.Instructions.{beside_skip}
use Rattle.line_program.proofs.Limits.{agrees-skip, agrees-sequences, ends-below}

-- a sequence that ends: the sequences after it, and its own place before them
beside_end : (t : Bool) (from : ℕ) (x : Outcome (List ℕ)) (y : Option (List ℕ)) → Beside x y
    → Beside (cond t (x >>= λ l. done (from ∷ l)) (refused 12)) (map_option (λ l. from ∷ l) y)
beside_end true from x y b = beside_map x y (λ l. from ∷ l) b
beside_end false from x y b = beside-limit 12 (map_option (λ l. from ∷ l) y) (omega arith) (omega arith)

module _ (h : Opcodes) (d : DeclaresStandard h) (base whole : ℕ) where
  pub beside-sequences : (k from : ℕ) (s : List ℕ) → Beside (sequences_within k h base whole from s) (standard_within k h base whole from s)
  unfolding sequences_within standard_within
  beside-sequences zero from s = refl
  beside-sequences (suc k) from [] = refl
  beside-sequences (suc k) from (o ∷ s) = beside_then (skip h whole o s) (instruction h o s) _ _ (beside_skip h d whole o s) (λ t.
      let here = base + place_of whole t.rest in
      beside_if t.ends _ _ _ _ (λ e. beside_end (ltb here (2 ^ 64)) from _ _ (beside-sequences k here t.rest)) (λ e. beside-sequences k from t.rest))

pub programs : Programs
unfolding scan_line_sequence_offsets sequences
programs h d = record {
  instructions = λ whole o s. beside_skip h d whole o s;
  programs = λ base program. beside-sequences h d base (length program) (length program) base program;
  passed = λ whole o s. agrees-skip h whole o s (d o);
  scanned = λ base program. agrees-sequences h d base (length program) (length program) base program;
  ends = λ base program l. ends-below h d base (length program) l (length program) program;
}
