-- A file's directory, joined from its three pieces in a work slice.
use mathlib.Core.Path.{◌≡◌, sym, ap, ◌∙◌}
use mathlib.Core.List.{List}
use Prim.Native.Nat.{ℕ, ◌+◌, ◌≤◌}
use native.Mathlib.Omega.{arith}
use lib.ListN.{length}
use Rattle.tlv.specs.Limits.{string_limit}
use Rattle.buffers.specs.Table.{chunk}
use Rattle.buffers.proofs.ChunkLaws.{chunk-none}
use Rattle.paths.specs.Paths.{append_path}
use Rattle.paths.specs.Join.{Laid}
use Rattle.paths.proofs.Joining.{append-first}
use Rattle.paths.proofs.PathBounds.{append_path-length}
use Rattle.paths.proofs.JoinLaws.{laid_as, append_two, join-room}
use Rattle.files.specs.declared.spans.Span.{Span}
use Rattle.files.specs.declared.pieces.FilePieces.{FilePieces}
use Rattle.files.specs.Pieces.{span_in, SpanIn, file_in}
use Rattle.files.proofs.DirectoryLaws.{span-short}

-- what stands first is no longer than its piece, and the next is longer by its own piece and a slash
pub first-length : (w : List ℕ) {w₁ : List ℕ} {at l : ℕ} (s : List ℕ) (a : Span) → Laid w w₁ at l (append_path (chunk w at 0) (span_in s a)) → SpanIn s a → l ≤ string_limit
first-length w s a L S = omega (arith, join-room w (span_in s a) L, span-short s a S)

pub second-length : (w₁ : List ℕ) {w₂ : List ℕ} {at m : ℕ} (l : ℕ) (s : List ℕ) (a : Span) {w x : List ℕ} → Laid w w₁ at l x
    → Laid w₁ w₂ at m (append_path (chunk w₁ at l) (span_in s a)) → SpanIn s a → m ≤ l + (1 + string_limit)
second-length w₁ {w₂} {at} l s a L M S =
    omega (arith, M.size, append_path-length (chunk w₁ at l) (span_in s a), ap length L.path, L.size, span-short s a S)

module _ (s : List ℕ) (p : FilePieces) (w w₁ w₂ w₃ : List ℕ) (at l m n : ℕ) where
  pub laid-directory : Laid w w₁ at l (append_path (chunk w at 0) (span_in s p.compilation))
      → Laid w₁ w₂ at m (append_path (chunk w₁ at l) (span_in s p.directory))
      → Laid w₂ w₃ at n (append_path (chunk w₂ at m) (span_in s p.own))
      → Laid w w₃ at n (file_in s p).directory
  unfolding file_in
  laid-directory L M N =
      let c : List ℕ = span_in s p.compilation in
      let d : List ℕ = span_in s p.directory in
      let o : List ℕ = span_in s p.own in
      let first : (x : List ℕ) → append_path (chunk w at 0) x ≡ x = λ x. ap (λ (y : List ℕ). append_path y x) (chunk-none w at) ∙ append-first x in
      let two : Laid w w₂ at m (append_path (chunk w at 0) (append_path c d))
      = laid_as (first (append_path c d) ∙ ap (λ (x : List ℕ). append_path x d) (sym (first c))) (append_two w w₁ w₂ at 0 l m c d L M)
      in
      laid_as
      (sym (ap (λ (x : List ℕ). append_path x o) (first (append_path c d))))
      (append_two w w₂ w₃ at 0 m n (append_path c d) o two N)
