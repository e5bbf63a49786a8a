-- How the fields of the trays are put: the head and then the payload, and which node and which warning a payload is of.
use mathlib.Core.Path.{◌≡◌}
use mathlib.Core.List.{List, [], ◌∷◌, ◌++◌}
use Prim.Native.Nat.{ℕ, ◌+◌}
use native.Mathlib.Omega.{arith}
use lib.ListN.{length, length-append}
use Rattle.tlv.specs.Bytes.{bytes_of}
use Rattle.tlv.specs.Fields.{encode}
use Rattle.tlv.proofs.ByteLaws.{length-bytes_of}
use Rattle.buffers.specs.Output.{WarningKind, about, kind_number, warning_payload}
use Rattle.buffers.specs.Buffer.{Put}
use Rattle.buffers.proofs.BufferLaws.{◌then◌}

-- a field is its head, with the length of the payload, and then the payload
pub put-headed : {at p q n tag : ℕ} {payload t t₁ t₂ : List ℕ} → length payload ≡ n → Put at ((tag ∷ []) ++ bytes_of 2 n) t t₁ p → Put p payload t₁ t₂ q → Put at (encode tag payload) t t₂ q
unfolding encode
put-headed e f g = rw e (f then g)

-- four puts, one after the other
pub put_four : {at p q r s : ℕ} {a b c d t t₁ t₂ t₃ t₄ : List ℕ} → Put at a t t₁ p → Put p b t₁ t₂ q → Put q c t₂ t₃ r → Put r d t₃ t₄ s → Put at (a ++ b ++ c ++ d) t t₄ s
put_four f g h k = f then g then h then k

-- a byte that is known by what it equals, and then the others
pub put-said : {at p q b b' : ℕ} {bs t t₁ t₂ : List ℕ} → b ≡ b' → Put at (b ∷ []) t t₁ p → Put p bs t₁ t₂ q → Put at (b' ∷ bs) t t₂ q
put-said e f g = (rw e at f) then g

-- the length of a warning's payload
pub numbers-length : (kind a b : ℕ) → length ((kind ∷ []) ++ bytes_of 8 a ++ bytes_of 8 b) ≡ 17
numbers-length kind a b = simp (length-append, length-bytes_of)

pub reason-length : (kind : ℕ) (reason : List ℕ) → length (kind ∷ reason) ≡ 1 + length reason
reason-length kind reason = omega arith

-- ---- for a caller that has the node or the warning

module _ (k : WarningKind) (kind first second : ℕ) (e : kind ≡ kind_number k) where
  -- the payload of a warning of two numbers
  pub about-payload : (kind ∷ []) ++ bytes_of 8 first ++ bytes_of 8 second ≡ warning_payload (about k first second)
  unfolding warning_payload
  about-payload = rw e

  -- what `put_warning` puts
  pub put-about : {at r : ℕ} {t t' : List ℕ} → Put at (encode 0x46 ((kind ∷ []) ++ bytes_of 8 first ++ bytes_of 8 second)) t t' r
      → Put at (encode 0x46 (warning_payload (about k first second))) t t' r
  put-about f = rw about-payload at f
