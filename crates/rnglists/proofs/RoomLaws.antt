-- The room of range lists in the work slice.
-- t is a third of the list section's bytes: a list gives t ranges at the most (list-few). n nodes are open, 256 at the most; the unit has N fields 1f, of which l are still to come,
-- the entry at hand included; u ranges stand in the stack, of R fields 19, of which a are still to come.
use mathlib.Core.Path.{◌≡◌, ap, ◌∙◌}
use Prim.Native.Nat.{ℕ, suc, ◌+◌, ◌*◌, ◌/◌, ◌≤◌, min}
use native.Mathlib.Nat.{mul-le-mul_left, mul-le-mul_right, mul_assoc, mul-add}
use native.Mathlib.Omega.{arith}
use Rattle.tlv.proofs.TestLaws.{by_less}
use Rattle.rnglists.specs.Room.{open_lists}

-- another list has room beside what stands in the stack, and the fields 19 still to come
pub list-room : (t R N u a l n : ℕ) → u + a + t * l ≤ 1 + R + t * N → u + a ≤ 1 + R + t * n → 1 ≤ l → n ≤ 256 → u + a + t ≤ 1 + R + t * open_lists N
list-room t R N u a l n fields frames some few =
    by_less (u + a + t ≤ 1 + R + t * open_lists N) N 257
    (λ h. let e : open_lists N ≡ N = omega arith in
    let m : t * 1 ≤ t * l = mul-le-mul_left t some in
    let k : t * open_lists N ≡ t * N = ap (λ (x : ℕ). t * x) e in
    omega arith)
    (λ h. let e : open_lists N ≡ 257 = omega arith in
    let m : t * n ≤ t * 256 = mul-le-mul_left t few in
    let k : t * open_lists N ≡ t * 257 = ap (λ (x : ℕ). t * x) e in
    omega arith)

-- document 02's bytes hold that many ranges of 16 bytes
pub list-bytes : (L N : ℕ) → 16 * (L / 3 * open_lists N) ≤ 8 * L * min N 256
list-bytes L N =
    let third : 3 * (L / 3) ≤ L = omega arith in
    by_less (16 * (L / 3 * open_lists N) ≤ 8 * L * min N 256) N 257
    (λ h. let e : open_lists N ≡ min N 256 = omega arith in
    let k : L / 3 * open_lists N ≡ L / 3 * min N 256 = ap (λ (x : ℕ). L / 3 * x) e in
    let m : 16 * (L / 3) * min N 256 ≤ 8 * L * min N 256 = mul-le-mul_right (min N 256) (omega arith) in
    omega (arith, mul_assoc 16 (L / 3) (min N 256)))
    (λ h. let e : open_lists N ≡ 257 = omega arith in
    let f : min N 256 ≡ 256 = omega arith in
    let k : L / 3 * open_lists N ≡ L / 3 * 257 = ap (λ (x : ℕ). L / 3 * x) e in
    let g : 8 * L * min N 256 ≡ 8 * L * 256 = ap (λ (x : ℕ). 8 * L * x) f in
    omega arith)

-- what an entry with a list leaves for those behind it
pub list_left : (t R N u a l k : ℕ) → u + a + t * suc l ≤ 1 + R + t * N → k ≤ t → u + k + a + t * l ≤ 1 + R + t * N
list_left t R N u a l k h few = let m : t * suc l ≡ t * l + t * 1 = ap (λ (x : ℕ). t * x) (omega arith) ∙ mul-add t l 1 in omega arith
