-- Frames: what may change within some stretches may change within stretches that cover them.
use mathlib.Core.Logic.{inl, inr, ⊎_elim}
use mathlib.Core.List.{List, [], ◌∷◌}
use Prim.Native.Nat.{ℕ}
use native.Mathlib.Omega.{arith}
use Rattle.buffers.specs.Table.{Apart, Clear, Kept, KeptBut}
use Rattle.buffers.proofs.TableLaws.{Within, here, there}

-- each of the stretches lies within one of the others
abbrev pub Covered : List (ℕ × ℕ) → List (ℕ × ℕ) → Type 0
Covered [] qs = Unit {0}
Covered (r ∷ rs) qs = Within r.0 r.1 qs × Covered rs qs

clear-one : {p m : ℕ} {qs : List (ℕ × ℕ)} (q k : ℕ) → Within p m qs → Clear q k qs → Apart q k p m
clear-one q k (here h g) c = ⊎_elim (λ l. inl (omega arith)) (λ l. inr (omega arith)) c.0
clear-one q k (there i) c = clear-one q k i c.1

clear-all : (rs qs : List (ℕ × ℕ)) (q k : ℕ) → Covered rs qs → Clear q k qs → Clear q k rs
clear-all [] qs q k i c = tt
clear-all (r ∷ rs) qs q k i c = (clear-one q k i.0 c, clear-all rs qs q k i.1 c)

-- other stretches that cover those
pub but_wide : {w w' : List ℕ} {rs : List (ℕ × ℕ)} (qs : List (ℕ × ℕ)) → KeptBut w w' rs → Covered rs qs → KeptBut w w' qs
but_wide {rs = rs} qs K i = record { same = λ q k c. K.same q k (clear-all rs qs q k i c) }

-- one stretch that covers them
pub kept-one : {w w' : List ℕ} {rs : List (ℕ × ℕ)} (p m : ℕ) → KeptBut w w' rs → Covered rs ((p, m) ∷ []) → Kept w w' p m
kept-one {rs = rs} p m K i = record { same = λ q k a. K.same q k (clear-all rs ((p, m) ∷ []) q k i (a, tt)) }
