-- Call sites in the work slice: a stack of open ones, a table of closed ones, and the loop that closes them.
use mathlib.Core.Path.{◌≡◌, refl, sym, ap, ◌∙◌}
use mathlib.Core.Logic.{◌⊎◌, inl, inr, ⊎_elim}
use mathlib.Core.List.{List, [], ◌∷◌, ◌++◌, map, append_assoc, append-nil}
use Prim.Native.Nat.{ℕ, zero, suc, ◌+◌, ◌-◌, ◌*◌, ◌≤◌, ◌<◌}
use native.Mathlib.Numerals.{add-one}
use native.Mathlib.Omega.{arith}
use lib.ListN.{length}
use borrow.Author.Tests.{le-leb, lt-leb}
use Rattle.tlv.specs.Bytes.{le_at}
use Rattle.tlv.specs.Lists.{take_while, drop_while}
use Rattle.buffers.specs.Output.{CallSite}
use Rattle.buffers.specs.Table.{chunk, Kept, Apart, Wrote, CopiedBytes}
use Rattle.buffers.proofs.ChunkLaws.{le_at-chunk, le_at-front}
use Rattle.buffers.proofs.TableLaws.{le-or_lt, kept-wide, kept_trans, le_at-kept}
use Rattle.buffers.proofs.RecordLaws.{records-kept, records-nil, records-copy_push}
use Rattle.imports.specs.Tree.{CallSiteFrame, ends_here}
use Rattle.dies.specs.DetailState.{site_of, site_frame_of, site_frames_at, sites_at, PutSite, Closed}

abbrev frame : ℕ → ℕ → List ℕ → CallSiteFrame
frame depth offset pattern = record { die_depth = depth; call_site = record { return_offset = offset; pattern = pattern } }

pub put-site : {w w₁ w₂ w₃ : List ℕ} {p depth place offset : ℕ} → Wrote w w₁ p 2 depth → Wrote w₁ w₂ (p + 2) 4 place → Wrote w₂ w₃ (p + 2 + 4) 8 offset → PutSite w w₃ p depth place offset
unfolding site_frame_of
put-site {w} {w₁} {w₂} {w₃} {p} {depth} {place} {offset} A B last =
    let six : p + 2 + 4 ≡ p + 6 = omega arith in
    let C = rw six at last in
    let there : le_at 4 w₃ (p + 2) ≡ place = le_at-kept 4 (p + 2) C.rest (inl (omega arith)) ∙ B.value in
    let first : le_at 2 w₃ p ≡ depth = le_at-kept 2 p C.rest (inl (omega arith)) ∙ le_at-kept 2 p B.rest (inl (omega arith)) ∙ A.value in
    record {
      value = λ f i. frame ((le_at-front 2 w₃ p 14 (omega arith) ∙ first) i) ((le_at-chunk 8 w₃ p 14 6 (omega arith) ∙ C.value) i) (f ((le_at-chunk 4 w₃ p 14 2 (omega arith) ∙ there) i));
      place_is = there;
      rest = kept_trans (kept-wide p 14 A.rest (omega arith) (omega arith)) (kept_trans (kept-wide p 14 B.rest (omega arith) (omega arith)) (kept-wide p 14 C.rest (omega arith) (omega arith)));
    }

module _ (f : ℕ → List ℕ) where
  frame-depth : (w : List ℕ) (p : ℕ) → (site_frame_of f (chunk w p 14)).die_depth ≡ le_at 2 w p
  unfolding site_frame_of
  frame-depth w p = le_at-front 2 w p 14 (omega arith)

  -- a closed call site is an open one without its depth
  frame_site : (w : List ℕ) (p : ℕ) → (site_frame_of f (chunk w p 14)).call_site ≡ site_of f (chunk w (p + 2) 12)
  unfolding site_frame_of site_of
  frame_site w p =
      let six : p + 2 + 4 ≡ p + 6 = omega arith in
      let offset : le_at 8 (chunk w p 14) 6 ≡ le_at 8 (chunk w (p + 2) 12) 4 = le_at-chunk 8 w p 14 6 (omega arith) ∙ sym (le_at-chunk 8 w (p + 2) 12 4 (omega arith) ∙ ap (le_at 8 w) six) in
      let place : le_at 4 (chunk w p 14) 2 ≡ le_at 4 (chunk w (p + 2) 12) 0 = le_at-chunk 4 w p 14 2 (omega arith) ∙ sym (le_at-front 4 w (p + 2) 12 (omega arith)) in
      λ i. record { return_offset = offset i; pattern = f (place i) }

  pub site-frames_kept : {w w' : List ℕ} {p m : ℕ} (base n : ℕ) → Kept w w' p m → Apart base (n * 14) p m → site_frames_at f w' base n ≡ site_frames_at f w base n
  unfolding site_frames_at
  site-frames_kept base zero K a = refl
  site-frames_kept base (suc n) K (inl h) = λ i. site_frame_of f (K.same (base + n * 14) 14 (inl (omega arith)) i) ∷ site-frames_kept base n K (inl (omega arith)) i
  site-frames_kept base (suc n) K (inr h) = λ i. site_frame_of f (K.same (base + n * 14) 14 (inr (omega arith)) i) ∷ site-frames_kept base n K (inr h) i

  pub sites-kept : {w w' : List ℕ} {p m : ℕ} (base n : ℕ) → Kept w w' p m → Apart base (n * 12) p m → sites_at f w' base n ≡ sites_at f w base n
  unfolding sites_at
  sites-kept base n K a = records-kept (site_of f) 12 base n K a

  pub sites-none : (w : List ℕ) (base : ℕ) → sites_at f w base 0 ≡ []
  unfolding sites_at
  sites-none w base = records-nil (site_of f) 12 w base

  pub site-frames_none : (w : List ℕ) (base : ℕ) → site_frames_at f w base 0 ≡ []
  unfolding site_frames_at
  site-frames_none w base = refl

  frames-suc : (w : List ℕ) (base n : ℕ) → site_frames_at f w base (suc n) ≡ site_frame_of f (chunk w (base + n * 14) 14) ∷ site_frames_at f w base n
  unfolding site_frames_at
  frames-suc w base n = refl

  frames-top : (w : List ℕ) (base n : ℕ) → 0 < n → site_frames_at f w base n ≡ site_frame_of f (chunk w (base + (n - 1) * 14) 14) ∷ site_frames_at f w base (n - 1)
  frames-top w base zero h = absurd (omega arith)
  frames-top w base (suc n) h = let e : suc n - 1 ≡ n = omega arith in rw e (frames-suc w base n)

  -- one more
  pub site-frames_push : {w w' : List ℕ} {depth place offset : ℕ} (base n : ℕ) → PutSite w w' (base + n * 14) depth place offset
      → site_frames_at f w' base (n + 1) ≡ record { die_depth = depth; call_site = record { return_offset = offset; pattern = f place } } ∷ site_frames_at f w base n
  site-frames_push {w} {w'} base n P = rw (add-one n) (frames-suc w' base n ∙ (λ i. P.value f i ∷ site-frames_kept base n P.rest (inl (omega arith)) i))

-- ---- closing

module _ (d : ℕ) (x : CallSiteFrame) (xs : List CallSiteFrame) where
  drop_off : d ≤ x.die_depth → drop_while (ends_here d) (x ∷ xs) ≡ drop_while (ends_here d) xs
  unfolding drop_while
  drop_off h = rw (le-leb d x.die_depth h)

  drop_stop : x.die_depth < d → drop_while (ends_here d) (x ∷ xs) ≡ x ∷ xs
  unfolding drop_while
  drop_stop h = rw (lt-leb d x.die_depth h)

  take_off : d ≤ x.die_depth → take_while (ends_here d) (x ∷ xs) ≡ x ∷ take_while (ends_here d) xs
  unfolding take_while
  take_off h = rw (le-leb d x.die_depth h)

  take_stop : x.die_depth < d → take_while (ends_here d) (x ∷ xs) ≡ []
  unfolding take_while
  take_stop h = rw (lt-leb d x.die_depth h)

drop_none : (d : ℕ) → drop_while (ends_here d) [] ≡ []
unfolding drop_while
drop_none d = refl

take_none : (d : ℕ) → take_while (ends_here d) [] ≡ []
unfolding take_while
take_none d = refl

-- the call sites of frames
abbrev sites_of : List CallSiteFrame → List CallSite
sites_of xs = map (λ x. x.call_site) xs

pub record Closing (w₀ w : List ℕ) (stack n sites m d opened closed : ℕ) : Type 0 where
  pub sum : opened + closed ≡ n + m
  pub few : opened ≤ n
  pub left : (f : ℕ → List ℕ) → drop_while (ends_here d) (site_frames_at f w stack opened) ≡ drop_while (ends_here d) (site_frames_at f w₀ stack n)
  pub moved : (f : ℕ → List ℕ) → sites_at f w sites closed ++ sites_of (take_while (ends_here d) (site_frames_at f w stack opened)) ≡ sites_at f w₀ sites m ++ sites_of (take_while (ends_here d) (site_frames_at f w₀ stack n))
  pub each : (i : ℕ) → i < closed → ((j : ℕ) × (j < n) × (le_at 4 w (sites + i * 12) ≡ le_at 4 w₀ (stack + j * 14 + 2))) ⊎ ((i < m) × (le_at 4 w (sites + i * 12) ≡ le_at 4 w₀ (sites + i * 12)))
  pub rest : Kept w₀ w (sites + m * 12) (n * 12)
  pub size : length w ≡ length w₀

module _ {w₀ w : List ℕ} {stack n sites m d opened closed : ℕ} (C : Closing w₀ w stack n sites m d opened closed) where
  -- nothing more ends: the frames are as drop_while has them, and take_while has none of them
  stopped : ((f : ℕ → List ℕ) → drop_while (ends_here d) (site_frames_at f w stack opened) ≡ site_frames_at f w stack opened)
      → ((f : ℕ → List ℕ) → take_while (ends_here d) (site_frames_at f w stack opened) ≡ []) → Closed w₀ w stack n sites m d (record { opened = opened; closed = closed })
  stopped drops takes = record {
    left = λ f. sym (drops f) ∙ C.left f;
    moved = λ f. sym (append-nil (sites_at f w sites closed)) ∙ ap (λ (l : List CallSiteFrame). sites_at f w sites closed ++ sites_of l) (sym (takes f)) ∙ C.moved f;
    each = C.each;
    sum = C.sum;
    few = C.few;
    rest = C.rest;
  }

  pub closing_end : opened ≤ 0 → Closed w₀ w stack n sites m d (record { opened = 0; closed = closed })
  closing_end h =
      let z : opened ≡ 0 = omega arith in
      let e : 0 ≡ opened = omega arith in
      let none : (f : ℕ → List ℕ) → site_frames_at f w stack opened ≡ [] = λ f. ap (site_frames_at f w stack) z ∙ site-frames_none f w stack in
      rw e (stopped (λ f. rw (none f) (drop_none d)) (λ f. rw (none f) (take_none d)))

  module _ (h : 0 < opened) {a : ℕ} (ea : a ≡ le_at 2 w (stack + (opened - 1) * 14)) where
    top : (ℕ → List ℕ) → CallSiteFrame
    top f = site_frame_of f (chunk w (stack + (opened - 1) * 14) 14)

    top-depth : (f : ℕ → List ℕ) → (top f).die_depth ≡ a
    unfolding top
    top-depth f = frame-depth f w (stack + (opened - 1) * 14) ∙ sym ea

    top-is : (f : ℕ → List ℕ) → site_frames_at f w stack opened ≡ top f ∷ site_frames_at f w stack (opened - 1)
    unfolding top
    top-is f = frames-top f w stack opened h

    pub closing_stop : a < d → Closed w₀ w stack n sites m d (record { opened = opened - 1 + 1; closed = closed })
    closing_stop l = let e : opened - 1 + 1 ≡ opened = omega arith in rw e (stopped
        (λ f. rw (top-is f) (drop_stop d (top f) _ (omega (arith, top-depth f))))
        (λ f. rw (top-is f) (take_stop d (top f) _ (omega (arith, top-depth f)))))

    module _ {w' : List ℕ} (l : d ≤ a) (below : stack + n * 14 ≤ sites) (P : CopiedBytes w w' (stack + (opened - 1) * 14 + 2) (sites + closed * 12) 12) where
      stay : (f : ℕ → List ℕ) → site_frames_at f w' stack (opened - 1) ≡ site_frames_at f w stack (opened - 1)
      stay f = site-frames_kept f stack (opened - 1) P.rest (inl (omega (arith, C.few)))

      pushed : (f : ℕ → List ℕ) → sites_at f w' sites (closed + 1) ≡ sites_at f w sites closed ++ ((top f).call_site ∷ [])
      unfolding sites_at top
      pushed f = records-copy_push (site_of f) 12 sites closed P ∙ ap (λ (x : CallSite). sites_at f w sites closed ++ (x ∷ [])) (sym (frame_site f w (stack + (opened - 1) * 14)))

      place-moved : le_at 4 w' (sites + closed * 12) ≡ le_at 4 w₀ (stack + (opened - 1) * 14 + 2)
      place-moved =
          sym (le_at-front 4 w' (sites + closed * 12) 12 (omega arith)) ∙ ap (λ (b : List ℕ). le_at 4 b 0) P.same ∙ le_at-front 4 w (stack + (opened - 1) * 14 + 2) 12 (omega arith)
          ∙ le_at-kept 4 (stack + (opened - 1) * 14 + 2) C.rest (inl (omega (arith, C.few)))

      each_next : (i : ℕ) → i < closed + 1 → ((j : ℕ) × (j < n) × (le_at 4 w' (sites + i * 12) ≡ le_at 4 w₀ (stack + j * 14 + 2))) ⊎ ((i < m) × (le_at 4 w' (sites + i * 12) ≡ le_at 4 w₀ (sites + i * 12)))
      each_next i k = go (le-or_lt closed i)
        where
          go : (closed ≤ i) ⊎ (i < closed) → ((j : ℕ) × (j < n) × (le_at 4 w' (sites + i * 12) ≡ le_at 4 w₀ (stack + j * 14 + 2))) ⊎ ((i < m) × (le_at 4 w' (sites + i * 12) ≡ le_at 4 w₀ (sites + i * 12)))
          go (inl g) = let e : i ≡ closed = omega arith in inl (opened - 1, omega (arith, C.few), rw e place-moved)
          go (inr g) =
              let same : le_at 4 w' (sites + i * 12) ≡ le_at 4 w (sites + i * 12) = le_at-kept 4 (sites + i * 12) P.rest (inl (omega arith)) in
              ⊎_elim (λ x. inl (x.0, x.1, same ∙ x.2)) (λ x. inr (x.0, same ∙ x.1)) (C.each i g)

      pub closing_next : length w' ≡ length w → Closing w₀ w' stack n sites m d (opened - 1) (closed + 1)
      closing_next z = record {
        sum = omega (arith, C.sum);
        few = omega (arith, C.few);
        left = λ f. ap (drop_while (ends_here d)) (stay f) ∙ sym (drop_off d (top f) _ (omega (arith, top-depth f))) ∙ ap (drop_while (ends_here d)) (sym (top-is f)) ∙ C.left f;
        moved = λ f.
            (λ i. pushed f i ++ sites_of (take_while (ends_here d) (stay f i)))
            ∙ append_assoc (sites_at f w sites closed) ((top f).call_site ∷ []) (sites_of (take_while (ends_here d) (site_frames_at f w stack (opened - 1))))
            ∙ ap (λ (l : List CallSiteFrame). sites_at f w sites closed ++ sites_of l) (sym (ap (take_while (ends_here d)) (top-is f) ∙ take_off d (top f) _ (omega (arith, top-depth f))))
            ∙ C.moved f;
        each = each_next;
        rest = kept_trans C.rest (kept-wide (sites + m * 12) (n * 12) P.rest (omega (arith, C.sum, C.few)) (omega (arith, C.sum, C.few)));
        size = z ∙ C.size;
      }
