-- What the walk below a subprogram is bounded by: ranges inside the function's, and nodes in preorder, each at most one deeper than the one before.
use mathlib.Core.Path.{◌≡◌, refl}
use mathlib.Core.Logic.{inl}
use mathlib.Core.List.{List, [], ◌∷◌, ◌++◌, cons≢nil}
use Prim.Native.Nat.{ℕ, suc}
use native.Mathlib.Omega.{arith}
use Rattle.tlv.specs.declared.model.AddressRange.{AddressRange}
use Rattle.tlv.specs.Addresses.{Nonempty, Inside}
use Rattle.tlv.specs.Lists.{All}
use Rattle.tlv.specs.Accepted.{String}
use Rattle.tlv.proofs.ListLaws.{all_map, any_one}
use Rattle.buffers.specs.Output.{InlineNode}
use Rattle.buffers.specs.Fits.{RangeFits, NodeFits, NodesFit}
use Rattle.buffers.proofs.PayloadLaws.{node-length}
use Rattle.imports.specs.Ranges.{Apart, coalesce_ranges}
use Rattle.imports.specs.Tree.{fit}
use Rattle.imports.specs.Import.{rooted}
use Rattle.imports.proofs.RangeLaws.{merge-apart, merge-within}
use Rattle.imports.proofs.KeepLaws.{fit-fits}

-- ---- ranges

-- nonempty and inside f
abbrev pub Within : AddressRange → AddressRange → Type 0
Within f r = Nonempty r × Inside r f

within_all : (f : AddressRange) (rs : List AddressRange) → Apart rs → All (λ r. Inside r f) rs → All (Within f) rs
within_all f [] a h = tt
within_all f (r ∷ rs) a h = ((a.0, h.0), within_all f rs a.2 h.1)

-- what is kept of an entry's ranges lies inside f, where the ranges above do
pub kept-within : (f : AddressRange) (ps rs : List AddressRange) → All (Within f) ps → All (Within f) (coalesce_ranges (fit ps rs))
kept-within f ps rs h =
    let fits = fit-fits ps rs in
    within_all f (coalesce_ranges (fit ps rs)) (merge-apart (fit ps rs) (all_map (fit ps rs) (λ r p. p.0) fits))
    (merge-within f (fit ps rs) (all_map (fit ps rs) (λ r p. any_one ps (λ q a b. (omega arith, omega arith)) h p.1) fits))

pub within-fit : (f : AddressRange) (rs : List AddressRange) → RangeFits f → All (Within f) rs → All RangeFits rs
within-fit f rs h = all_map rs (λ r w. record { filled = w.0; small = omega (arith, h.small) })

-- ---- nodes in preorder

-- how deep the next node can be
abbrev pub next_depth : ℕ → List InlineNode → ℕ
next_depth d [] = d
next_depth d (n ∷ ns) = next_depth (suc n.depth) ns

pub nodes-append : (d : ℕ) (ns : List InlineNode) (n : InlineNode) → NodesFit d ns → NodeFits (next_depth d ns) n → NodesFit d (ns ++ (n ∷ []))
nodes-append d [] n h k = (k, tt)
nodes-append d (m ∷ ns) n h k = (h.0, nodes-append (suc m.depth) ns n h.1 k)

pub next-append : (d : ℕ) (ns : List InlineNode) (n : InlineNode) → next_depth d (ns ++ (n ∷ [])) ≡ suc n.depth
next-append d [] n = refl
next-append d (m ∷ ns) n = next-append (suc m.depth) ns n

-- the root above nodes that fit below it
pub rooted-fits : (name : List ℕ) (r : AddressRange) (ns : List InlineNode) → String name → RangeFits r → NodesFit 1 ns → NodesFit 0 (rooted name r ns)
rooted-fits name r [] s h k = tt
rooted-fits name r (n ∷ ns) s h k = (
  record {
    deep = inl refl;
    next = omega arith;
    shallow = omega arith;
    file = omega arith;
    line = omega arith;
    short = omega (arith, s.1, node-length (record { depth = 0; call_file = record { 0 = 0 }; call_line = 0; name = name; ranges = r ∷ [] }));
    filled = cons≢nil;
    ranges = (h, tt);
  },
  k,
)
