-- The machine step by step, as a loop goes: what is done, and what the rest gives.
use mathlib.Core.Path.{◌≡◌}
use mathlib.Core.List.{List, [], ◌∷◌}
use Prim.Native.Nat.{suc, ◌≤◌, ◌<◌}
use lib.ListN.{length}
use borrow.Author.Tests.{lt-ltb, le-ltb}
use Rattle.tlv.specs.declared.model.AddressRange.{AddressRange}
use Rattle.tlv.specs.Outcome.{refused}
use Rattle.imports.specs.Tree.{InlineFrame, finish_inlines, parent_ranges}
use Rattle.imports.specs.Agree.{TreeEntry, TreeNode}
use Rattle.imports.proofs.StackMachine.{Walked, keep, and_then, run}

-- nodes in front of an outcome
abbrev pub prepend : List TreeNode → Walked → Walked
prepend [] o = o
prepend (n ∷ ns) o = and_then n (prepend ns o)

module _ (f : AddressRange) (st : List InlineFrame) (e : TreeEntry) (es : List TreeEntry) where
  -- no node
  pub run_none : keep (parent_ranges f (finish_inlines e.depth st)) e ≡ [] → run f st (e ∷ es) ≡ run f (finish_inlines e.depth st) es
  unfolding run
  run_none h = rw h

  -- a node
  pub run_node : (m : AddressRange) (ms : List AddressRange) → keep (parent_ranges f (finish_inlines e.depth st)) e ≡ m ∷ ms → length (finish_inlines e.depth st) < 256 →
      run f st (e ∷ es) ≡ and_then (record { depth = suc (length (finish_inlines e.depth st)); name = e.name; ranges = m ∷ ms }) (run f (record { die_depth = e.depth; ranges = m ∷ ms } ∷ finish_inlines e.depth st) es)
  unfolding run
  run_node m ms h l = rw (h, lt-ltb (length (finish_inlines e.depth st)) 256 l)

  -- too deep
  pub run_deep : (m : AddressRange) (ms : List AddressRange) → keep (parent_ranges f (finish_inlines e.depth st)) e ≡ m ∷ ms → 256 ≤ length (finish_inlines e.depth st) → run f st (e ∷ es) ≡ refused 14
  unfolding run
  run_deep m ms h l = rw (h, le-ltb (length (finish_inlines e.depth st)) 256 l)
