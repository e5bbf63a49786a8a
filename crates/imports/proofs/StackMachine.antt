-- The inline tree as a stack machine over tree entries: what the walk over a subprogram's entries does, without searches, warnings and call sites.
-- A device of proofs: demand 3 is shown of it, and of the walk through it.
use mathlib.Core.List.{List, [], ◌∷◌}
use mathlib.Core.Bool.{Bool, true, false, ◌&&◌, cond, not}
use Prim.Native.Nat.{suc}
use lib.Dec.{ltb, eqb}
use lib.ListN.{length}
use Rattle.tlv.specs.declared.model.AddressRange.{AddressRange}
use Rattle.tlv.specs.Outcome.{Outcome, refused, done}
use Rattle.tlv.specs.Lists.{is_empty}
use Rattle.imports.specs.Ranges.{coalesce_ranges}
use Rattle.imports.specs.Tree.{fit, InlineFrame, finish_inlines, parent_ranges}
use Rattle.imports.specs.Agree.{TreeEntry, TreeNode}

abbrev pub Walked : Type 0
Walked = Outcome (List TreeNode)

-- the merged ranges of e's node where the open node above it has the ranges ps; empty where e makes no node
unfoldable pub keep : List AddressRange → TreeEntry → List AddressRange
keep ps e = cond (eqb e.tag 0x1d && not (is_empty e.name)) (coalesce_ranges (fit ps e.ranges)) []

abbrev pub and_then : TreeNode → Walked → Walked
and_then n (refused k) = refused k
and_then n (done ns) = done (n ∷ ns)

-- e makes the next node, one below the open ones: the test is that it stands at most 256 below the root
abbrev pub push_node : Bool → TreeEntry → List AddressRange → List InlineFrame → (List InlineFrame → Walked) → Walked
push_node true e ms st rest = and_then (record { depth = suc (length st); name = e.name; ranges = ms }) (rest (record { die_depth = e.depth; ranges = ms } ∷ st))
push_node false e ms st rest = refused 14

-- e makes a node where it has merged ranges; `rest` goes on with the open nodes
abbrev pub one_entry : TreeEntry → List AddressRange → List InlineFrame → (List InlineFrame → Walked) → Walked
one_entry e [] st rest = rest st
one_entry e (m ∷ ms) st rest = push_node (ltb (length st) 256) e (m ∷ ms) st rest

unfoldable pub run : AddressRange → List InlineFrame → List TreeEntry → Walked
run f st [] = done []
run f st (e ∷ es) = one_entry e (keep (parent_ranges f (finish_inlines e.depth st)) e) (finish_inlines e.depth st) (λ t. run f t es)

-- the nodes below the root, in preorder, of the function with the range f, whose entries below the subprogram are es
unfoldable pub tree : AddressRange → List TreeEntry → Walked
tree f es = run f [] es
