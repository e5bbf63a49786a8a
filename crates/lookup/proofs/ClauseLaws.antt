-- The clauses of a tray's form, part by part: what may follow, payloads, depths.
use mathlib.Core.Path.{◌≡◌, refl}
use mathlib.Core.Bool.{Bool, true, false, cond, ◌&&◌, ◌||◌, not, false≢true}
use mathlib.Core.Logic.{◌⊎◌, inl, inr, ◌≢◌}
use mathlib.Core.List.{List, [], ◌∷◌, ◌++◌, map}
use Prim.Native.Nat.{ℕ, ◌+◌, ◌≤◌}
use native.Mathlib.Omega.{arith}
use lib.Dec.{leb, eqb}
use lib.ListN.{length}
use borrow.Author.Tests.{leb-true, ltb-true, eqb-true}
use Rattle.tlv.specs.Lists.{All}
use Rattle.tlv.specs.Bytes.{le_at}
use Rattle.tlv.specs.Fields.{FieldList}
use Rattle.tlv.proofs.TestLaws.{and_left, and_right}
use Rattle.buffers.specs.Reader.{records_after, range_formed, records_formed}
use Rattle.buffers.specs.Output.{tray_row_size}
use Rattle.lookup.specs.Form.{NodeParts, FunctionParts, tagged, nodes_fields, tray_fields, ended, StartsBelow, FunctionPayload, RowPayload, RangePayload}
use Rattle.lookup.specs.Form.{SitePayload, NodeFormed, DepthsAfter, Depths, depth_in, FunctionFormed}
use Rattle.lookup.proofs.FormLaws.{Ordered}

-- ---- what stands before: nothing, or a field that the test tells apart

pub data Stage : Type 0 where
  at-start : Stage
  in_rows : Stage
  at-node : Stage
  in-ranges : Stage
  in-sites : Stage

abbrev pub stage_of : ℕ → Stage
stage_of t = cond (eqb t 0x41 || eqb t 0x42) in_rows (cond (eqb t 0x43) at-node (cond (eqb t 0x44) in-ranges (cond (eqb t 0x45) in-sites at-start)))

abbrev pub after : Stage → List ℕ
after at-start = 0x41 ∷ []
after in_rows = 0x41 ∷ 0x42 ∷ 0x43 ∷ 0x45 ∷ []
after at-node = 0x44 ∷ []
after in-ranges = 0x41 ∷ 0x43 ∷ 0x44 ∷ 0x45 ∷ []
after in-sites = 0x41 ∷ 0x45 ∷ []

pub after_is : (t : ℕ) → records_after t ≡ after (stage_of t)
unfolding records_after
after_is t = go (eqb t 0x41 || eqb t 0x42) (eqb t 0x43) (eqb t 0x44) (eqb t 0x45)
  where
    go : (a b c d : Bool)
        → cond a (0x41 ∷ 0x42 ∷ 0x43 ∷ 0x45 ∷ []) (cond b (0x44 ∷ []) (cond c (0x41 ∷ 0x43 ∷ 0x44 ∷ 0x45 ∷ []) (cond d (0x41 ∷ 0x45 ∷ []) (0x41 ∷ []))))
        ≡ after (cond a in_rows (cond b at-node (cond c in-ranges (cond d in-sites at-start))))
    go true b c d = refl
    go false true c d = refl
    go false false true d = refl
    go false false false true = refl
    go false false false false = refl

-- which parts can follow
abbrev pub Allowed : Stage → List (List ℕ) → List (List ℕ) → List NodeParts → List (List ℕ) → Type 0
Allowed at-start ranges rows nodes sites = (ranges ≡ []) × (rows ≡ []) × (nodes ≡ []) × (sites ≡ [])
Allowed in_rows ranges rows nodes sites = ranges ≡ []
Allowed at-node ranges rows nodes sites = (ranges ≢ []) × (rows ≡ [])
Allowed in-ranges ranges rows nodes sites = rows ≡ []
Allowed in-sites ranges rows nodes sites = (ranges ≡ []) × (rows ≡ []) × (nodes ≡ [])

pub allowed_end : (t : ℕ) → not (eqb t 0x43) ≡ true → Allowed (stage_of t) [] [] [] []
allowed_end t = go (eqb t 0x41 || eqb t 0x42) (eqb t 0x43) (eqb t 0x44) (eqb t 0x45)
  where
    go : (a b c d : Bool) → not b ≡ true → Allowed (cond a in_rows (cond b at-node (cond c in-ranges (cond d in-sites at-start)))) [] [] [] []
    go true b c d h = refl
    go false true c d h = absurd (false≢true h)
    go false false true d h = refl
    go false false false true h = (refl, refl, refl)
    go false false false false h = (refl, refl, refl, refl)

-- ---- the fields that are left, part by part: of the node, of the function, and the functions behind it

abbrev pub parts_fields : List (List ℕ) → List (List ℕ) → List NodeParts → List (List ℕ) → List FunctionParts → FieldList
parts_fields ranges rows nodes sites functions =
    ended (tagged 0x44 ranges ++ (tagged 0x42 rows ++ (nodes_fields nodes ++ (tagged 0x45 sites ++ tray_fields functions))))

pub record Rest (g : Stage) (d : ℕ) (fs : FieldList) : Type 0 where
  pub ranges : List (List ℕ)
  pub rows : List (List ℕ)
  pub nodes : List NodeParts
  pub sites : List (List ℕ)
  pub functions : List FunctionParts
  pub whole : fs ≡ parts_fields ranges rows nodes sites functions
  pub ranges-are : All RangePayload ranges
  pub rows_are : All RowPayload rows
  pub nodes-are : All NodeFormed nodes
  pub sites-are : All SitePayload sites
  pub each : All FunctionFormed functions
  pub depths : Ordered d (map depth_in nodes)
  pub allowed : Allowed g ranges rows nodes sites

-- ---- payloads

range-below : (p : List ℕ) → range_formed p ≡ true → StartsBelow p
unfolding range_formed
range-below p h = ltb-true (le_at 8 p 0) (le_at 8 p 8) h

pub function-payload : (d : ℕ) (p : List ℕ) → records_formed d 0x41 p ≡ true → FunctionPayload p
unfolding records_formed
function-payload d p h = (
  leb-true 16 (length p) (and_left (leb 16 (length p)) (range_formed p) h),
  range-below p
      (and_right (leb 16 (length p)) (range_formed p) h),
)

pub row-payload : (d : ℕ) (p : List ℕ) → records_formed d 0x42 p ≡ true → RowPayload p
unfolding records_formed
row-payload d p h = eqb-true (length p) tray_row_size h

pub range-payload : (d : ℕ) (p : List ℕ) → records_formed d 0x44 p ≡ true → RangePayload p
unfolding records_formed
range-payload d p h = (eqb-true (length p) 16 (and_left (eqb (length p) 16) (range_formed p) h), range-below p (and_right (eqb (length p) 16) (range_formed p) h))

pub site-payload : (d : ℕ) (p : List ℕ) → records_formed d 0x45 p ≡ true → SitePayload p
unfolding records_formed
site-payload d p h = leb-true 9 (length p) h

pub node-payload : (d : ℕ) (p : List ℕ) → records_formed d 0x43 p ≡ true → 10 ≤ length p
unfolding records_formed
node-payload d p h =
    let x = le_at 2 p 0 in
    let front = and_left (leb 10 (length p) && leb x d && leb x 256) (leb 1 x || eqb d 0) h in
    leb-true 10 (length p) (and_left (leb 10 (length p)) (leb x d) (and_left (leb 10 (length p) && leb x d) (leb x 256) front))

-- ---- depths

depths-after : (d : ℕ) (xs : List ℕ) → Ordered (d + 1) xs → DepthsAfter d xs
depths-after d [] o = tt
depths-after d (x ∷ xs) o = (positive o.2, o.0, o.1, depths-after x xs o.3)
  where
    positive : (1 ≤ x) ⊎ (d + 1 ≡ 0) → 1 ≤ x
    positive (inl h) = h
    positive (inr e) = absurd (omega arith)

pub depths-of : (xs : List ℕ) → Ordered 0 xs → Depths xs
depths-of [] o = tt
depths-of (x ∷ xs) o = let l = o.0 in (omega arith, depths-after x xs o.3)
