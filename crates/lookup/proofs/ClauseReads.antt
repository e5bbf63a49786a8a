-- A tray that passes the test is in the form that the clauses tell.
use mathlib.Core.Path.{◌≡◌, refl, sym, ap, subst, ◌∙◌}
use mathlib.Core.Bool.{Bool, true, false, cond, ◌&&◌, ◌||◌, false≢true}
use mathlib.Core.List.{List, [], ◌∷◌, ◌++◌, map, cons≢nil, append_assoc}
use Prim.Native.Nat.{ℕ, ◌+◌}
use lib.Dec.{leb, eqb}
use lib.ListN.{length}
use borrow.Author.Tests.{eqb-true}
use Rattle.tlv.specs.Lists.{exists}
use Rattle.tlv.specs.Bytes.{le_at}
use Rattle.tlv.specs.Fields.{Field, FieldList, end, cut, more, fields}
use Rattle.tlv.proofs.TestLaws.{and_left, and_right}
use Rattle.buffers.specs.Reader.{records_after, range_formed, records_formed, depth_after, records_form}
use Rattle.buffers.specs.Output.{tray_row_size}
use Rattle.lookup.specs.Form.{NodeParts, tagged, nodes_fields, tray_fields, ended, depth_in, InForm}
use Rattle.lookup.proofs.FormLaws.{node-ordered}
use Rattle.lookup.proofs.ClauseLaws.{Stage, at-start, in_rows, at-node, in-ranges, in-sites, stage_of, after, after_is, Allowed, allowed_end}
use Rattle.lookup.proofs.ClauseLaws.{parts_fields, Rest, function-payload, row-payload, range-payload, site-payload, node-payload, depths-of}

-- ---- one field more in front

module _ (g : Stage) (d : ℕ) (p : List ℕ) (fs : FieldList) where
  abbrev here : ℕ → FieldList
  here t = more (record { tag = t; payload = p }) fs

  function-step : exists (eqb 0x41) (after g) ≡ true → records_formed d 0x41 p ≡ true → Rest in_rows 0 fs → Rest g d (here 0x41)
  unfolding exists
  function-step order formed r = record {
    ranges = [];
    rows = [];
    nodes = [];
    sites = [];
    functions = record { head = p; rows = r.rows; nodes = r.nodes; sites = r.sites } ∷ r.functions;
    whole = ap (more (record { tag = 0x41; payload = p })) (r.whole ∙ ap
        (λ (l : List (List ℕ)). parts_fields l r.rows r.nodes r.sites r.functions) r.allowed);
    ranges-are = tt;
    rows_are = tt;
    nodes-are = tt;
    sites-are = tt;
    each = (
      record {
        head = function-payload d p formed;
        rows = r.rows_are;
        nodes = r.nodes-are;
        depths = depths-of (map depth_in r.nodes)
            r.depths;
        sites = r.sites-are;
      },
      r.each,
    );
    depths = tt;
    allowed = fits g order;
  }
    where
      fits : (x : Stage) → exists (eqb 0x41) (after x) ≡ true → Allowed x [] [] [] []
      fits at-start e = (refl, refl, refl, refl)
      fits in_rows e = refl
      fits at-node e = absurd (false≢true e)
      fits in-ranges e = refl
      fits in-sites e = (refl, refl, refl)

  row_step : exists (eqb 0x42) (after g) ≡ true → records_formed d 0x42 p ≡ true → Rest in_rows d fs → Rest g d (here 0x42)
  unfolding exists
  row_step order formed r = record {
    ranges = [];
    rows = p ∷ r.rows;
    nodes = r.nodes;
    sites = r.sites;
    functions = r.functions;
    whole = ap (more (record { tag = 0x42; payload = p })) (r.whole ∙ ap
        (λ (l : List (List ℕ)). parts_fields l r.rows r.nodes r.sites r.functions) r.allowed);
    ranges-are = tt;
    rows_are = (row-payload d p formed, r.rows_are);
    nodes-are = r.nodes-are;
    sites-are = r.sites-are;
    each = r.each;
    depths = r.depths;
    allowed = fits g order;
  }
    where
      fits : (x : Stage) → exists (eqb 0x42) (after x) ≡ true → Allowed x [] (p ∷ r.rows) r.nodes r.sites
      fits at-start e = absurd (false≢true e)
      fits in_rows e = refl
      fits at-node e = absurd (false≢true e)
      fits in-ranges e = absurd (false≢true e)
      fits in-sites e = absurd (false≢true e)

  node-step : exists (eqb 0x43) (after g) ≡ true → records_formed d 0x43 p ≡ true → Rest at-node (le_at 2 p 0 + 1) fs → Rest g d (here 0x43)
  unfolding exists
  node-step order formed r =
      let n = node-ordered d 0x43 p refl formed in
      let tail = tagged 0x45 r.sites ++ tray_fields r.functions in
      record {
        ranges = [];
        rows = [];
        nodes = record { head = p; ranges = r.ranges } ∷ r.nodes;
        sites = r.sites;
        functions = r.functions;
        whole = ap (more (record { tag = 0x43; payload = p }))
            (r.whole ∙ ap (λ (l : List (List ℕ)). parts_fields r.ranges l r.nodes r.sites r.functions) r.allowed.1
            ∙ ap ended (sym (append_assoc (tagged 0x44 r.ranges) (nodes_fields r.nodes) tail)));
        ranges-are = tt;
        rows_are = tt;
        nodes-are = (record { head = node-payload d p formed; some = r.allowed.0; ranges = r.ranges-are }, r.nodes-are);
        sites-are = r.sites-are;
        each = r.each;
        depths = (n.0, n.1, n.2, r.depths);
        allowed = fits g order;
      }
    where
      fits : (x : Stage) → exists (eqb 0x43) (after x) ≡ true → Allowed x [] [] (record { head = p; ranges = r.ranges } ∷ r.nodes) r.sites
      fits at-start e = absurd (false≢true e)
      fits in_rows e = refl
      fits at-node e = absurd (false≢true e)
      fits in-ranges e = refl
      fits in-sites e = absurd (false≢true e)

  range-step : exists (eqb 0x44) (after g) ≡ true → records_formed d 0x44 p ≡ true → Rest in-ranges d fs → Rest g d (here 0x44)
  unfolding exists
  range-step order formed r = record {
    ranges = p ∷ r.ranges;
    rows = r.rows;
    nodes = r.nodes;
    sites = r.sites;
    functions = r.functions;
    whole = ap (more (record { tag = 0x44; payload = p })) r.whole;
    ranges-are = (range-payload d p formed, r.ranges-are);
    rows_are = r.rows_are;
    nodes-are = r.nodes-are;
    sites-are = r.sites-are;
    each = r.each;
    depths = r.depths;
    allowed = fits g order;
  }
    where
      fits : (x : Stage) → exists (eqb 0x44) (after x) ≡ true → Allowed x (p ∷ r.ranges) r.rows r.nodes r.sites
      fits at-start e = absurd (false≢true e)
      fits in_rows e = absurd (false≢true e)
      fits at-node e = (cons≢nil, r.allowed)
      fits in-ranges e = r.allowed
      fits in-sites e = absurd (false≢true e)

  site-step : exists (eqb 0x45) (after g) ≡ true → records_formed d 0x45 p ≡ true → Rest in-sites d fs → Rest g d (here 0x45)
  unfolding exists
  site-step order formed r = record {
    ranges = [];
    rows = [];
    nodes = [];
    sites = p ∷ r.sites;
    functions = r.functions;
    whole = ap (more (record { tag = 0x45; payload = p }))
        (r.whole ∙ ap (λ (l : List (List ℕ)). parts_fields l r.rows r.nodes r.sites r.functions) r.allowed.0
        ∙ ap (λ (l : List (List ℕ)). parts_fields [] l r.nodes r.sites r.functions) r.allowed.1
        ∙ ap (λ (l : List NodeParts). parts_fields [] [] l r.sites r.functions) r.allowed.2);
    ranges-are = tt;
    rows_are = tt;
    nodes-are = tt;
    sites-are = (site-payload d p formed, r.sites-are);
    each = r.each;
    depths = tt;
    allowed = fits g order;
  }
    where
      fits : (x : Stage) → exists (eqb 0x45) (after x) ≡ true → Allowed x [] [] [] (p ∷ r.sites)
      fits at-start e = absurd (false≢true e)
      fits in_rows e = refl
      fits at-node e = absurd (false≢true e)
      fits in-ranges e = refl
      fits in-sites e = (refl, refl, refl)

-- ---- all fields

module _ (g : Stage) (d : ℕ) (f : Field) (fs : FieldList) (order : exists (eqb f.tag) (after g) ≡ true)
    (formed : records_formed d f.tag f.payload ≡ true)
    (rest : Rest (stage_of f.tag) (depth_after d f) fs) where
  -- the same of a field whose tag is t
  abbrev Told : ℕ → Type 0
  Told t = (exists (eqb t) (after g) ≡ true) → (records_formed d t f.payload ≡ true)
      → Rest (stage_of t) (depth_after d (record { tag = t; payload = f.payload })) fs
      → Rest g d (more (record { tag = t; payload = f.payload }) fs)

  told : (t : ℕ) → f.tag ≡ t → Told t → Rest g d (more f fs)
  told t e step = subst Told (sym e) step order formed rest

  one_more : Rest g d (more f fs)
  unfolding depth_after records_formed
  one_more = go (eqb f.tag 0x41) refl (eqb f.tag 0x42) refl (eqb f.tag 0x43) refl (eqb f.tag 0x44) refl (eqb f.tag 0x45) refl formed
    where
      go : (a : Bool) → eqb f.tag 0x41 ≡ a → (b : Bool) → eqb f.tag 0x42 ≡ b → (c : Bool) → eqb f.tag 0x43 ≡ c → (k : Bool) → eqb f.tag 0x44 ≡ k
          → (m : Bool) → eqb f.tag 0x45 ≡ m
          → cond a (leb 16 (length f.payload) && range_formed f.payload)
          (cond b (eqb (length f.payload) tray_row_size)
          (cond c (leb 10 (length f.payload) && leb (le_at 2 f.payload 0) d && leb (le_at 2 f.payload 0) 256 &&
          (leb 1 (le_at 2 f.payload 0) || eqb d 0))
          (cond k (eqb (length f.payload) 16 && range_formed f.payload)
          (cond m (leb 9 (length f.payload)) false)))) ≡ true
          → Rest g d (more f fs)
      go true e b x c y k z m w h = told 0x41 (eqb-true _ _ e) (function-step g d f.payload fs)
      go false e true x c y k z m w h = told 0x42 (eqb-true _ _ x) (row_step g d f.payload fs)
      go false e false x true y k z m w h = told 0x43 (eqb-true _ _ y) (node-step g d f.payload fs)
      go false e false x false y true z m w h = told 0x44 (eqb-true _ _ z) (range-step g d f.payload fs)
      go false e false x false y false z true w h = told 0x45 (eqb-true _ _ w) (site-step g d f.payload fs)
      go false e false x false y false z false w h = absurd (false≢true h)

read : (previous d : ℕ) (fs : FieldList) → records_form previous d fs ≡ true → Rest (stage_of previous) d fs
unfolding records_form
read previous d end h = record {
  ranges = [];
  rows = [];
  nodes = [];
  sites = [];
  functions = [];
  whole = refl;
  ranges-are = tt;
  rows_are = tt;
  nodes-are = tt;
  sites-are = tt;
  each = tt;
  depths = tt;
  allowed = allowed_end previous h;
}
read previous d cut h = absurd (false≢true h)
read previous d (more f fs) h =
    let tests = and_left (exists (eqb f.tag) (records_after previous) && records_formed d f.tag f.payload)
    (records_form f.tag (depth_after d f) fs) h in
    let rest = and_right (exists (eqb f.tag) (records_after previous) && records_formed d f.tag f.payload)
    (records_form f.tag (depth_after d f) fs) h in
    let order = and_left (exists (eqb f.tag) (records_after previous)) (records_formed d f.tag f.payload) tests in
    let formed = and_right (exists (eqb f.tag) (records_after previous)) (records_formed d f.tag f.payload) tests in
    one_more (stage_of previous) d f fs (subst (λ (l : List ℕ). exists (eqb f.tag) l ≡ true) (after_is previous) order) formed
    (read f.tag (depth_after d f) fs rest)

pub in_form : (tray : List ℕ) → records_form 0 0 (fields tray) ≡ true → InForm tray
in_form tray h =
    let r = read 0 0 (fields tray) h in
    record {
      functions = r.functions;
      whole = r.whole ∙ ap (λ (l : List (List ℕ)). parts_fields l r.rows r.nodes r.sites r.functions) r.allowed.0
          ∙ ap (λ (l : List (List ℕ)). parts_fields [] l r.nodes r.sites r.functions) r.allowed.1
          ∙ ap (λ (l : List NodeParts). parts_fields [] [] l r.sites r.functions) r.allowed.2
          ∙ ap (λ (l : List (List ℕ)). parts_fields [] [] [] l r.functions) r.allowed.3;
      each = r.each;
    }
