-- The walk over the entries below a subprogram does what the stack machine does over their tree entries, up to the first fault; so its nodes obey demand 3.
use mathlib.Core.Path.{◌≡◌, refl, sym, ap, subst, ◌∙◌}
use mathlib.Core.Logic.{◌⊎◌, inl, inr}
use mathlib.Core.Bool.{Bool, true, false, cond, ◌&&◌, ◌||◌, false≢true}
use mathlib.Core.List.{List, [], ◌∷◌, ◌++◌, map, append_assoc, append-nil}
use mathlib.Core.Option.{Option, none, some}
use Prim.Native.Nat.{ℕ, suc, ◌+◌, ◌^◌, ◌<◌}
use native.Mathlib.Omega.{arith}
use lib.ListN.{length}
use Rattle.tlv.specs.declared.model.AddressRange.{AddressRange}
use Rattle.tlv.specs.Outcome.{Outcome, refused, done, ◌>>=◌}
use Rattle.tlv.specs.Lists.{Any, All}
use Rattle.tlv.specs.Model.{Entry}
use Rattle.tlv.specs.Accepted.{UnitAccepted}
use Rattle.tlv.proofs.OutcomeLaws.{Gives, gives, gives-cond, gives_of, gives-bind, given}
use Rattle.buffers.specs.Output.{InlineNode, CallSite}
use Rattle.references.specs.Search.{resolve_name}
use Rattle.imports.specs.Tree.{InlineFrame, Descendants, DetailContext, finish_inlines, finish, make_call_site, push_call_site, is_call_site, collect_entry, collect_entries, no_descendants, collect_descendants, extract_subprogram_details}
use Rattle.imports.specs.Agree.{TreeNode, found_name, tree_entry, tree_entries, tree_node, TreeAgrees}
use Rattle.imports.specs.Demand.{entries_below}
use Rattle.imports.proofs.StackMachine.{Walked, and_then, run, tree}
use Rattle.imports.proofs.Loop.{run_none, run_node, run_deep}
use Rattle.imports.proofs.ListAgree.{TreeAnswer}
use Rattle.imports.proofs.UnitDemand.{demand-below}
use Rattle.imports.proofs.WalkPlaces.{tree-length, tree-steps, below-map, below-offsets}
use Rattle.imports.proofs.WalkSteps.{Clean, Fault, tree_of, kept_of, Step, passes, pushes, sinks, fails, step}

-- ---- the walk, held against the machine

-- a finished walk from the open nodes st: nothing was wrong, and the machine's nodes joined those before
pub record Simulated (c : DetailContext) (es : List Entry) (st : List InlineFrame) (before : List TreeNode) (x : Descendants) : Type 0 where
  pub clean : All (Clean c) es
  pub nodes : List TreeNode
  pub ran : run c.function_range st (map (tree_of c) es) ≡ done nodes
  pub inlines : map tree_node x.inlines ≡ before ++ nodes

-- a walk finished so, or the machine too refuses, or there was a fault
abbrev pub Walk : DetailContext → List Entry → List InlineFrame → List TreeNode → Outcome Descendants → Type 0
Walk c es st before (done x) = Simulated c es st before x
Walk c es st before (refused n) = ((n ≡ 14) × (run c.function_range st (map (tree_of c) es) ≡ refused 14)) ⊎ Any (λ e. Fault c e n) es

module _ (c : DetailContext) (e : Entry) (es : List Entry) (st : List InlineFrame) (before : List TreeNode) where
  passed_on : Clean c e → kept_of c e (finish_inlines e.depth st) ≡ [] → (o : Outcome Descendants) → Walk c es (finish_inlines e.depth st) before o → Walk c (e ∷ es) st before o
  unfolding tree_entry
  passed_on k m (done x) h = record { clean = (k, h.clean); nodes = h.nodes; ran = run_none c.function_range st (tree_of c e) (map (tree_of c) es) m ∙ h.ran; inlines = h.inlines }
  passed_on k m (refused n) (inl h) = inl (h.0, run_none c.function_range st (tree_of c e) (map (tree_of c) es) m ∙ h.1)
  passed_on k m (refused n) (inr h) = inr (inr h)

  module _ (m : AddressRange) (ms : List AddressRange) where
    abbrev made : TreeNode
    made = record { depth = suc (length (finish_inlines e.depth st)); name = found_name (resolve_name c.dwarf c.unit e); ranges = m ∷ ms }

    abbrev opened : List InlineFrame
    opened = record { die_depth = e.depth; ranges = m ∷ ms } ∷ finish_inlines e.depth st

    pushed_on : Clean c e → kept_of c e (finish_inlines e.depth st) ≡ m ∷ ms → length (finish_inlines e.depth st) < 256 → (o : Outcome Descendants) → Walk c es opened (before ++ (made ∷ [])) o → Walk c (e ∷ es) st before o
    unfolding tree_entry
    pushed_on k q l (done x) h = record {
      clean = (k, h.clean);
      nodes = made ∷ h.nodes;
      ran = run_node c.function_range st (tree_of c e) (map (tree_of c) es) m ms q l ∙ ap (and_then made) h.ran;
      inlines = h.inlines ∙ append_assoc before (made ∷ []) h.nodes;
    }
    pushed_on k q l (refused n) (inl h) = inl (h.0, run_node c.function_range st (tree_of c e) (map (tree_of c) es) m ms q l ∙ ap (and_then made) h.1)
    pushed_on k q l (refused n) (inr h) = inr (inr h)

module _ (c : DetailContext) (on : c.include_inlines ≡ true) where
  after-step : (e : Entry) (es : List Entry) (w : Descendants) {o : Outcome Descendants} → Step c e (finish e.depth w) o →
      ((x : Descendants) → Walk c es x.inline_stack (map tree_node x.inlines) (collect_entries c es x)) → Walk c (e ∷ es) w.inline_stack (map tree_node w.inlines) (o >>= collect_entries c es)
  unfolding finish tree_entry ◌>>=◌
  after-step e es w (passes {x = x} k m s n) ih =
      passed_on c e es w.inline_stack (map tree_node w.inlines) k m (collect_entries c es x)
      (subst (λ (t : List InlineFrame). Walk c es t (map tree_node w.inlines) (collect_entries c es x)) s
      (subst (λ (ns : List InlineNode). Walk c es x.inline_stack (map tree_node ns) (collect_entries c es x)) n (ih x)))
  after-step e es w (pushes {x = x} {m = m} {ms = ms} k q l s n) ih =
      pushed_on c e es w.inline_stack (map tree_node w.inlines) m ms k q l (collect_entries c es x)
      (subst (λ (t : List InlineFrame). Walk c es t (map tree_node w.inlines ++ (made c e es w.inline_stack (map tree_node w.inlines) m ms ∷ [])) (collect_entries c es x)) s
      (subst (λ (ns : List TreeNode). Walk c es x.inline_stack ns (collect_entries c es x)) n (ih x)))
  after-step e es w (sinks {m = m} {ms = ms} q l) ih = inl (refl, run_deep c.function_range w.inline_stack (tree_of c e) (map (tree_of c) es) m ms q l)
  after-step e es w (fails f) ih = inr (inl f)

  pub walk : (es : List Entry) (w : Descendants) → All (λ e. c.unit.offset + e.offset < 2 ^ 64) es → Walk c es w.inline_stack (map tree_node w.inlines) (collect_entries c es w)
  unfolding collect_entries run
  walk [] w h = record { clean = tt; nodes = []; ran = refl; inlines = sym (append-nil (map tree_node w.inlines)) }
  walk (e ∷ es) w h = after-step e es w (step c e (finish e.depth w) h.0 on) (λ x. walk es x h.1)

  -- with what is closed at the end
  pub details : (es : List Entry) → All (λ e. c.unit.offset + e.offset < 2 ^ 64) es → Walk c es [] [] (extract_subprogram_details c es)
  unfolding extract_subprogram_details collect_descendants finish ◌>>=◌
  details es h = asked c.include_inlines on
    where
      closed : (o : Outcome Descendants) → Walk c es [] [] o → Walk c es [] [] (o >>= λ w. done (finish 0 w))
      closed (done x) r = record { clean = r.clean; nodes = r.nodes; ran = r.ran; inlines = r.inlines }
      closed (refused n) r = r

      asked : (b : Bool) → b ≡ true → Walk c es [] [] (cond (b || c.include_call_sites) (collect_descendants c es) (done no_descendants))
      asked true q = closed (collect_entries c es no_descendants) (walk es no_descendants h)
      asked false q = absurd (false≢true q)

-- ---- below a subprogram

module _ (c : DetailContext) (s : ℕ) (a : UnitAccepted c.unit) (l : s < length c.unit.entries) where
  -- what the machine says is so of the unit
  pub machine-answer : (o : Walked) → run c.function_range [] (map (tree_of c) (entries_below c.unit s)) ≡ o → TreeAnswer c.function_range (tree_entries c.dwarf c.unit) s o
  unfolding tree
  machine-answer o h =
      subst (TreeAnswer c.function_range (tree_entries c.dwarf c.unit) s) (ap (run c.function_range []) (sym (below-map c.dwarf c.unit s l)) ∙ h)
      (demand-below c.function_range (tree_entries c.dwarf c.unit) s (tree-steps c.dwarf c.unit a) (omega (arith, tree-length c.dwarf c.unit)))

  pub walk-below : c.include_inlines ≡ true → Walk c (entries_below c.unit s) [] [] (extract_subprogram_details c (entries_below c.unit s))
  walk-below on = details c on (entries_below c.unit s) (below-offsets c.dwarf c.unit s l a)

-- demand 3 for the nodes of a walk
pub walk-tree : (c : DetailContext) (s : ℕ) (x : Descendants) → c.include_inlines ≡ true → UnitAccepted c.unit → s < length c.unit.entries →
    extract_subprogram_details c (entries_below c.unit s) ≡ done x → TreeAgrees c.function_range (tree_entries c.dwarf c.unit) s (map tree_node x.inlines)
walk-tree c s x on a l h =
    let t : Simulated c (entries_below c.unit s) [] [] x = subst (Walk c (entries_below c.unit s) [] []) h (walk-below c s a l on) in
    subst (TreeAgrees c.function_range (tree_entries c.dwarf c.unit) s) (sym t.inlines) (machine-answer c s a l (done t.nodes) t.ran)

-- ---- where inlines are not asked for, the walk makes no nodes

-- the walk ends with the nodes ns
abbrev Same : List InlineNode → Descendants → Type 0
Same ns x = x.inlines ≡ ns

module _ (c : DetailContext) (off : c.include_inlines ≡ false) where
  same-entry : (e : Entry) (w : Descendants) → Gives (Same w.inlines) (collect_entry c e w)
  unfolding collect_entry
  same-entry e w =
      gives-cond (c.include_call_sites && is_call_site e) (λ q. gives-bind (gives_of {P = λ s. Unit {0}} (make_call_site c e) λ s h. tt) λ s h. gives (same-site s)) λ q.
      rw off (gives refl)
    where
      same-site : (s : Option CallSite) → Same w.inlines (push_call_site e w s)
      same-site none = refl
      same-site (some s) = refl

  same_entries : (es : List Entry) (w : Descendants) → Gives (Same w.inlines) (collect_entries c es w)
  unfolding collect_entries finish
  same_entries [] w = gives refl
  same_entries (e ∷ es) w = let later = same_entries es in gives-bind (same-entry e (finish e.depth w)) λ x h. rw (← h) (later x)

  same-details : (es : List Entry) → Gives (Same []) (extract_subprogram_details c es)
  unfolding extract_subprogram_details collect_descendants finish
  same-details es = gives-cond (c.include_inlines || c.include_call_sites) (λ q. gives-bind (same_entries es no_descendants) λ x h. gives h) (λ q. gives refl)

pub walk-treeless : (c : DetailContext) (es : List Entry) (x : Descendants) → c.include_inlines ≡ false → extract_subprogram_details c es ≡ done x → x.inlines ≡ []
walk-treeless c es x off = given (same-details c off es)
