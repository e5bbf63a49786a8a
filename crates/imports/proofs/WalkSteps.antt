-- What the walk does at one entry: it does what the stack machine does, or there is a fault at the entry.
use mathlib.Core.Path.{◌≡◌, refl, sym, subst, ◌∙◌}
use mathlib.Core.Logic.{◌≢◌}
use mathlib.Core.Bool.{Bool, true, false, cond, ◌&&◌, false≢true, and-false}
use mathlib.Core.List.{List, [], ◌∷◌, ◌++◌, map, map-append, cons≢nil}
use mathlib.Core.Option.{Option, none, some, some-ne-none}
use Prim.Native.Nat.{ℕ, suc, ◌+◌, ◌^◌, ◌≤◌, ◌<◌}
use native.Mathlib.Omega.{arith}
use lib.Dec.{ltb, eqb}
use lib.ListN.{length}
use borrow.Author.Tests.{ltb-true, ltb-false, lt-ltb, eqb-true, eqb-false, eq-eqb, ne_eqb}
use Rattle.tlv.specs.declared.model.AddressRange.{AddressRange}
use Rattle.tlv.specs.declared.model.FileIndex.{FileIndex}
use Rattle.tlv.specs.Outcome.{Outcome, refused, done, ◌>>=◌}
use Rattle.tlv.specs.Lists.{is_empty, is_none}
use Rattle.tlv.specs.Model.{Entry, RangeFailure}
use Rattle.tlv.proofs.TestLaws.{by_test}
use Rattle.tlv.proofs.OutcomeLaws.{Done, done-bind}
use Rattle.buffers.specs.Output.{CallSite}
use Rattle.lines.specs.Files.{get}
use Rattle.references.specs.Search.{absolute_entry_offset, unsigned_attribute, file_index_attribute, resolve_name}
use Rattle.imports.specs.Ranges.{coalesce_ranges}
use Rattle.imports.specs.Tree.{fit, die_ranges, ranges_of, InlineFrame, Descendants, DetailContext, make_call_site, push_call_site, CallFile, call_file_from, call_file_if, call_file_of, CallLine, call_line_if, call_line_of, push_inline, parent_ranges, make_inline_node, is_inlined, collect_entry}
use Rattle.imports.specs.Agree.{TreeEntry, found_name, tree_entry, tree_node}
use Rattle.imports.proofs.StackMachine.{keep}

-- ---- what a walk asks of an entry

-- nothing is wrong with entry e
pub record Clean (c : DetailContext) (e : Entry) : Type 0 where
  pub name : e.tag ≡ 0x1d → (name : List ℕ) × (resolve_name c.dwarf c.unit e ≡ done name)
  pub ranges : e.tag ≡ 0x1d → found_name (resolve_name c.dwarf c.unit e) ≢ [] → (die_ranges c.dwarf e).failure ≡ none
  pub site : c.include_call_sites ≡ true → e.tag ≡ 0x48 → (x : Option CallSite) × (make_call_site c e ≡ done x)

-- entry e is refused with the number n
pub data Fault (c : DetailContext) (e : Entry) : ℕ → Type 0 where
  bad_name : {n : ℕ} → e.tag ≡ 0x1d → resolve_name c.dwarf c.unit e ≡ refused n → Fault c e n
  bad-ranges : e.tag ≡ 0x1d → found_name (resolve_name c.dwarf c.unit e) ≢ [] → (die_ranges c.dwarf e).failure ≢ none → Fault c e (die_ranges c.dwarf e).refusal
  bad_site : {n : ℕ} → c.include_call_sites ≡ true → e.tag ≡ 0x48 → make_call_site c e ≡ refused n → Fault c e n

abbrev pub tree_of : DetailContext → Entry → TreeEntry
tree_of c e = tree_entry c.dwarf c.unit e

-- the merged ranges of the node that the machine makes of e
abbrev pub kept_of : DetailContext → Entry → List InlineFrame → List AddressRange
kept_of c e st = keep (parent_ranges c.function_range st) (tree_of c e)

-- the ways that a step from w at e can go, each with what the machine finds there
pub data Step (c : DetailContext) (e : Entry) (w : Descendants) : Outcome Descendants → Type 0 where
  passes : {x : Descendants} → Clean c e → kept_of c e w.inline_stack ≡ [] → x.inline_stack ≡ w.inline_stack → x.inlines ≡ w.inlines → Step c e w (done x)
  pushes : {x : Descendants} {m : AddressRange} {ms : List AddressRange} → Clean c e → kept_of c e w.inline_stack ≡ m ∷ ms → length w.inline_stack < 256 →
      x.inline_stack ≡ record { die_depth = e.depth; ranges = m ∷ ms } ∷ w.inline_stack →
      map tree_node x.inlines ≡ map tree_node w.inlines ++ (record { depth = suc (length w.inline_stack); name = found_name (resolve_name c.dwarf c.unit e); ranges = m ∷ ms } ∷ []) → Step c e w (done x)
  sinks : {m : AddressRange} {ms : List AddressRange} → kept_of c e w.inline_stack ≡ m ∷ ms → 256 ≤ length w.inline_stack → Step c e w (refused 14)
  fails : {n : ℕ} → Fault c e n → Step c e w (refused n)

-- ---- a call's file and line can be said

module _ (c : DetailContext) (e : Entry) (small : c.unit.offset + e.offset < 2 ^ 64) where
  -- the entry's offset in its section can be said
  absolute : Done (absolute_entry_offset c.unit e.offset)
  unfolding absolute_entry_offset
  absolute = (c.unit.offset + e.offset, rw (lt-ltb (c.unit.offset + e.offset) (2 ^ 64) small))

  call-file : Done (call_file_of c e)
  unfolding call_file_of
  call-file = go (file_index_attribute e 0x58)
    where
      from : (n : ℕ) (o : Option FileIndex) → Done (call_file_from c e n o)
      from n (some i) = (_, refl)
      from n none = done-bind (absolute_entry_offset c.unit e.offset) _ absolute (λ o. (_, refl))

      go : (o : Option ℕ) → Done (call_file_if c e o)
      go none = (_, refl)
      go (some n) = from n (get c.file_indices n)

  call_line-done : Done (call_line_of c e)
  unfolding call_line_of
  call_line-done = go (unsigned_attribute e 0x59)
    where
      go : (o : Option ℕ) → Done (call_line_if c e o)
      go none = (_, refl)
      go (some n) = by_test Done (ltb n (2 ^ 32)) (λ q. (_, refl)) (λ q. done-bind (absolute_entry_offset c.unit e.offset) _ absolute (λ o. (_, refl)))

-- ---- what the machine makes of an entry

module _ (c : DetailContext) (e : Entry) (st : List InlineFrame) where
  keep-other : eqb e.tag 0x1d ≡ false → kept_of c e st ≡ []
  unfolding keep tree_entry
  keep-other h = rw h

  keep_nameless : resolve_name c.dwarf c.unit e ≡ done [] → kept_of c e st ≡ []
  unfolding keep tree_entry
  keep_nameless h = rw (h, and-false (eqb e.tag 0x1d))

  keep-named : (b : ℕ) (bs : List ℕ) → eqb e.tag 0x1d ≡ true → resolve_name c.dwarf c.unit e ≡ done (b ∷ bs) → kept_of c e st ≡ coalesce_ranges (fit (parent_ranges c.function_range st) (ranges_of c.dwarf e))
  unfolding keep tree_entry
  keep-named b bs t h = rw (t, h)

-- ---- the step

module _ (c : DetailContext) (e : Entry) (w : Descendants) where
  -- an entry that is no inlined one and, where they are asked for, no call site
  clean-other : eqb e.tag 0x1d ≡ false → (c.include_call_sites ≡ true → e.tag ≡ 0x48 → ⊥) → Clean c e
  clean-other t h = record {
    name = λ q. absurd (eqb-false e.tag 0x1d t q);
    ranges = λ q. absurd (eqb-false e.tag 0x1d t q);
    site = λ a q. absurd (h a q);
  }

  clean-inlined : (name : List ℕ) → e.tag ≡ 0x1d → resolve_name c.dwarf c.unit e ≡ done name → (name ≢ [] → (die_ranges c.dwarf e).failure ≡ none) → Clean c e
  clean-inlined name t h r = record { name = λ q. (name, h); ranges = λ q z. r (rw h at z); site = λ a q. absurd (omega arith) }

  -- a call site
  site-step : c.include_call_sites ≡ true → e.tag ≡ 0x48 → (o : Outcome (Option CallSite)) → make_call_site c e ≡ o → Step c e w (o >>= λ s. done (push_call_site e w s))
  unfolding ◌>>=◌
  site-step a t (refused n) h = fails (bad_site a t h)
  site-step a t (done s) h = passes (record { name = λ q. absurd (omega arith); ranges = λ q. absurd (omega arith); site = λ q r. (s, h) }) (keep-other c e w.inline_stack (ne_eqb e.tag 0x1d (λ q. omega arith))) (same-stack s) (same_nodes s)
    where
      same-stack : (s : Option CallSite) → (push_call_site e w s).inline_stack ≡ w.inline_stack
      same-stack none = refl
      same-stack (some x) = refl

      same_nodes : (s : Option CallSite) → (push_call_site e w s).inlines ≡ w.inlines
      same_nodes none = refl
      same_nodes (some x) = refl

  -- the state with one more node open
  abbrev opened : List ℕ → AddressRange → List AddressRange → CallFile → CallLine → Descendants
  opened name r rs file line = record {
    inline_stack = record { die_depth = e.depth; ranges = r ∷ rs } ∷ w.inline_stack;
    inlines = w.inlines ++ (record { depth = suc (length w.inline_stack); call_file = file.file; call_line = line.line; name = name; ranges = r ∷ rs } ∷ []);
    call_site_stack = w.call_site_stack;
    call_sites = w.call_sites;
    warnings = w.warnings ++ (file.warnings ++ line.warnings);
  }

  push_is : (name : List ℕ) (r : AddressRange) (rs : List AddressRange) (file : CallFile) (line : CallLine) → call_file_of c e ≡ done file → call_line_of c e ≡ done line →
      push_inline c e name (r ∷ rs) w ≡ cond (ltb (length w.inline_stack) 256) (done (opened name r rs file line)) (refused 14)
  unfolding push_inline ◌>>=◌
  push_is name r rs file line p q = rw (p, q)

  module _ (small : c.unit.offset + e.offset < 2 ^ 64) where
    push_step : (name : List ℕ) (ms : List AddressRange) → resolve_name c.dwarf c.unit e ≡ done name → Clean c e → kept_of c e w.inline_stack ≡ ms → Step c e w (push_inline c e name ms w)
    unfolding push_inline
    push_step name [] h k m = passes k m refl refl
    push_step name (r ∷ rs) h k m =
        let file = call-file c e small in
        let line = call_line-done c e small in
        subst (Step c e w) (sym (push_is name r rs file.0 line.0 file.1 line.1))
        (by_test (Step c e w) (ltb (length w.inline_stack) 256)
        (λ q. pushes {x = opened name r rs file.0 line.0} k m (ltb-true (length w.inline_stack) 256 q) refl (rw h (map-append tree_node w.inlines _)))
        (λ q. sinks m (ltb-false (length w.inline_stack) 256 q)))

    -- an inlined entry
    inline-step : e.tag ≡ 0x1d → Step c e w (make_inline_node c e w)
    unfolding make_inline_node ◌>>=◌
    inline-step t = go (resolve_name c.dwarf c.unit e) refl
      where
        ranges : (b : ℕ) (bs : List ℕ) → resolve_name c.dwarf c.unit e ≡ done (b ∷ bs) → (o : Option RangeFailure) → (die_ranges c.dwarf e).failure ≡ o →
            Step c e w (cond (is_none o) (push_inline c e (b ∷ bs) (coalesce_ranges (fit (parent_ranges c.function_range w.inline_stack) (ranges_of c.dwarf e))) w) (refused (die_ranges c.dwarf e).refusal))
        ranges b bs h none q = push_step (b ∷ bs) _ h (clean-inlined (b ∷ bs) t h (λ z. q)) (keep-named c e w.inline_stack b bs (eq-eqb e.tag 0x1d t) h)
        ranges b bs h (some x) q = fails (bad-ranges t (rw h cons≢nil) (λ z. some-ne-none x (sym q ∙ z)))

        go : (o : Outcome (List ℕ)) → resolve_name c.dwarf c.unit e ≡ o →
            Step c e w (o >>= λ name. cond (is_empty name) (done w) (cond (is_none (die_ranges c.dwarf e).failure) (push_inline c e name (coalesce_ranges (fit (parent_ranges c.function_range w.inline_stack) (ranges_of c.dwarf e))) w) (refused (die_ranges c.dwarf e).refusal)))
        go (refused n) h = fails (bad_name t h)
        go (done []) h = passes (clean-inlined [] t h (λ z. absurd (z refl))) (keep_nameless c e w.inline_stack h) refl refl
        go (done (b ∷ bs)) h = ranges b bs h (die_ranges c.dwarf e).failure refl

    pub step : c.include_inlines ≡ true → Step c e w (collect_entry c e w)
    unfolding collect_entry
    step on = first c.include_call_sites (eqb e.tag 0x48) refl refl
      where
        second : (i b : Bool) → i ≡ true → eqb e.tag 0x1d ≡ b → (c.include_call_sites ≡ true → e.tag ≡ 0x48 → ⊥) → Step c e w (cond (i && b) (make_inline_node c e w) (done w))
        second true true q t h = inline-step (eqb-true e.tag 0x1d t)
        second true false q t h = passes (clean-other t h) (keep-other c e w.inline_stack t) refl refl
        second false b q t h = absurd (false≢true q)

        first : (asked site : Bool) → c.include_call_sites ≡ asked → eqb e.tag 0x48 ≡ site →
            Step c e w (cond (asked && site) (make_call_site c e >>= λ s. done (push_call_site e w s)) (cond (c.include_inlines && is_inlined e) (make_inline_node c e w) (done w)))
        first true true a t = site-step a (eqb-true e.tag 0x48 t) (make_call_site c e) refl
        first true false a t = second c.include_inlines (eqb e.tag 0x1d) on refl (λ z. eqb-false e.tag 0x48 t)
        first false site a t = second c.include_inlines (eqb e.tag 0x1d) on refl (λ z. absurd (false≢true (sym a ∙ z)))
