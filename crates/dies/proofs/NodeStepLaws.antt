-- An inlined entry of the walk below a subprogram: its node's bytes, and what becomes of the walk.
use mathlib.Core.Path.{◌≡◌, refl, sym, ap, ◌∙◌}
use mathlib.Core.Bool.{Bool, ◌||◌}
use mathlib.Core.List.{List, [], ◌∷◌, ◌++◌, append-nil, append_assoc}
use Prim.Native.Nat.{ℕ, suc, ◌+◌, ◌*◌, ◌≤◌, ◌<◌}
use native.Mathlib.Numerals.{add-one}
use native.Mathlib.Omega.{arith}
use lib.ListN.{length}
use borrow.Author.Tests.{lt-ltb, le-ltb}
use Rattle.tlv.specs.declared.model.AddressRange.{AddressRange}
use Rattle.tlv.specs.declared.model.FileIndex.{FileIndex}
use Rattle.tlv.specs.Outcome.{Outcome, refused, done, ◌>>=◌}
use Rattle.tlv.specs.Bytes.{le_at}
use Rattle.tlv.specs.Fields.{encode}
use Rattle.tlv.specs.Model.{Entry}
use Rattle.buffers.specs.Buffer.{Put}
use Rattle.buffers.specs.Output.{InlineNode, Warning, warning_payload, warnings_bytes, node_payload, range_payload, range_bytes, each_of, node_bytes}
use Rattle.buffers.specs.Table.{Kept}
use Rattle.buffers.proofs.BufferLaws.{◌then◌}
use Rattle.buffers.proofs.TableLaws.{kept_refl}
use Rattle.access.specs.Places.{entry_here}
use Rattle.lines.specs.Files.{file_index}
use Rattle.references.specs.Tables.{EntryKnown}
use Rattle.files.specs.Indices.{indices_in}
use Rattle.imports.specs.Tree.{Descendants, DetailContext, CallFile, CallLine, call_file_of, call_line_of, push_inline}
use Rattle.ranges.specs.RangeTable.{ranges_at, range_fields}
use Rattle.ranges.proofs.RangeTableLaws.{ranges-length}
use Rattle.dies.specs.declared.details.Details.{Details}
use Rattle.dies.specs.declared.walk.Walk.{Walk}
use Rattle.dies.specs.declared.frames.Open.{Open}
use Rattle.dies.specs.declared.calls.Warned.{Warned}
use Rattle.dies.specs.FrameStack.{open_in, grown}
use Rattle.dies.specs.Past.{is_past, node_size}
use Rattle.dies.specs.Details.{DetailsIn, context_in, third}
use Rattle.dies.specs.DetailState.{Later, OwnRanges, origin_name, site_frames_at, sites_at, ranges_later, entries_left, walk_of, Fits, lead_bytes, new_bytes, walked, Advances, noded}
use Rattle.dies.specs.Calls.{FileCalled, LineCalled}
use Rattle.dies.proofs.FrameLaws.{length-open, Pushed, pushed_is}
use Rattle.dies.proofs.CallLaws.{entry_depth-here}
use Rattle.dies.proofs.PastLaws.{size_is}
use Rattle.dies.proofs.SiteStepLaws.{details-accepted, later-here, lists-here, left_here}
use Rattle.dies.proofs.ListRoomLaws.{own-few, own-used, own-fields}

-- ---- bytes

pub root-put : {at p q : ℕ} {t t₁ t₂ : List ℕ} (name : List ℕ) (r : AddressRange) (n : ℕ) → n ≡ 0
    → Put at (encode 0x43 (node_payload (record { depth = 0; call_file = file_index 0; call_line = 0; name = name; ranges = [] }))) t t₁ p → Put p (encode 0x44 (range_payload r)) t₁ t₂ q
    → Put at (lead_bytes name r n) t t₂ q
unfolding node_bytes node_payload each_of
root-put name r n e A B = rw (e, append-nil (encode 0x44 (range_payload r))) (A then B)

pub node-put : {at p q : ℕ} {t t₁ t₂ : List ℕ} (depth : ℕ) (file : FileIndex) (line : ℕ) (name : List ℕ) (rs : List AddressRange)
    → Put at (encode 0x43 (node_payload (record { depth = depth; call_file = file; call_line = line; name = name; ranges = [] }))) t t₁ p → Put p (each_of range_bytes rs) t₁ t₂ q
    → Put at (node_bytes (record { depth = depth; call_file = file; call_line = line; name = name; ranges = rs })) t t₂ q
unfolding node_bytes node_payload
node-put depth file line name rs A B = A then B

pub each_append : {A : Type 0} (f : A → List ℕ) (xs ys : List A) → each_of f (xs ++ ys) ≡ each_of f xs ++ each_of f ys
unfolding each_of
each_append f [] ys = refl
each_append f (x ∷ xs) ys = ap (λ (l : List ℕ). f x ++ l) (each_append f xs ys) ∙ sym (append_assoc (f x) (each_of f xs) (each_of f ys))

pub warnings-append : (a b : List Warning) → warnings_bytes (a ++ b) ≡ warnings_bytes a ++ warnings_bytes b
unfolding warnings_bytes
warnings-append a b = each_append (λ (x : Warning). encode 0x46 (warning_payload x)) a b

-- ---- what the definition does with ranges that were kept

module _ (c : DetailContext) (e : Entry) (name : List ℕ) (rs : List AddressRange) (x : Descendants) (some-range : 0 < length rs) where
  push_file : {n : ℕ} → call_file_of c e ≡ refused n → push_inline c e name rs x ≡ refused n
  unfolding push_inline ◌>>=◌
  push_file {n} h = go rs some-range
    where
      go : (rs : List AddressRange) → 0 < length rs → push_inline c e name rs x ≡ refused n
      go [] l = absurd (omega arith)
      go (r ∷ rs) l = rw h

  module _ {f : CallFile} (file : call_file_of c e ≡ done f) where
    push_line : {n : ℕ} → call_line_of c e ≡ refused n → push_inline c e name rs x ≡ refused n
    unfolding push_inline ◌>>=◌
    push_line {n} h = go rs some-range
      where
        go : (rs : List AddressRange) → 0 < length rs → push_inline c e name rs x ≡ refused n
        go [] l = absurd (omega arith)
        go (r ∷ rs) l = rw (file, h)

    module _ {l : CallLine} (line : call_line_of c e ≡ done l) where
      push_deep : 256 ≤ length x.inline_stack → push_inline c e name rs x ≡ refused 14
      unfolding push_inline ◌>>=◌
      push_deep h = go rs some-range
        where
          go : (rs : List AddressRange) → 0 < length rs → push_inline c e name rs x ≡ refused 14
          go [] l = absurd (omega arith)
          go (r ∷ rs) l = rw (file, line, le-ltb (length x.inline_stack) 256 h)

      push_done : length x.inline_stack < 256 → push_inline c e name rs x ≡ done (record {
        inline_stack = record { die_depth = e.depth; ranges = rs } ∷ x.inline_stack;
        inlines = x.inlines ++ (record { depth = suc (length x.inline_stack); call_file = f.file; call_line = l.line; name = name; ranges = rs } ∷ []);
        call_site_stack = x.call_site_stack;
        call_sites = x.call_sites;
        warnings = x.warnings ++ (f.warnings ++ l.warnings);
      })
      unfolding push_inline ◌>>=◌
      push_done h = go rs some-range
        where
          go : (rs : List AddressRange) → 0 < length rs → push_inline c e name rs x ≡ done (record {
            inline_stack = record { die_depth = e.depth; ranges = rs } ∷ x.inline_stack;
            inlines = x.inlines ++ (record { depth = suc (length x.inline_stack); call_file = f.file; call_line = l.line; name = name; ranges = rs } ∷ []);
            call_site_stack = x.call_site_stack;
            call_sites = x.call_sites;
            warnings = x.warnings ++ (f.warnings ++ l.warnings);
          })
          go [] l = absurd (omega arith)
          go (r ∷ rs) l = rw (file, line, lt-ltb (length x.inline_stack) 256 h)

-- ---- the steps

-- a refusal says nothing of what was laid
pub advance-refused : {G : Descendants → Outcome Descendants} {main supplementary name : List ℕ} {d : Details} {a : Later} {b : ℕ} {w t u : List ℕ} {s : Walk} {w' t' u' : List ℕ} {n : ℕ} {s' : Walk}
    → (n ≡ 0 → ⊥) → Kept w w' d.context.ranges (walked main supplementary d) → ((ns : List InlineNode) (ws : List Warning) → G (walk_of main supplementary d w s ns ws) ≡ refused n)
    → Advances G main supplementary name d a b w t u s w' t' u' n s'
advance-refused n K refuses = record {
  nodes = [];
  warnings = [];
  laid = λ z. absurd (n z);
  warned = λ z. absurd (n z);
  past = λ z. absurd (n z);
  count = λ z. absurd (n z);
  kept = K;
  fits = λ z. absurd (n z);
  ok = λ z. absurd (n z);
  no = λ _. refuses;
}

-- the frames as they were pushed, and the depth as it was read
pub noded-as : {G : Descendants → Outcome Descendants} {main supplementary name : List ℕ} {d : Details} {a : Later} {b : ℕ} {w t u : List ℕ} {s : Walk} {w' t' u' : List ℕ} {n depth depth' at warned : ℕ} {past : Bool} {frames : Open} (k : ℕ)
    → frames ≡ grown s.frames depth k → depth ≡ depth' → Advances G main supplementary name d a b w t u s w' t' u' n (noded s depth' k at warned past)
    → Advances G main supplementary name d a b w t u s w' t' u' n (record { frames = frames; sites = s.sites; nodes = s.nodes + 1; at = at; warned = warned; past = past })
noded-as k e f A = rw (e, f) A

module _ {main supplementary w u : List ℕ} {d : Details} {p : ℕ} {s : Walk} (lists addresses name inlined t : List ℕ) (k : ℕ) (D : DetailsIn main supplementary w d) (K : EntryKnown main d.context.unit p)
    (F : Fits main supplementary w d (ranges_later main p) (entries_left main p) s) (some-k : 0 < k) (O : OwnRanges main d p k)
    {u₁ : List ℕ} {nf : ℕ} {file : Warned FileIndex} (FC : FileCalled (indices_in w d.context.indices) main d.context.unit p s.warned u u₁ nf file) where
  some-ranges : 0 < length (ranges_at w (d.context.ranges + s.frames.used * 16) k)
  some-ranges = omega (arith, ranges-length w (d.context.ranges + s.frames.used * 16) k)

  pub keep_file : {s' : Walk} → (nf ≡ 0 → ⊥)
      → Advances (push_inline (context_in main supplementary lists addresses w d) (entry_here main p) inlined (ranges_at w (d.context.ranges + s.frames.used * 16) k)) main supplementary name d (ranges_later main (p + 15)) (entries_left main (p + 15)) w t u s w t u₁ nf
      s'
  keep_file n = advance-refused n (kept_refl w d.context.ranges (walked main supplementary d)) (λ ns ws. push_file (context_in main supplementary lists addresses w d) (entry_here main p) inlined _ _ some-ranges (FC.no n (context_in main supplementary lists addresses w d) refl refl))

  module _ (f : nf ≡ 0) {u₂ : List ℕ} {nl : ℕ} {line : Warned ℕ} (LC : LineCalled main d.context.unit p file.at u₁ u₂ nl line) where
    pub keep_line : {s' : Walk} → (nl ≡ 0 → ⊥)
        → Advances (push_inline (context_in main supplementary lists addresses w d) (entry_here main p) inlined (ranges_at w (d.context.ranges + s.frames.used * 16) k)) main supplementary name d (ranges_later main (p + 15)) (entries_left main (p + 15)) w t u s w t u₂ nl
        s'
    keep_line n = advance-refused n (kept_refl w d.context.ranges (walked main supplementary d))
        (λ ns ws. push_line (context_in main supplementary lists addresses w d) (entry_here main p) inlined _ _ some-ranges (FC.ok f (context_in main supplementary lists addresses w d) refl refl) (LC.no n (context_in main supplementary lists addresses w d) refl))

    module _ (l : nl ≡ 0) where
      stack-length : (ns : List InlineNode) (ws : List Warning) → length (walk_of main supplementary d w s ns ws).inline_stack ≡ s.frames.count
      unfolding walk_of
      stack-length ns ws = length-open w d.context.ranges s.frames

      pub keep_deep : {s' : Walk} → 256 ≤ s.frames.count
          → Advances (push_inline (context_in main supplementary lists addresses w d) (entry_here main p) inlined (ranges_at w (d.context.ranges + s.frames.used * 16) k)) main supplementary name d (ranges_later main (p + 15)) (entries_left main (p + 15)) w t u s w t u₂ 14
          s'
      keep_deep h = advance-refused (λ z. omega arith) (kept_refl w d.context.ranges (walked main supplementary d))
          (λ ns ws. push_deep (context_in main supplementary lists addresses w d) (entry_here main p) inlined _ _ some-ranges (FC.ok f (context_in main supplementary lists addresses w d) refl refl) (LC.ok l (context_in main supplementary lists addresses w d) refl) (omega (arith, stack-length ns ws)))

      module _ (h : s.frames.count < 256) {t₁ t₂ : List ℕ} {q₁ q₂ : ℕ} {b : Bool} (B : b ≡ is_past s.at (node_size s.nodes (length name) (length inlined) k)) (RT : Put s.at (lead_bytes name d.range s.nodes) t t₁ q₁)
          (ND : Put q₁ (node_bytes (record { depth = s.frames.count + 1; call_file = file.value; call_line = line.value; name = inlined; ranges = ranges_at w (d.context.ranges + s.frames.used * 16) k })) t₁ t₂ q₂) where
        node : InlineNode
        node = record { depth = s.frames.count + 1; call_file = file.value; call_line = line.value; name = inlined; ranges = ranges_at w (d.context.ranges + s.frames.used * 16) k }

        laid-node : Put s.at (new_bytes name d.range s.nodes (node ∷ [])) t t₂ q₂
        unfolding node each_of
        laid-node = rw (append-nil (node_bytes node)) (RT then ND)

        bytes-are : length (new_bytes name d.range s.nodes (node ∷ [])) ≡ node_size s.nodes (length name) (length inlined) k
        unfolding node
        bytes-are = size_is name d.range s.nodes node ∙ ap (node_size s.nodes (length name) (length inlined)) (ranges-length w (d.context.ranges + s.frames.used * 16) k)

        depth_is : (entry_here main p).depth ≡ le_at 2 main (p + 11)
        depth_is = entry_depth-here (details-accepted D) K

        P : Pushed s.frames (grown s.frames (le_at 2 main (p + 11)) k) (le_at 2 main (p + 11)) k
        P = pushed_is s.frames (le_at 2 main (p + 11)) k F.ready h

        pub keep_done : {o : Bool} → o ≡ (s.past || b) → Advances (push_inline (context_in main supplementary lists addresses w d) (entry_here main p) inlined (ranges_at w (d.context.ranges + s.frames.used * 16) k)) main supplementary name d (ranges_later main (p + 15)) (entries_left main (p + 15)) w t u s w t₂ u₂ 0
            (noded s (le_at 2 main (p + 11)) k q₂ line.at o)
        unfolding walk_of node
        keep_done passes = record {
          nodes = node ∷ [];
          warnings = FC.warnings ++ LC.warnings;
          laid = λ z. laid-node;
          warned = λ z. rw (warnings-append FC.warnings LC.warnings) (FC.laid f then LC.laid l);
          past = λ z. passes ∙ ap (λ (x : Bool). s.past || x) (B ∙ ap (is_past s.at) (sym bytes-are));
          count = λ z. omega arith;
          kept = kept_refl w d.context.ranges (walked main supplementary d);
          fits = λ z. record {
            ready = P.ready;
            used = omega (arith, P.used, own-used D K F k O);
            fields = omega (arith, P.used, own-fields D K F k O);
            floor = F.floor + length (range_fields main (p + 15));
            level = omega (arith, F.level, later-here D K);
            lean = P.lean F.floor (third d.context.lists) (length (range_fields main (p + 15))) (own-few main d p k O) F.lean;
            left = omega (arith, F.left, lists-here D K);
            sites = omega (arith, F.sites, left_here D K);
            nodes = omega (arith, F.nodes, left_here D K);
            bottom = F.bottom;
            place = omega (arith, ND.place);
            warned = omega (arith, (LC.laid l).place);
            stacked = F.stacked;
            closed = F.closed;
          };
          ok = λ z ns ws.
              push_done (context_in main supplementary lists addresses w d) (entry_here main p) inlined _ (walk_of main supplementary d w s ns ws) some-ranges (FC.ok f (context_in main supplementary lists addresses w d) refl refl) (LC.ok l (context_in main supplementary lists addresses w d) refl) (omega (arith, stack-length ns ws))
              ∙ ap done (λ i. record {
                inline_stack = (ap (λ (x : ℕ). record { die_depth = x; ranges = ranges_at w (d.context.ranges + s.frames.used * 16) k } ∷ open_in w d.context.ranges s.frames) depth_is ∙ sym (P.frames w d.context.ranges)) i;
                inlines = ns ++ (record { depth = (ap suc (length-open w d.context.ranges s.frames) ∙ sym (add-one s.frames.count)) i; call_file = file.value; call_line = line.value; name = inlined; ranges = ranges_at w (d.context.ranges + s.frames.used * 16) k } ∷ []);
                call_site_stack = site_frames_at (origin_name main supplementary d.context.unit) w d.context.stack s.sites.opened;
                call_sites = sites_at (origin_name main supplementary d.context.unit) w d.context.sites s.sites.closed;
                warnings = ws ++ (FC.warnings ++ LC.warnings);
              });
          no = λ z. absurd (z refl);
        }
