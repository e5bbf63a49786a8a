-- The closed call sites, laid behind the nodes: the name of each is found again.
use mathlib.Core.Path.{◌≡◌, refl, sym, ap, ◌∙◌}
use mathlib.Core.Logic.{inl}
use mathlib.Core.Bool.{Bool, ◌||◌}
use mathlib.Core.List.{List, ◌++◌}
use Prim.Native.Nat.{ℕ, ◌+◌, ◌*◌, ◌≤◌, ◌<◌}
use native.Mathlib.Omega.{arith}
use lib.Dec.{eqb}
use lib.ListN.{length, drop}
use Rattle.std.specs.Prelude.{Result, Ok, Err, IsOk}
use denote.Bor.{Bor}
use Rattle.tlv.specs.declared.refusal.Refusal.{Refusal}
use Rattle.tlv.specs.Refusals.{status_of}
use Rattle.tlv.proofs.AnswerLaws.{numbered}
use Rattle.tlv.specs.Outcome.{Outcome, done}
use Rattle.tlv.specs.Bytes.{le_at}
use Rattle.tlv.specs.Fields.{encode}
use Rattle.tlv.proofs.OutcomeLaws.{done-is, refused-not}
use Rattle.buffers.specs.Buffer.{Put}
use Rattle.buffers.specs.Output.{CallSite, site_payload, each_of}
use Rattle.buffers.specs.Table.{chunk, Kept}
use Rattle.buffers.proofs.BufferLaws.{Left, left-put, left-done}
use Rattle.buffers.proofs.ChunkLaws.{le_at-chunk, le_at-front}
use Rattle.buffers.proofs.TableLaws.{kept_trans, le_at-kept}
use Rattle.buffers.proofs.RecordLaws.{records-rest_cons, records-rest_none}
use Rattle.access.specs.Places.{entry_here, unit_here}
use Rattle.access.proofs.IndexModel.{either}
use Rattle.references.specs.Search.{attribute}
use Rattle.references.specs.Tables.{EntryKnown, bytes_given}
use Rattle.references.specs.Tables.{bytes_of}
use Rattle.references.specs.Names.{dwarf_of, reference_name, Resolved}
use Rattle.references.specs.Keys.{keys_extent}
use Rattle.dies.specs.declared.details.Details.{Details}
use Rattle.dies.specs.declared.walk.Walk.{Walk}
use Rattle.dies.specs.Past.{is_past}
use Rattle.dies.specs.Details.{DetailsIn}
use Rattle.dies.specs.DetailState.{none_later, origin_of, origin_name, site_of, sites_at, SiteKnown, Fits, SitesPut}
use Rattle.dies.proofs.PastLaws.{past_same, past-turn, site-length}
use Rattle.dies.proofs.WalkStateLaws.{details_kept, kept-keys}
use Rattle.dies.proofs.SiteStepLaws.{given-refused}

-- the bytes of call sites
abbrev sites_bytes : List CallSite → List ℕ
sites_bytes xs = each_of (λ x. encode 0x45 (site_payload x)) xs

bytes-done : (st : ℕ) (r x : List ℕ) → bytes_given st r ≡ done x → r ≡ x
unfolding bytes_given
bytes-done st r x e = either (eqb st 0) (λ y. done-is (rw y at e)) (λ n. refused-not (rw n at e))

-- a name that is there is found
pub site-found : (r : Result (Bor (List ℕ)) Refusal) {x : List ℕ} {o : Outcome (List ℕ)} → bytes_given (status_of r) (bytes_of r) ≡ o → o ≡ done x → IsOk r
site-found (Ok y) is at = refl
site-found (Err e) is at = refused-not (sym (given-refused _ _ is (numbered e)) ∙ at)

pub record Siting (main supplementary : List ℕ) (d : Details) (n at : ℕ) (w₀ t₀ w t : List ℕ) (place i : ℕ) (b : Bool) : Type 0 where
  pub within : i ≤ n
  pub details : DetailsIn main supplementary w d
  pub left : Left at (sites_bytes (sites_at (origin_name main supplementary d.context.unit) w₀ d.context.sites n)) t₀ place (sites_bytes (drop i (sites_at (origin_name main supplementary d.context.unit) w₀ d.context.sites n))) t
  pub over : is_past at (length (sites_bytes (sites_at (origin_name main supplementary d.context.unit) w₀ d.context.sites n)))
      ≡ (b || is_past place (length (sites_bytes (drop i (sites_at (origin_name main supplementary d.context.unit) w₀ d.context.sites n)))))
  pub kept : Kept w₀ w d.context.tables.keys (keys_extent main supplementary d.context.tables)
  pub size : length w ≡ length w₀

module _ {main supplementary : List ℕ} {d : Details} {at : ℕ} {w₀ t₀ w t : List ℕ} {place i : ℕ} {b : Bool} {s : Walk} (D : DetailsIn main supplementary w₀ d) (F : Fits main supplementary w₀ d none_later 0 s)
    (S : Siting main supplementary d s.sites.closed at w₀ t₀ w t place i b) where
  pub siting-done : s.sites.closed ≤ i → SitesPut main supplementary d s.sites.closed at w₀ w t₀ t (record { at = place; past = b })
  unfolding sites_at each_of
  siting-done h =
      let none = ap sites_bytes (records-rest_none (site_of (origin_name main supplementary d.context.unit)) 12 w₀ d.context.sites s.sites.closed i h) in
      record {
        put = left-done S.left none;
        past = sym (S.over ∙ ap (λ (l : List ℕ). b || is_past place (length l)) none ∙ sym (past_same b place S.left.fits));
        rest = kept-keys D S.kept;
      }

  module _ (h : i < s.sites.closed) {entry : ℕ} (ee : entry ≡ le_at 4 w (d.context.sites + i * 12)) where
    pub site-room : d.context.sites + i * 12 + 12 ≤ length w
    site-room = omega (arith, F.sites, D.sites, D.tables.keys.room, S.size)

    same_place : le_at 4 w₀ (d.context.sites + i * 12) ≡ entry
    same_place = sym (ee ∙ le_at-kept 4 (d.context.sites + i * 12) S.kept (inl (omega (arith, F.sites, D.sites))))

    site-known : SiteKnown main supplementary d.context.unit entry
    site-known = rw same_place at (F.closed i h)

    pub siting-entry : EntryKnown main d.context.unit entry
    siting-entry = site-known.entry

    module _ {offset : ℕ} (eo : offset ≡ le_at 8 w (d.context.sites + i * 12 + 4)) {w₁ : List ℕ} {st : ℕ} {name : List ℕ}
        (R : Resolved main supplementary d.context.tables w w₁ (reference_name (dwarf_of main supplementary) (unit_here main d.context.unit) (entry_here main entry) (attribute (entry_here main entry) 0x7f)) st name) where
      same-offset : le_at 8 w₀ (d.context.sites + i * 12 + 4) ≡ offset
      same-offset = sym (eo ∙ le_at-kept 8 (d.context.sites + i * 12 + 4) S.kept (inl (omega (arith, F.sites, D.sites))))

      named : reference_name (dwarf_of main supplementary) (unit_here main d.context.unit) (entry_here main entry) (attribute (entry_here main entry) 0x7f) ≡ done (origin_name main supplementary d.context.unit entry)
      unfolding origin_of
      named = site-known.name

      name-is : name ≡ origin_name main supplementary d.context.unit entry
      name-is = bytes-done st name (origin_name main supplementary d.context.unit entry) (R.is ∙ named)

      pub siting-found : reference_name (dwarf_of main supplementary) (unit_here main d.context.unit) (entry_here main entry) (attribute (entry_here main entry) 0x7f) ≡ done (origin_name main supplementary d.context.unit entry)
      siting-found = named

      pub siting-named : reference_name (dwarf_of main supplementary) (unit_here main d.context.unit) (entry_here main entry) (attribute (entry_here main entry) 0x7f) ≡ done name
      siting-named = named ∙ ap done (sym name-is)

      site-is : site_of (origin_name main supplementary d.context.unit) (chunk w₀ (d.context.sites + i * 12) 12) ≡ record { return_offset = offset; pattern = name }
      unfolding site_of
      site-is = λ k. record {
        return_offset = (le_at-chunk 8 w₀ (d.context.sites + i * 12) 12 4 (omega arith) ∙ same-offset) k;
        pattern = (ap (origin_name main supplementary d.context.unit) (le_at-front 4 w₀ (d.context.sites + i * 12) 12 (omega arith) ∙ same_place) ∙ sym name-is) k;
      }

      rest-is : sites_bytes (drop i (sites_at (origin_name main supplementary d.context.unit) w₀ d.context.sites s.sites.closed))
          ≡ encode 0x45 (site_payload (record { return_offset = offset; pattern = name })) ++ sites_bytes (drop (i + 1) (sites_at (origin_name main supplementary d.context.unit) w₀ d.context.sites s.sites.closed))
      unfolding sites_at each_of
      rest-is = ap sites_bytes (records-rest_cons (site_of (origin_name main supplementary d.context.unit)) 12 w₀ d.context.sites s.sites.closed i h)
          ∙ ap (λ (x : CallSite). encode 0x45 (site_payload x) ++ sites_bytes (drop (i + 1) (sites_at (origin_name main supplementary d.context.unit) w₀ d.context.sites s.sites.closed))) site-is

      pub siting-next : {t₁ : List ℕ} {q : ℕ} → Put place (encode 0x45 (site_payload (record { return_offset = offset; pattern = name }))) t t₁ q → length w₁ ≡ length w
          → {o : Bool} → o ≡ (b || is_past place (12 + length name)) → Siting main supplementary d s.sites.closed at w₀ t₀ w₁ t₁ q (i + 1) o
      siting-next {q = q} P z O = record {
        within = omega arith;
        details = details_kept S.details R.rest (omega (arith, D.ranges, D.stack, D.sites)) z;
        left = left-put _ _ S.left rest-is P;
        over = S.over ∙ ap (λ (l : List ℕ). b || is_past place (length l)) rest-is
            ∙ past-turn S.left.fits P b _ refl
            ∙ ap (λ (x : Bool). x || is_past q (length (sites_bytes (drop (i + 1) (sites_at (origin_name main supplementary d.context.unit) w₀ d.context.sites s.sites.closed)))))
            (ap (λ (n : ℕ). b || is_past place n) (site-length (record { return_offset = offset; pattern = name })) ∙ sym O);
        kept = kept_trans S.kept R.rest;
        size = z ∙ S.size;
      }
