-- A text has one fate: it is compiled, or refused, or it does not fit; and what fits as it is written is neither.
use Rattle.std.proofs.Common.{◌≡◌, ℕ, Some, None, List, sym, ap, ◌∙◌, subst, inl, inr}
use Rattle.abel_compile.proofs.Common.{Model, Table, ModuleTree, model_named, name_order, name_refusals, read_or_not, one_module, Compiled, SourceFault, Expand, Scan, Parse, Names, Sections, Design, Width, FitsAsWritten, IsOfFit, IsUnfitFor, table_at, IsAcceptedFor, IsReadFor, IsSourceRefused, IsPlacedFor, IsUnplacedFor, no_first, not_source, not_fit, one_placed, placed_not_unplaced, unplaced_names}
use Rattle.fitter.specs.declared.fault.FitFault.{FitFault}
use Rattle.module_reader.specs.declared.fault.ReadFault.TheVariants as reading
use Rattle.placer.specs.declared.fault.PlaceFault.{PlaceFault}
use Rattle.abel_compile.specs.Correct.{IsCompiled}
use Rattle.devices.specs.Models.{model_sound}
use Rattle.abel_compile.proofs.NeverRefused.{spelled}

same_device : (a b : Model) → Some a ≡ Some b → a ≡ b
same_device a b e = cc

-- what holds of a placed module, and what of another, hold of one
module _ {P Q : Table → ModuleTree → Type 0} (t : Table) (m : ModuleTree) (p : IsPlacedFor P t m) (q : IsPlacedFor Q t m) where
  on_one : Q t p.placed
  on_one = subst (λ (x : ModuleTree). Q t x) (one_placed t m q.placed p.placed q.is.pinned p.is.pinned) q.so

module _ (text : List ℕ) where
  module _ {P Q : Table → ModuleTree → Type 0} (p : IsReadFor text P) (q : IsReadFor text Q) where
    same_source : q.source ≡ p.source
    same_source = one_module text q.source p.source (spelled text q.source q.read) (spelled text p.source p.read)

    -- both are said of one module and one device
    brought : Q (table_at p.device) p.source
    brought =
        let here : q.device ≡ p.device = same_device q.device p.device (sym q.named ∙ ap model_named same_source ∙ p.named) in
        subst (λ (d : Model). Q (table_at d) p.source) here (subst (λ (x : ModuleTree). Q (table_at q.device) x) same_source q.so)

  -- what is accepted isn't refused
  pub accepted_not_refused : (f : SourceFault) (line : List ℕ) → IsReadFor text (IsPlacedFor IsAcceptedFor) → IsSourceRefused text f line → ⊥
  accepted_not_refused (Expand f) line p h = read_or_not text p.source (reading.Expand f) (λ e. cc) p.read h.0
  accepted_not_refused (Scan f) line p h = read_or_not text p.source (reading.Scan f) (λ e. cc) p.read h.0
  accepted_not_refused (Parse f) line p h = read_or_not text p.source (reading.Parse f) (λ e. cc) p.read h.0
  accepted_not_refused (Names f) line p (inl (h, told)) =
      let same : h.source ≡ p.source = one_module text h.source p.source (spelled text h.source h.read) (spelled text p.source p.read) in
      let gone : None ≡ Some p.device = sym h.unnamed ∙ ap model_named same ∙ p.named in
      absurd (cc)
  accepted_not_refused (Names f) line p (inr h) = no_first name_order (name_refusals (table_at p.device) p.source) f p.so.is.names (brought p h).0
  accepted_not_refused (Sections f) line p h = not_source (table_at p.device) p.so.placed (model_sound p.device) p.so.so (Sections f) line (on_one (table_at p.device) p.source p.so (brought p h))
  accepted_not_refused (Design f) line p h = not_source (table_at p.device) p.so.placed (model_sound p.device) p.so.so (Design f) line (on_one (table_at p.device) p.source p.so (brought p h))
  accepted_not_refused (Width f) line p h = not_source (table_at p.device) p.so.placed (model_sound p.device) p.so.so (Width f) line (on_one (table_at p.device) p.source p.so (brought p h))

  pub compiled_not_refused : (c : Compiled) (f : SourceFault) (line : List ℕ) → IsCompiled text c → IsSourceRefused text f line → ⊥
  compiled_not_refused c f line is =
      accepted_not_refused f line (record { source = is.right.source; read = is.read; device = c.device; named = is.right.named; so = record { placed = is.right.placed; is = record { names = is.names; pinned = is.right.is_placed }; so = is.accepted } })

  pub unfit_not_refused : (u : FitFault) (told : List ℕ) (f : SourceFault) (line : List ℕ) → IsReadFor text (IsPlacedFor (IsUnfitFor u told)) → IsSourceRefused text f line → ⊥
  unfit_not_refused u told f line is =
      accepted_not_refused f line (record { source = is.source; read = is.read; device = is.device; named = is.named; so = record { placed = is.so.placed; is = is.so.is; so = is.so.so.accepted } })

  pub fits_not_refused : (f : SourceFault) (line : List ℕ) → IsReadFor text (IsPlacedFor (λ t m. IsAcceptedFor t m × FitsAsWritten t m)) → IsSourceRefused text f line → ⊥
  fits_not_refused f line is =
      accepted_not_refused f line (record { source = is.source; read = is.read; device = is.device; named = is.named; so = record { placed = is.so.placed; is = is.so.is; so = is.so.so.0 } })

  pub fits_not_unfit : (u : FitFault) (told : List ℕ) → IsReadFor text (IsPlacedFor (λ t m. IsAcceptedFor t m × FitsAsWritten t m)) → IsOfFit u → IsReadFor text (IsPlacedFor (IsUnfitFor u told)) → ⊥
  fits_not_unfit u told p of_fit q =
      not_fit (table_at p.device) p.so.placed (model_sound p.device) p.so.so.0 p.so.so.1 u told of_fit (on_one (table_at p.device) p.source p.so (brought p q))

  -- ---- what can't be placed

  -- the names of a placed module are not refused, so that it isn't refused for its text, its device or its names
  pub unplaced_not_refused : (u : PlaceFault) (told : List ℕ) (f : SourceFault) (line : List ℕ) → IsReadFor text (IsUnplacedFor u told) → IsSourceRefused text f line → ⊥
  unplaced_not_refused u told (Expand f) line p h = read_or_not text p.source (reading.Expand f) (λ e. cc) p.read h.0
  unplaced_not_refused u told (Scan f) line p h = read_or_not text p.source (reading.Scan f) (λ e. cc) p.read h.0
  unplaced_not_refused u told (Parse f) line p h = read_or_not text p.source (reading.Parse f) (λ e. cc) p.read h.0
  unplaced_not_refused u told (Names f) line p (inl (h, also)) =
      let same : h.source ≡ p.source = one_module text h.source p.source (spelled text h.source h.read) (spelled text p.source p.read) in
      let gone : None ≡ Some p.device = sym h.unnamed ∙ ap model_named same ∙ p.named in
      absurd (cc)
  unplaced_not_refused u told (Names f) line p (inr h) = no_first name_order (name_refusals (table_at p.device) p.source) f (unplaced_names (table_at p.device) p.source u told p.so) (brought p h).0
  unplaced_not_refused u told (Sections f) line p h = placed_not_unplaced (table_at p.device) p.source (brought p h).placed u told (brought p h).is p.so
  unplaced_not_refused u told (Design f) line p h = placed_not_unplaced (table_at p.device) p.source (brought p h).placed u told (brought p h).is p.so
  unplaced_not_refused u told (Width f) line p h = placed_not_unplaced (table_at p.device) p.source (brought p h).placed u told (brought p h).is p.so

  pub fits_not_unplaced : (u : PlaceFault) (told : List ℕ) → IsReadFor text (IsPlacedFor (λ t m. IsAcceptedFor t m × FitsAsWritten t m)) → IsReadFor text (IsUnplacedFor u told) → ⊥
  fits_not_unplaced u told p q = placed_not_unplaced (table_at p.device) p.source p.so.placed u told p.so.is (brought p q)
