-- A name that is sound is found at its place.
use Rattle.std.proofs.Common.{◌≡◌, ℕ, zero, suc, ◌+◌, Bool, true, false, Some, List, [], ◌∷◌, take, cond, refl, sym, ap, ◌∙◌, arith, zero-add, is_some, slice_get}
use Rattle.decls.proofs.Common.{position_from, bytes_eq, true≢false, position_from-zero, bytes_eq-Decides, Entry, find, kind_of}
use Rattle.decls.proofs.SoundEntries.{AreSound, sound_at}
use Rattle.decls.proofs.Told.{is_name}

pub same_name : (name : List ℕ) → bytes_eq name name ≡ true
same_name name = (bytes_eq-Decides name name).1 refl

first_from : (name : List ℕ) (i k : ℕ) (es : List Entry) (e : Entry) → slice_get es k ≡ Some e → e.name ≡ name → is_some (kind_of (take k es) name) ≡ false
    → (position_from (is_name name) i es ≡ Some (i + k)) × (kind_of es name ≡ Some e.kind)
first_from name i k [] e is named new = absurd cc
first_from name i zero (x ∷ es) e is named new =
    let same : x ≡ e = cc in
    let here : bytes_eq name x.name ≡ true = ap (bytes_eq name) (ap (λ (y : Entry). y.name) same ∙ named) ∙ same_name name in
    let start : i ≡ i + 0 = omega arith in (
      ap (λ b. cond b (Some i) (position_from (is_name name) (i + 1) es)) here ∙ ap (λ (n : ℕ). Some n) start,
      ap (λ b. cond b (Some x.kind) (kind_of es name)) here ∙ ap (λ (y : Entry). Some y.kind) same,
    )
first_from name i (suc k) (x ∷ es) e is named new = by (bytes_eq name x.name) refl (λ free. first_from name (i + 1) k es e is named free)
  where
    step : (i + 1) + k ≡ i + suc k
    step = omega arith

    by : (b : Bool) → bytes_eq name x.name ≡ b
        → (is_some (kind_of (take k es) name) ≡ false → (position_from (is_name name) (i + 1) es ≡ Some ((i + 1) + k)) × (kind_of es name ≡ Some e.kind))
        → (cond b (Some i) (position_from (is_name name) (i + 1) es) ≡ Some (i + suc k)) × (cond b (Some x.kind) (kind_of es name) ≡ Some e.kind)
    by true h rest = absurd (true≢false (sym (ap (λ b. is_some (cond b (Some x.kind) (kind_of (take k es) name))) h) ∙ new))
    by false h rest =
        let found = rest (sym (ap (λ b. is_some (cond b (Some x.kind) (kind_of (take k es) name))) h) ∙ new) in
        (found.0 ∙ ap (λ (n : ℕ). Some n) step, found.1)

module _ (pins : ℕ) (es : List Entry) (sound : AreSound pins [] es) (k : ℕ) (e : Entry) (is : slice_get es k ≡ Some e) where
  first : (position_from (is_name e.name) 0 es ≡ Some (0 + k)) × (kind_of es e.name ≡ Some e.kind)
  first = first_from e.name 0 k es e is refl (sound_at pins [] es sound k e is).name

  pub found_at : find es e.name ≡ Some k
  found_at = position_from-zero (is_name e.name) es ∙ (first.0 ∙ ap (λ (n : ℕ). Some n) (zero-add k))

  pub kind_at : kind_of es e.name ≡ Some e.kind
  kind_at = first.1
