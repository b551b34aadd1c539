-- Declared names by their numbers, as the definitions see them.
use Rattle.std.proofs.Common.{◌≡◌, ℕ, suc, ◌+◌, ◌<◌, ◌≤◌, Bool, true, false, List, [], ◌∷◌, if◌then◌else◌, drop, length, map, get_or, refl, sym, ap, ◌∙◌, add-one, bytes_eq}
use Rattle.placer.proofs.Common.{drop-cons, drop_all, get_or-map, Declared, Entry, view_declared, no_name, dc_of}

module _ (ds : List Declared) (k : ℕ) (d : Declared) (low : k < length ds) (at : d ≡ get_or ds k d) where
  pub seen_at : get_or (map view_declared ds) k no_name ≡ view_declared d
  seen_at = get_or-map view_declared ds k d no_name low ∙ ap view_declared (sym at)

  -- ---- whether a name has `dc`

  first_dc : (name : List ℕ) → dc_of (map view_declared (drop k ds)) name ≡ (if bytes_eq name d.name then (view_declared d).words.dc else dc_of (map view_declared (drop (k + 1) ds)) name)
  first_dc name =
      ap (λ l. dc_of (map view_declared l) name) (drop-cons ds k d low)
      ∙ (ap (λ (x : Declared). if bytes_eq name x.name then (view_declared x).words.dc else dc_of (map view_declared (drop (suc k) ds)) name) (sym at)
      ∙ ap (λ n. if bytes_eq name d.name then (view_declared d).words.dc else dc_of (map view_declared (drop n ds)) name) (sym (add-one k)))

  pub dc_here : (name : List ℕ) → bytes_eq name d.name ≡ true → dc_of (map view_declared (drop k ds)) name ≡ (view_declared d).words.dc
  dc_here name is = first_dc name ∙ ap (λ b. if b then (view_declared d).words.dc else dc_of (map view_declared (drop (k + 1) ds)) name) is

  pub dc_later : (name : List ℕ) → bytes_eq name d.name ≡ false → dc_of (map view_declared (drop k ds)) name ≡ dc_of (map view_declared (drop (k + 1) ds)) name
  dc_later name other = first_dc name ∙ ap (λ b. if b then (view_declared d).words.dc else dc_of (map view_declared (drop (k + 1) ds)) name) other

pub dc_none : (ds : List Declared) (k : ℕ) (name : List ℕ) → length ds ≤ k → dc_of (map view_declared (drop k ds)) name ≡ false
dc_none ds k name past = ap (λ l. dc_of (map view_declared l) name) (drop_all k ds past)
