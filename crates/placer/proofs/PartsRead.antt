-- What the parts of sections read, and whose enable they assign, is what the sections do.
use Rattle.std.proofs.Common.{◌≡◌, ℕ, ◌==◌, Bool, true, false, ◌||◌, Option, None, Some, List, [], ◌∷◌, ◌++◌, if◌then◌else◌, map, refl, sym, ap, ap₂, ◌∙◌}
use Rattle.placer.proofs.Common.{list_any, flat_map, flat_map-append, list_any-append, Part, ATarget, AValue, Named, signals_of, target_extension, without_extension, Tree, SectionTree, Declarations, Equations, ATable, ADiagram, SomeVectors, DontCareSection, PartTree, Registers, part, parts_in_section, signals_in, enabled_in, parts_of, read_in, enables, is_enable, read_parts, reads, with_parts}
use Rattle.name_uses.proofs.HoldingParts.{Follows, in_list, in_rows, in_states}
use Rattle.placer.proofs.UsedSignals.{names_signals}

-- parts give what those give that may hold a register, and the registers of a diagram what they read
module _ (f : PartTree → List ℕ) (g : Part → List ℕ) (a : Follows f g) (of_registers : (t : Tree) → f (part Registers t) ≡ g (AValue t)) where
  in_section : (x : SectionTree) → flat_map f (parts_in_section x) ≡ flat_map g (read_parts x)
  in_section (Declarations ds) = refl
  in_section (Equations ss) = in_list f g a ss
  in_section (ATable place inputs clocked outputs rows) = ap₂ (λ x y. x ++ y) (a.read inputs) (ap₂ (λ x y. x ++ y) (a.outputs clocked outputs) (in_rows f g a rows))
  in_section (ADiagram place registers states) = ap₂ (λ x y. x ++ y) (of_registers registers) (in_states f g a states)
  in_section (SomeVectors text place inputs outputs rows) = ap₂ (λ x y. x ++ y) (a.entry inputs) (ap₂ (λ x y. x ++ y) (a.entry outputs) (in_rows f g a rows))
  in_section (DontCareSection directive) = refl

  pub in_sections : (xs : List SectionTree) → flat_map f (flat_map parts_of (map with_parts xs)) ≡ flat_map g (flat_map read_parts xs)
  in_sections [] = refl
  in_sections (x ∷ xs) =
      flat_map-append f (parts_in_section x) (flat_map parts_of (map with_parts xs))
      ∙ (ap₂ (λ us vs. us ++ vs) (in_section x) (in_sections xs) ∙ sym (flat_map-append g (read_parts x) (flat_map read_parts xs)))

-- a test of parts, by what they give
module _ {A : Type 0} (p : ℕ → Bool) (test : A → Bool) (g : A → List ℕ) (same : (u : A) → list_any p (g u) ≡ test u) where
  pub any_given : (us : List A) → list_any p (flat_map g us) ≡ list_any test us
  any_given [] = refl
  any_given (u ∷ us) = list_any-append p (g u) (flat_map g us) ∙ ap₂ (λ x y. x || y) (same u) (any_given us)

module _ (ks : List Named) (s : ℕ) where
  abbrev is_it : ℕ → Bool
  is_it n = n == s

  -- ---- what is read

  abbrev read_signals : Part → List ℕ
  read_signals (AValue t) = signals_in ks t
  read_signals (ATarget t) = []

  read_agrees : Follows (read_in ks) read_signals
  read_agrees = record {
    target = λ sign t. refl;
    value = λ target t. names_signals ks None t;
    read = λ t. names_signals ks None t;
    outputs = λ clocked t. refl;
    entry = λ t. refl;
  }

  read_same : (u : Part) → list_any is_it (read_signals u) ≡ reads ks s u
  read_same (AValue t) = refl
  read_same (ATarget t) = refl

  pub sections_read : (xs : List SectionTree) → list_any (λ n. n == s) (flat_map (read_in ks) (flat_map parts_of (map with_parts xs))) ≡ list_any (reads ks s) (flat_map read_parts xs)
  sections_read xs = ap (list_any is_it) (in_sections (read_in ks) read_signals read_agrees (λ t. names_signals ks None t) xs) ∙ any_given is_it (reads ks s) read_signals read_same (flat_map read_parts xs)

  -- ---- whose enable is assigned

  abbrev enable_signals : Part → List ℕ
  enable_signals (AValue t) = []
  enable_signals (ATarget t) = if is_enable (target_extension t) then signals_of ks (without_extension t) else []

  enable_agrees : Follows (enabled_in ks) enable_signals
  enable_agrees = record {
    target = λ sign t. refl;
    value = λ target t. refl;
    read = λ t. refl;
    outputs = λ clocked t. refl;
    entry = λ t. refl;
  }

  enable_same : (u : Part) → list_any is_it (enable_signals u) ≡ enables ks s u
  enable_same (AValue t) = refl
  enable_same (ATarget t) = by (is_enable (target_extension t)) refl
    where
      by : (b : Bool) → is_enable (target_extension t) ≡ b → list_any is_it (enable_signals (ATarget t)) ≡ enables ks s (ATarget t)
      by true here = rw here refl
      by false here = rw here refl

  pub sections_enable : (xs : List SectionTree) → list_any (λ n. n == s) (flat_map (enabled_in ks) (flat_map parts_of (map with_parts xs))) ≡ list_any (enables ks s) (flat_map read_parts xs)
  sections_enable xs = ap (list_any is_it) (in_sections (enabled_in ks) enable_signals enable_agrees (λ t. refl) xs) ∙ any_given is_it (enables ks s) enable_signals enable_same (flat_map read_parts xs)
