-- A control of a cell that is there has a first target among the contributions.
use Rattle.std.proofs.Common.{◌≡◌, ℕ, suc, ◌&&◌, List, [], ◌∷◌, filter, map, Option, Some, None, refl, sym, subst, inl, inr}
use Rattle.decompiler.proofs.Common.{AllByRecursion, option_map, cases_Bool, Place, Enable, Row, PinLow, Driven, Released, cell_at, Formula, Extension, Entry, is_stored, control_by, control_if_stored, control_of, is_control, is_the_control, Design, formulas, Wanted, given_formulas, Contribution, Contributions, given, view_contribution, first_target, target_place, and_cell, by_row, cell_of, cells_from, wanted_for}
use Rattle.abel_tree.specs.declared.words.Extension.TheVariants as extension
use Rattle.abel_meaning.specs.Contributions as meant
use Rattle.gathering.specs.Parts.{is_to}

-- there is a first target, at some place
abbrev pub IsTargeted : List Contribution → ℕ → Extension → Type 0
IsTargeted cs s e = (p : Place) × (target_place (first_target s e cs) ≡ Some p)

-- so it is for each control of the cell that is there
pub record AreTargeted (cs : List Contribution) (w : Wanted) : Type 0 where
  pub enable : (f : Formula) → w.enable ≡ Some f → IsTargeted cs w.name extension.Oe
  pub reset : (f : Formula) → w.reset ≡ Some f → IsTargeted cs w.name extension.Ar
  pub preset : (f : Formula) → w.preset ≡ Some f → IsTargeted cs w.name extension.Sp

none_some : {X : Type 0} {x : X} → None ≡ Some x → ⊥
none_some e = cc

module _ (d : Design) where
  first_there : (fs : List Formula) (s : ℕ) (e : Extension) (f : Formula) (cs : List Contribution)
      → control_by (formulas d.context) (filter (is_control s e) (map (view_contribution fs) cs)) ≡ Some f → IsTargeted cs s e
  first_there fs s e f [] is = absurd (none_some is)
  first_there fs s e f (c ∷ cs) is = elim (cases_Bool (is_to s c && is_the_control e c.target.extension)) [
    | inl hit ↦ (c.place, rw hit refl)
    | inr miss ↦ let rest = first_there fs s e f cs (rw miss at is) in (rest.0, rw miss rest.1)
  ]

  module _ (found : Contributions) (gives : given found ≡ given_formulas d) where
    abbrev cs : List (meant.Contribution Formula)
    cs = given_formulas d

    control_there : (s : ℕ) (e : Extension) (f : Formula) → control_of (formulas d.context) cs s e ≡ Some f → IsTargeted found.list s e
    control_there s e f is =
        first_there _ s e f found.list (subst (λ (gs : List (meant.Contribution Formula)). control_of (formulas d.context) gs s e ≡ Some f) (sym gives) is)

    row_there : (x : Enable) (o : Option Formula) (f : Formula) → by_row x o ≡ Some f → o ≡ Some f
    row_there (Row row) o f is = is
    row_there (PinLow pin) o f is = absurd (none_some is)
    row_there Driven o f is = absurd (none_some is)
    row_there Released o f is = absurd (none_some is)

    stored_there : (e : Extension) (s : ℕ) (x : Entry) (f : Formula) → control_if_stored (formulas d.context) cs e s x ≡ Some f → control_of (formulas d.context) cs s e ≡ Some f
    stored_there e s x f is = elim (cases_Bool (is_stored x)) [
      | inl stored ↦ rw stored at is
      | inr plain ↦ absurd (none_some (rw plain at is))
    ]

    wanted_targeted : (c s : ℕ) (x : Entry) → AreTargeted found.list (wanted_for d.context cs c s x)
    wanted_targeted c s x =
        record {
          enable = λ f is. control_there s extension.Oe f (row_there (cell_at d.context.device c).enable (control_of (formulas d.context) cs s extension.Oe) f is);
          reset = λ f is. control_there s extension.Ar f (stored_there extension.Ar s x f is);
          preset = λ f is. control_there s extension.Sp f (stored_there extension.Sp s x f is);
        }

    pub cells_targeted : (s : ℕ) (xs : List Entry) → AllByRecursion (AreTargeted found.list) (cells_from d.context cs s xs)
    cells_targeted s [] = tt
    cells_targeted s (x ∷ xs) = by_cell (cell_of d.context.device x) (cells_targeted (suc s) xs)
      where
        by_cell : (o : Option ℕ) → AllByRecursion (AreTargeted found.list) (cells_from d.context cs (suc s) xs)
            → AllByRecursion (AreTargeted found.list) (and_cell (option_map (λ c. wanted_for d.context cs c s x) o) (cells_from d.context cs (suc s) xs))
        by_cell None rest = rest
        by_cell (Some c) rest = (wanted_targeted c s x, rest)
