-- Nothing is refused of what the lines of a decompiled source assign: each cell may be what its signal is, and has the
-- controls that are assigned.
use Rattle.std.proofs.Common.{◌≡◌, ℕ, suc, ◌<◌, inl, inr, Bool, true, false, not, is_none, if◌then◌else◌, Option, Some, None, List, [], ◌∷◌, ◌++◌, length, get_or, refl, sym, ap, subst, ◌∙◌, arith, eqb-true, ◌==◌, ◌||◌}
use Rattle.decompiler.proofs.Common.{AllByRecursion, list_any, and_right, cases_Bool, or_from, Enable, Kinds, Combinational, Registered, Either, IsDevice, says, stores, stores_by, Table, cell_at, no_cell, registered_at, own_pins, formula_at, Formula, Extension, Kind, APin, ANode, AConstant, ADeviceName, Entry, is_stored, ModuleTree, cell_on, is_data, Design, design_of, no_name, cell_by, cell_of, Contribution, view_gives, cell_enables_so, enables_so, is_compared_of, says_always, says_so, is_by_pin, is_cell_by_pin, Rule, refuses, targets_refused, has_wrong_kind, has_wrong_kind_by, has_wrong_kind_on, is_any, is_wrong_cell, is_wrong_kind, lacks_by, lacks_control, node_refused, pin_lacks, registered_nodes, told_if, RefusedUse, SumLine, IsSourceTree, source_of, leaf_of, signal_of, cell_name, name, IsDeclared, cell_here}
use Rattle.abel_tree.specs.declared.words.Extension.TheVariants as extension
use Rattle.abel_meaning.specs.Contributions as meant
use Rattle.set_expr.specs.declared.contributions.Gives.{Gives}
use Rattle.set_expr.specs.declared.contributions.Gives.TheVariants as gives
use Rattle.design_checks.specs.declared.rules.Rule.TheVariants as rule
use Rattle.decompiler.proofs.LineManners.{IsGoodLine}
use Rattle.decompiler.proofs.OwnLines.{IsForm, LineForm, DataForm, EnableForm, ResetForm, PresetForm}
use Rattle.decompiler.proofs.PlainNames.{ArePlain, IsPlain, IsPlainKind}
use Rattle.decompiler.proofs.LineTargets.{IsOfLine}

-- ---- lists

pub none_at : {A : Type 0} (test : A → Bool) (xs : List A) (d : A) → ((i : ℕ) → i < length xs → test (get_or xs i d) ≡ false) → list_any test xs ≡ false
none_at test [] d none = refl
none_at test (x ∷ xs) d none = or_from (test x) (list_any test xs) (none 0 (omega arith)) (none_at test xs d (λ i within. none (suc i) (omega (arith, within))))

-- ---- nodes

plain_node : (s : ℕ) (x : Entry) → IsPlain x → node_refused s x ≡ []
plain_node s x plain = by_kind x.kind refl plain
  where
    by_kind : (k : Kind) → x.kind ≡ k → IsPlainKind k → node_refused s x ≡ []
    by_kind (APin pin negated) e plain = rw e refl
    by_kind ADeviceName e plain = rw e refl
    by_kind (ANode number) e plain = absurd plain
    by_kind (AConstant value) e plain = absurd plain

pub no_nodes : (s : ℕ) (xs : List Entry) → ArePlain xs → registered_nodes s xs ≡ []
no_nodes s [] plain = refl
no_nodes s (x ∷ xs) plain = ap (λ (rs : List RefusedUse). rs ++ registered_nodes (suc s) xs) (plain_node s x plain.0) ∙ no_nodes (suc s) xs plain.1

-- ---- a line's signal

module _ (t : Table) (fuses : List Bool) (laws : IsDevice t) (m : ModuleTree) (is : IsSourceTree (source_of t fuses) m) where
  abbrev d : Design
  d = design_of t m

  abbrev pub IsGood : SumLine → Type 0
  IsGood l = IsGoodLine t fuses laws m is l

  -- the name of a line's pin, with its cell
  pub record IsLineName (l : SumLine) (cell : ℕ) (x : Entry) : Type 0 where
    pub kind : x.kind ≡ APin l.pin false
    pub stored : is_stored x ≡ stores t fuses cell
    pub on : cell_of t x ≡ Some cell

  pub line_name : (l : SumLine) (good : IsGood l) → IsLineName l good.0.cell (name t fuses laws m is l.pin)
  line_name l good =
      let own = good.0 in
      let dec : IsDeclared t fuses laws (cell_at t own.cell).pin = subst (IsDeclared t fuses laws) own.pin good.1.pin in
      let c = cell_name t fuses laws m is own.cell own.within dec in
      let same : name t fuses laws m is (cell_at t own.cell).pin ≡ name t fuses laws m is l.pin = ap (name t fuses laws m is) (sym own.pin) in
      let kind : (name t fuses laws m is l.pin).kind ≡ APin l.pin false = ap (λ (y : Entry). y.kind) (sym same) ∙ c.kind ∙ ap (λ (pin : ℕ). APin pin false) (sym own.pin) in
      record {
        kind = kind;
        stored = ap is_stored (sym same) ∙ c.stored;
        on = ap (cell_by t (name t fuses laws m is l.pin)) kind
            ∙ ap (λ (b : Bool). if b then cell_on t l.pin else None) (ap (λ (y : Entry). y.assigned) (sym same) ∙ c.assigned ∙ own.has)
            ∙ ap (cell_on t) own.pin
            ∙ cell_here t laws own.cell own.within;
      }

  -- ---- kinds

  kind_fits : (k : Kinds) (chosen : Bool) → is_wrong_kind k (stores_by k chosen) ≡ false
  kind_fits Combinational chosen = refl
  kind_fits Registered chosen = refl
  kind_fits Either chosen = refl

  module _ (l : SumLine) (good : IsGood l) where
    abbrev c : ℕ
    c = good.0.cell

    abbrev x : Entry
    x = name t fuses laws m is l.pin

    abbrev of : IsLineName l c x
    of = line_name l good

    no_wrong_cell : (i : ℕ) → i < length t.cells → is_wrong_cell l.pin (stores t fuses c) (cell_at t i) ≡ false
    no_wrong_cell i within = elim (cases_Bool ((cell_at t i).pin == l.pin)) [
      | inl here ↦
          let same : i ≡ c = (own_pins t laws).apart i c within good.0.within (eqb-true (cell_at t i).pin l.pin here ∙ good.0.pin) in
          and_right ((cell_at t i).pin == l.pin) (is_wrong_kind (cell_at t i).kinds (stores t fuses c))
          (ap (λ (j : ℕ). is_wrong_kind (cell_at t i).kinds (stores t fuses j)) (sym same) ∙ kind_fits (cell_at t i).kinds (says fuses (registered_at t i)))
      | inr other ↦ rw other refl
    ]

    kind_right : has_wrong_kind t x ≡ false
    kind_right =
        ap (has_wrong_kind_by t (is_stored x)) of.kind
        ∙ ap (has_wrong_kind_on t l.pin) of.stored
        ∙ none_at (is_wrong_cell l.pin (stores t fuses c)) t.cells no_cell no_wrong_cell

    -- ---- controls

    lacks_none : (form : LineForm) → IsForm t fuses form c l → pin_lacks t (stores t fuses c) l.extension ≡ false
    lacks_none DataForm is_line = ap (λ (k : SumLine). pin_lacks t (stores t fuses c) k.extension) is_line ∙ by_kind (stores t fuses c)
      where
        by_kind : (b : Bool) → pin_lacks t b (if b then Some extension.D else None) ≡ false
        by_kind true = refl
        by_kind false = refl
    lacks_none EnableForm is_line = ap (λ (k : SumLine). pin_lacks t (stores t fuses c) k.extension) is_line.2
    lacks_none ResetForm is_line =
        ap (λ (k : SumLine). pin_lacks t (stores t fuses c) k.extension) is_line.3
        ∙ ap (λ (b : Bool). not b || is_none t.reset) is_line.2 ∙ ap is_none is_line.1
    lacks_none PresetForm is_line =
        ap (λ (k : SumLine). pin_lacks t (stores t fuses c) k.extension) is_line.3
        ∙ ap (λ (b : Bool). not b || is_none t.preset) is_line.2 ∙ ap is_none is_line.1

    control_there : lacks_control t x l.extension ≡ false
    control_there =
        ap (λ (k : Kind). lacks_by t (is_stored x) k l.extension) of.kind
        ∙ ap (λ (b : Bool). pin_lacks t b l.extension) of.stored ∙ lacks_none good.0.form good.0.is

    -- none is compared with what the device does anyway
    row_compared : (form : LineForm) → IsForm t fuses form c l → is_compared_of t l.extension x ≡ false
    row_compared DataForm is_line = ap (λ (k : SumLine). is_compared_of t k.extension x) is_line ∙ by_kind (stores t fuses c)
      where
        by_kind : (b : Bool) → is_compared_of t (if b then Some extension.D else None) x ≡ false
        by_kind true = refl
        by_kind false = refl
    row_compared EnableForm is_line =
        ap (λ (k : SumLine). is_compared_of t k.extension x) is_line.2
        ∙ ap (is_cell_by_pin t) of.on ∙ ap is_by_pin is_line.1
    row_compared ResetForm is_line = ap (λ (k : SumLine). is_compared_of t k.extension x) is_line.3
    row_compared PresetForm is_line = ap (λ (k : SumLine). is_compared_of t k.extension x) is_line.3

    pub not_compared : is_compared_of t l.extension x ≡ false
    not_compared = row_compared good.0.form good.0.is

    row_says : (form : LineForm) → IsForm t fuses form c l → (f : Formula) → says_so t x l.extension l.negated f ≡ true
    row_says DataForm is_line f = ap (λ (e : Option Extension). says_so t x e l.negated f) (ap (λ (k : SumLine). k.extension) is_line) ∙ by_kind (stores t fuses c)
      where
        by_kind : (b : Bool) → says_so t x (if b then Some extension.D else None) l.negated f ≡ true
        by_kind true = refl
        by_kind false = refl
    row_says EnableForm is_line f =
        ap (λ (e : Option Extension). says_so t x e l.negated f) (ap (λ (k : SumLine). k.extension) is_line.2)
        ∙ ap (λ (o : Option ℕ). cell_enables_so t o l.negated f) of.on
        ∙ ap (λ (e : Enable). enables_so e l.negated f) is_line.1
    row_says ResetForm is_line f = ap (λ (e : Option Extension). says_so t x e l.negated f) (ap (λ (k : SumLine). k.extension) is_line.3)
    row_says PresetForm is_line f = ap (λ (e : Option Extension). says_so t x e l.negated f) (ap (λ (k : SumLine). k.extension) is_line.3)

  -- ---- contributions

  module _ (fs : List Formula) where
    abbrev pub IsOf : Contribution → Type 0
    IsOf c = IsOfLine (signal_of t fuses) (leaf_of t) IsGood fs c

    abbrev entry_of : Contribution → Entry
    entry_of c = get_or d.context.names c.target.signal no_name

    entry_is : (c : Contribution) (o : IsOf c) → entry_of c ≡ name t fuses laws m is o.line.pin
    entry_is c o = ap (λ (g : meant.Contribution Formula). get_or d.context.names g.signal no_name) o.is

    extension_is : (c : Contribution) (o : IsOf c) → c.target.extension ≡ o.line.extension
    extension_is c o = ap (λ (g : meant.Contribution Formula). g.extension) o.is

    gives_one : (g : Gives) → view_gives g ≡ meant.One → is_any g ≡ false
    gives_one gives.One e = refl
    gives_one gives.Any e = absurd cc
    gives_one gives.Match e = absurd cc

    says_as : (c : Contribution) → (o : IsOf c) → says_always t (entry_of c) c.target.extension c.block c.complement (formula_at fs c.when) ≡ true
    says_as c o =
        ap (λ (b : Option ℕ). says_always t (entry_of c) c.target.extension b c.complement (formula_at fs c.when)) (ap (λ (g : meant.Contribution Formula). g.block) o.is)
        ∙ ap (λ (y : Entry). says_so t y c.target.extension c.complement (formula_at fs c.when)) (entry_is c o)
        ∙ ap (λ (e : Option Extension). says_so t (name t fuses laws m is o.line.pin) e c.complement (formula_at fs c.when)) (extension_is c o)
        ∙ ap (λ (b : Bool). says_so t (name t fuses laws m is o.line.pin) o.line.extension b (formula_at fs c.when)) (ap (λ (g : meant.Contribution Formula). g.complement) o.is)
        ∙ row_says o.line o.good o.good.0.form o.good.0.is (formula_at fs c.when)

    rule_passes : (r : Rule) (c : Contribution) → IsOf c → refuses t fs r (entry_of c) c ≡ false
    rule_passes rule.Kinds c o =
        and_right (is_data c.target.extension) (has_wrong_kind t (entry_of c)) (ap (has_wrong_kind t) (entry_is c o) ∙ kind_right o.line o.good)
    rule_passes rule.Controls c o =
        ap (λ (y : Entry). lacks_control t y c.target.extension) (entry_is c o)
        ∙ ap (lacks_control t (name t fuses laws m is o.line.pin)) (extension_is c o) ∙ control_there o.line o.good
    rule_passes rule.Levels c o = ap not (says_as c o)
    rule_passes rule.DontCares c o =
        and_right (not (is_data c.target.extension)) (is_any c.what) (gives_one c.what (ap (λ (g : meant.Contribution Formula). g.gives) o.is))

    pub targets_pass : (r : Rule) (cs : List Contribution) → AllByRecursion IsOf cs → targets_refused (refuses t fs r) d.context.names cs ≡ []
    targets_pass r [] all = refl
    targets_pass r (c ∷ cs) all =
        ap (λ (b : Bool). told_if b (record { place = c.place; name = c.target.signal }) ++ targets_refused (refuses t fs r) d.context.names cs) (rule_passes r c all.0)
        ∙ targets_pass r cs all.1
