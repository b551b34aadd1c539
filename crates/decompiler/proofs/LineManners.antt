-- How a line of a decompiled source assigns its signal: as its cell asks, and in one way alone.
use Rattle.std.proofs.Common.{◌≡◌, ℕ, zero, suc, ◌<◌, inl, inr, Bool, true, false, if◌then◌else◌, Option, Some, None, List, [], ◌∷◌, length, get_or, refl, sym, ap, subst, ◌∙◌, arith, eq-eqb, eqb-true, ◌==◌, ◌&&◌, ◌||◌}
use Rattle.decompiler.proofs.Common.{AllByRecursion, list_any, and_parts, cases_Bool, or_left, or_right, Place, Cell, IsDevice, stores, Table, cell_at, no_cell, own_pins, differ, Extension, Kind, APin, Entry, is_stored, Tree, ModuleTree, is_data, is_raw, Design, design_of, targets_of, Term, extended_if, term_named, term_of, name_found, names_found, found_value, one_position, Found, Manner, differs_from, first_manner, is_against_kind, is_cell_pin, is_output, is_output_kind, is_same_part, may_be_assigned, part_of, TargetFound, left_side, start_of, target_use, SumLine, name_text, word, IsNamed, IsSourceTree, source_of, signal_of, IsDeclared, IsDeclaredLine, own_signal, known_is, cell_name, name}
use Rattle.abel_tree.specs.declared.words.Extension.TheVariants as extension
use Rattle.abel_tree.specs.Entries.{find}
use Rattle.abel_meaning.specs.Terms.{Read}
use Rattle.decompiler.proofs.OwnLines.{IsOwnLine}
use Rattle.decompiler.proofs.PlainNames.{pin_found, use_found}

any_at : {A : Type 0} (test : A → Bool) (xs : List A) (d : A) (i : ℕ) → i < length xs → test (get_or xs i d) ≡ true → list_any test xs ≡ true
any_at test [] d i within passes = absurd (omega (arith, within))
any_at test (x ∷ xs) d zero within passes = or_left (test x) (list_any test xs) passes
any_at test (x ∷ xs) d (suc i) within passes = or_right (test x) (list_any test xs) (any_at test xs d i (omega (arith, within)) passes)

differ_self : (b : Bool) → differ b b ≡ false
differ_self true = refl
differ_self false = refl

-- data are one part, and each control another
data_part : (e : Option Extension) → is_data e ≡ (part_of e == 0)
data_part None = refl
data_part (Some extension.D) = refl
data_part (Some extension.Clk) = refl
data_part (Some extension.Oe) = refl
data_part (Some extension.Ar) = refl
data_part (Some extension.Sp) = refl
data_part (Some extension.Q) = refl
data_part (Some extension.Fb) = refl
data_part (Some extension.Pin) = refl

extended_signal : (e : Option Extension) (s : ℕ) → length (targets_of (extended_if e (Read s None))) ≡ 1
extended_signal None s = refl
extended_signal (Some e) s = refl

module _ (t : Table) (fuses : List Bool) (laws : IsDevice t) (m : ModuleTree) (is : IsSourceTree (source_of t fuses) m) where
  abbrev pub d : Design
  d = design_of t m

  abbrev pub signal : ℕ → ℕ
  signal pin = signal_of t fuses pin

  -- a line with its cell, whose pins are declared
  abbrev pub IsGoodLine : SumLine → Type 0
  IsGoodLine l = IsOwnLine t fuses l × IsDeclaredLine t fuses laws l

  -- how a line assigns its signal
  abbrev pub line_manner : SumLine → Manner
  line_manner l = record { signal = signal l.pin; extension = l.extension; complement = l.negated; clocked = false }

  pub record IsLineManner (f : Manner) : Type 0 where
    pub line : SumLine
    pub good : IsGoodLine line
    pub equals : f ≡ line_manner line

  -- ---- the target

  module _ (l : SumLine) (good : IsGoodLine l) where
    abbrev own : IsOwnLine t fuses l
    own = good.0

    -- its signal alone, at some place
    pub record IsAimed (found : TargetFound) : Type 0 where
      pub place : Place
      pub equals : found ≡ record { refusals = []; aims = record { signal = signal l.pin; place = place } ∷ [] }

    pub aimed : (p : Place) (target : Tree) → IsNamed l.pin l.extension target → IsAimed (left_side d.context p target)
    aimed p target named =
        let w = word (name_text l.pin) named.0 in
        let q : Place = start_of d.context p w in
        record {
          place = q;
          equals = ap (left_side d.context p) named.1
              ∙ ap (λ (f : Found). target_use named.0 q (find d.context.names (name_text l.pin)) f (term_named d.context.known (name_text l.pin))) (use_found named.0 (name_found (names_found d.context.names) (name_text l.pin)) (pin_found t fuses laws m is l.pin good.1.pin))
              ∙ ap (target_use named.0 q (find d.context.names (name_text l.pin)) (found_value (one_position false))) (known_is t fuses laws m is l.pin good.1.pin);
        }

    pub one_target : (target : Tree) → IsNamed l.pin l.extension target → length (targets_of (term_of d.context.known target)) ≡ 1
    one_target target named =
        ap (λ (x : Tree). length (targets_of (term_of d.context.known x))) named.1
        ∙ ap (λ (u : Term). length (targets_of (extended_if l.extension u))) (known_is t fuses laws m is l.pin good.1.pin)
        ∙ extended_signal l.extension (signal l.pin)

    -- ---- its signal may be assigned so

    abbrev pub x : Entry
    x = name t fuses laws m is l.pin

    pub record IsOutputName : Type 0 where
      pub kind : x.kind ≡ APin l.pin false
      pub assigned : x.assigned ≡ true
      pub registered : x.words.registered ≡ stores t fuses own.cell

    output_name : IsOutputName
    output_name =
        let dec : IsDeclared t fuses laws (cell_at t own.cell).pin = subst (IsDeclared t fuses laws) own.pin good.1.pin in
        let c = cell_name t fuses laws m is own.cell own.within dec in
        let same : name t fuses laws m is (cell_at t own.cell).pin ≡ x = ap (name t fuses laws m is) (sym own.pin) in
        let assigned : x.assigned ≡ true = ap (λ (y : Entry). y.assigned) (sym same) ∙ c.assigned ∙ own.has in
        record {
          kind = ap (λ (y : Entry). y.kind) (sym same) ∙ c.kind ∙ ap (λ (pin : ℕ). APin pin false) (sym own.pin);
          assigned = assigned;
          registered = and_true x.words.registered x.assigned assigned ∙ ap is_stored (sym same) ∙ c.stored;
        }
      where
        and_true : (a b : Bool) → b ≡ true → a ≡ (a && b)
        and_true true b e = sym e
        and_true false b e = refl

    cell_pin_is : is_cell_pin t l.pin ≡ true
    cell_pin_is = any_at (λ (c : Cell). c.pin == l.pin) t.cells no_cell own.cell own.within (eq-eqb (cell_at t own.cell).pin l.pin (sym own.pin))

    pub is_output_line : is_output t x l.extension ≡ true
    is_output_line =
        ap (λ (k : Kind). is_output_kind t k && (may_be_assigned l.extension && (is_data l.extension || x.assigned))) output_name.kind
        ∙ ap (λ (b : Bool). b && (may_be_assigned l.extension && (is_data l.extension || x.assigned))) cell_pin_is
        ∙ ap (λ (b : Bool). b && (is_data l.extension || x.assigned)) own.may
        ∙ or_right (is_data l.extension) x.assigned output_name.assigned

    pub kind_agrees : is_against_kind x (line_manner l) ≡ false
    kind_agrees = elim (cases_Bool (is_data l.extension)) [
      | inl data_e ↦
          rw data_e (
          ap (λ (e : Option Extension). differ x.words.registered (false || is_raw e)) (own.data_is data_e)
          ∙ ap (λ (b : Bool). differ b (raw_if (stores t fuses own.cell))) output_name.registered
          ∙ raw_same (stores t fuses own.cell)
          )
      | inr control ↦ rw control refl
    ]
      where
        raw_if : Bool → Bool
        raw_if b = is_raw (if b then Some extension.D else None)

        raw_same : (b : Bool) → differ b (raw_if b) ≡ false
        raw_same true = refl
        raw_same false = refl

  -- ---- one manner for each part of a signal

  one_cell : (k l : SumLine) → IsGoodLine k → (good : IsGoodLine l) → signal k.pin ≡ signal l.pin → (i : IsOwnLine t fuses k) → i.cell ≡ good.0.cell
  one_cell k l k_good good same i =
      (own_pins t laws).apart i.cell good.0.cell i.within good.0.within
      (sym i.pin ∙ own_signal t fuses laws l.pin k.pin good.1.pin same ∙ good.0.pin)

  alike : (k l : SumLine) → IsGoodLine k → IsGoodLine l → signal k.pin ≡ signal l.pin → part_of k.extension ≡ part_of l.extension
      → differs_from (Some (line_manner k)) (line_manner l) ≡ false
  alike k l k_good l_good same part = elim (cases_Bool (is_data l.extension)) [
    | inl data_l ↦
        let extensions : k.extension ≡ l.extension =
        k_good.0.data_is (data_same ∙ data_l)
        ∙ ap (λ (c : ℕ). if stores t fuses c then Some extension.D else None) (one_cell k l k_good l_good same k_good.0)
        ∙ sym (l_good.0.data_is data_l) in
        rw data_l (
        ap (λ (e : Option Extension). differ (false || is_raw e) (false || is_raw l.extension) || differ (is_raw e) (is_raw l.extension)) extensions
        ∙ twice (is_raw l.extension)
        )
    | inr control_l ↦
        rw control_l (
        ap (λ (b : Bool). differ b l.negated) (k_good.0.control_is (data_same ∙ control_l))
        ∙ ap (differ false) (l_good.0.control_is control_l)
        )
  ]
    where
      data_same : is_data k.extension ≡ is_data l.extension
      data_same = data_part k.extension ∙ ap (λ (n : ℕ). n == 0) part ∙ sym (data_part l.extension)

      twice : (b : Bool) → (differ b b || differ b b) ≡ false
      twice true = refl
      twice false = refl

  pub none_differs : (fs : List Manner) → AllByRecursion IsLineManner fs → (l : SumLine) → IsGoodLine l
      → differs_from (first_manner fs (signal l.pin) (part_of l.extension)) (line_manner l) ≡ false
  none_differs [] all l good = refl
  none_differs (f ∷ fs) all l good = by_test (is_same_part f (signal l.pin) (part_of l.extension)) refl (none_differs fs all.1 l good)
    where
      first_by : Bool → Option Manner
      first_by b = if b then Some f else first_manner fs (signal l.pin) (part_of l.extension)

      by_test : (b : Bool) → is_same_part f (signal l.pin) (part_of l.extension) ≡ b → differs_from (first_manner fs (signal l.pin) (part_of l.extension)) (line_manner l) ≡ false
          → differs_from (first_by (is_same_part f (signal l.pin) (part_of l.extension))) (line_manner l) ≡ false
      by_test true hit later =
          let parts = and_parts (f.signal == signal l.pin) (part_of f.extension == part_of l.extension) hit in
          let same : signal all.0.line.pin ≡ signal l.pin = ap (λ (g : Manner). g.signal) (sym all.0.equals) ∙ eqb-true f.signal (signal l.pin) parts.0 in
          let part : part_of all.0.line.extension ≡ part_of l.extension = ap (λ (g : Manner). part_of g.extension) (sym all.0.equals) ∙ eqb-true (part_of f.extension) (part_of l.extension) parts.1 in
          ap (λ (b : Bool). differs_from (first_by b) (line_manner l)) hit
          ∙ ap (λ (g : Manner). differs_from (Some g) (line_manner l)) all.0.equals
          ∙ alike all.0.line l all.0.good good same part
      by_test false miss later = ap (λ (b : Bool). differs_from (first_by b) (line_manner l)) miss ∙ later
