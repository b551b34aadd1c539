-- Which lines of a decompiled source assign enables, and that its section assigns no others.
use Rattle.std.proofs.Common.{◌≡◌, ℕ, ◌<◌, Bool, true, false, Some, None, List, [], ◌∷◌, ◌++◌, length, refl, sym, ap, ◌∙◌, arith, append-nil, ◌||◌, if◌then◌else◌}
use Rattle.decompiler.proofs.Common.{each_weaker, list_any, flat_map, range_with_len, or_left, or_right, Enable, Row, PinLow, Driven, Released, IsDevice, stores, Table, cell_at, Tree, Statement, ModuleTree, SumLine, AreLines, IsSourceTree, cell_lines, data_line, enable_lines, first_register, has_lines, lines_of, shared_lines, source_of}
use Rattle.std.proofs.lemmas.List.Folds.{list_any-append}
use Rattle.abel_tree.specs.declared.words.Extension.TheVariants as extension
use Rattle.abel_meaning.specs.Held.{ATarget, list_parts, statement_parts}
use Rattle.abel_meaning.specs.Reads.{has_enables, is_enable, is_enable_part}
use Rattle.netlist_laws.specs.Takeable.{is_row}
use Rattle.decompiled.proofs.AssignedPins.{any_none}
use Rattle.decompiled.proofs.SignalsOn.{any_given}
use Rattle.decompiler.proofs.OwnLines.{IsForm, IsOwnLine, LineForm, DataForm, EnableForm, ResetForm, PresetForm, own_lines}

abbrev pub is_enable_line : SumLine → Bool
is_enable_line l = is_enable l.extension

-- what statements assign as enables, their lines do
lines_enable : (ls : List SumLine) (ss : List Statement) → AreLines ls ss → list_any is_enable_part (list_parts ss) ≡ list_any is_enable_line ls
lines_enable [] ss are = ap (λ (xs : List Statement). list_any is_enable_part (list_parts xs)) are
lines_enable (l ∷ ls) ss are =
    ap (λ (xs : List Statement). list_any is_enable_part (list_parts xs)) are.4
    ∙ ap (λ (s : Statement). list_any is_enable_part (statement_parts s ++ list_parts are.1)) are.2.is
    ∙ ap (λ (x : Tree). is_enable_part (ATarget x) || list_any is_enable_part (list_parts are.1)) are.2.named.1
    ∙ ap (λ (b : Bool). is_enable_line l || b) (lines_enable ls are.1 are.3)

-- data are no enable, a register's either
data_quiet : (b : Bool) → is_enable (if b then Some extension.D else None) ≡ false
data_quiet true = refl
data_quiet false = refl

module _ (t : Table) (fuses : List Bool) (laws : IsDevice t) (m : ModuleTree) (is : IsSourceTree (source_of t fuses) m) where
  pub enables_are : has_enables m.sections ≡ list_any is_enable_line (lines_of t fuses)
  enables_are =
      ap (λ (x : ModuleTree). has_enables x.sections) is.is
      ∙ ap (list_any is_enable_part) (append-nil (list_parts is.lines))
      ∙ lines_enable (lines_of t fuses) is.lines is.are_lines

  -- no cell is enabled by a row, so that there is no line of an enable
  pub no_enables : ((c : ℕ) → c < length t.cells → is_row (cell_at t c).enable ≡ false) → has_enables m.sections ≡ false
  no_enables none = enables_are ∙ any_none is_enable_line (lines_of t fuses) (each_weaker (IsOwnLine t fuses) (λ (l : SumLine). is_enable_line l ≡ false) quiet (lines_of t fuses) (own_lines t fuses laws))
    where
      quiet : (l : SumLine) → IsOwnLine t fuses l → is_enable_line l ≡ false
      quiet l own = by_form own.form own.is
        where
          by_form : (form : LineForm) → IsForm t fuses form own.cell l → is_enable_line l ≡ false
          by_form DataForm is_line = ap (λ (k : SumLine). is_enable_line k) is_line ∙ data_quiet (stores t fuses own.cell)
          by_form EnableForm is_line = absurd (true_false (sym (ap is_row is_line.1) ∙ none own.cell own.within))
            where
              true_false : true ≡ false → ⊥
              true_false e = cc
          by_form ResetForm is_line = ap (λ (k : SumLine). is_enable_line k) is_line.3
          by_form PresetForm is_line = ap (λ (k : SumLine). is_enable_line k) is_line.3

  -- a cell with lines that a row enables has one
  module _ (c : ℕ) (within : c < length t.cells) (has : has_lines t fuses c ≡ true) where
    cell_enable : (e : Enable) → is_row e ≡ true → list_any is_enable_line (enable_lines t fuses c e) ≡ true
    cell_enable (Row row) by = refl
    cell_enable (PinLow pin) by = absurd cc
    cell_enable Driven by = absurd cc
    cell_enable Released by = absurd cc

    pub some_enable : is_row (cell_at t c).enable ≡ true → has_enables m.sections ≡ true
    some_enable by =
        enables_are
        ∙ list_any-append is_enable_line (cells ++ resets) presets
        ∙ or_left (list_any is_enable_line (cells ++ resets)) (list_any is_enable_line presets)
        (
        list_any-append is_enable_line cells resets
        ∙ or_left (list_any is_enable_line cells) (list_any is_enable_line resets)
        (any_given is_enable_line (cell_lines t fuses) 0 (length t.cells) c (omega arith) (omega (arith, within)) here)
        )
      where
        cells : List SumLine
        cells = flat_map (cell_lines t fuses) (range_with_len 0 (length t.cells))

        resets : List SumLine
        resets = shared_lines t fuses extension.Ar (first_register t fuses) t.reset

        presets : List SumLine
        presets = shared_lines t fuses extension.Sp (first_register t fuses) t.preset

        here : list_any is_enable_line (cell_lines t fuses c) ≡ true
        here = rw has (or_right (is_enable_line (data_line t fuses c)) (list_any is_enable_line (enable_lines t fuses c (cell_at t c).enable)) (cell_enable (cell_at t c).enable by))
