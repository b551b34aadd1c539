-- What the literals of a decompiled source read, and what its lines give.
use Rattle.std.proofs.Common.{◌≡◌, ℕ, ◌<◌, Bool, true, false, Option, Some, None, List, length, map, unwrap_or, refl, sym, ap, subst, ◌∙◌, append-nil, if◌then◌else◌}
use Rattle.decompiled.proofs.Common.{AllByRecursion, eq-eqb, eqb-true, true≢false, Carry, Cell, IsPair, IsDevice, stores, Table, cell_at, no_cell, Formula, Extension, Kind, Entry, follows_q, is_stored, SectionTree, Equations, ModuleTree, cell_on, Contribution, Design, design_of, formulas, section_gives, sections_give, given_formulas, Source, LeafRead, on_pin, register_source, source_by, read_of, is_cell, is_cell_on, PinLiteral, SumLine, q_if, IsSourceTree, IsKnownLine, line_gives, ReadsLeaf, lines_of, named_by, source_of, pair_leaf, leaf_of, signal_of}
use Rattle.pld_device.specs.declared.carry.Carry.TheVariants as carry
use Rattle.bit_expr.specs.declared.node.Leaf.TheVariants as leaf
use Rattle.abel_tree.specs.declared.words.Extension.TheVariants as extension
use Rattle.decompiled.proofs.Giving.{gives}
use Rattle.decompiled.proofs.Each.{each_weaker}
use Rattle.decompiled.proofs.SourcePins.{IsDeclared, IsDeclaredLine, IsDeclaredLiteral, lines_declared}
use Rattle.decompiled.proofs.SourceNames.{known_is}
use Rattle.decompiled.proofs.PinWords.{HasNoCell, cell_name, free_plain, kind_is, name}

-- the cell on the pin of a cell
pub cell_here : (t : Table) → IsDevice t → (c : ℕ) → c < length t.cells → cell_on t (cell_at t c).pin ≡ Some c
cell_here t laws c within = by_cell (cell_on t (cell_at t c).pin) (is_cell_on t laws (cell_at t c).pin c within ∙ eq-eqb (cell_at t c).pin (cell_at t c).pin refl)
  where
    by_cell : (o : Option ℕ) → is_cell o c ≡ true → o ≡ Some c
    by_cell None e = absurd (true≢false (sym e))
    by_cell (Some d) e = ap Some (eqb-true d c e)

-- each pair's column is read as the pair's leaf
pub reads_pairs : (t : Table) (fuses : List Bool) → IsDevice t → (higher : Bool) (x : Carry) → IsPair t x → leaf_of t (named_by t fuses higher x) ≡ pair_leaf t fuses x
reads_pairs t fuses laws higher (carry.Pin pin) law = refl
reads_pairs t fuses laws higher (carry.Cell c) law =
    ap (λ (o : Option ℕ). if stores t fuses c then leaf.Q (unwrap_or o 0) else leaf.Pin (cell_at t c).pin) (cell_here t laws c law)

module _ (t : Table) (fuses : List Bool) (laws : IsDevice t) (m : ModuleTree) (is : IsSourceTree (source_of t fuses) m) where
  abbrev pub d : Design
  d = design_of t m

  abbrev pub signal : ℕ → ℕ
  signal = signal_of t fuses

  abbrev entry_on : ℕ → Entry
  entry_on pin = name t fuses laws m is pin

  -- what a pin's name reads, by whether it is a register
  reads_as : (pin : ℕ) (e : Option Extension) (stored : Bool) → IsDeclared t fuses laws pin → is_stored (entry_on pin) ≡ stored
      → read_of d.context (signal pin) e ≡ on_pin t (entry_on pin) pin false stored e
  reads_as pin e stored dec by =
      ap (λ (k : Kind). source_by t (entry_on pin) k e) (kind_is t fuses laws m is pin dec)
      ∙ ap (λ (b : Bool). on_pin t (entry_on pin) pin false b e) by

  pair_reads : (higher : Bool) (x : Carry) → IsPair t x → IsDeclared t fuses laws (named_by t fuses higher x).pin
      → read_of d.context (signal (named_by t fuses higher x).pin) (q_if (named_by t fuses higher x).of_q) ≡ LeafRead false (leaf_of t (named_by t fuses higher x))
  pair_reads higher (carry.Pin pin) law dec = reads_as pin None false dec (free_plain t fuses laws m is pin dec none)
    where
      none : HasNoCell t fuses laws m is pin
      none c within same = law.1 c no_cell within same
  pair_reads higher (carry.Cell c) law dec = by_kind (stores t fuses c) refl
    where
      x_stored : is_stored (entry_on (cell_at t c).pin) ≡ stores t fuses c
      x_stored = (cell_name t fuses laws m is c law dec).stored

      by_kind : (b : Bool) → stores t fuses c ≡ b → read_of d.context (signal (cell_at t c).pin) (q_if b) ≡ LeafRead false (if b then leaf.Q (unwrap_or (cell_on t (cell_at t c).pin) 0) else leaf.Pin (cell_at t c).pin)
      by_kind true e =
          reads_as (cell_at t c).pin (Some extension.Q) true dec (x_stored ∙ e)
          ∙ ap (λ (o : Option ℕ). on_pin_by o) (cell_here t laws c law)
          ∙ ap (λ (o : Option ℕ). LeafRead false (leaf.Q (unwrap_or o 0))) (sym (cell_here t laws c law))
        where
          on_pin_by : Option ℕ → Source
          on_pin_by o = register_source false (follows_q (entry_on (cell_at t c).pin)) o (Some extension.Q)
      by_kind false e = reads_as (cell_at t c).pin None false dec (x_stored ∙ e)

  literal_reads : (l : PinLiteral) → IsDeclaredLiteral t fuses laws l → ReadsLeaf d.context (leaf_of t) l
  literal_reads l of = record {
    signal = signal l.pin;
    known = known_is t fuses laws m is l.pin of.1;
    reads = subst (λ (k : PinLiteral). read_of d.context (signal k.pin) (q_if k.of_q) ≡ LeafRead false (leaf_of t k)) (sym of.0.is)
        (pair_reads of.0.higher of.0.pair of.0.law (subst (λ (k : PinLiteral). IsDeclared t fuses laws k.pin) of.0.is of.1));
  }

  pub literals_read : (ps : List (List PinLiteral)) → AllByRecursion (AllByRecursion (IsDeclaredLiteral t fuses laws)) ps → AllByRecursion (AllByRecursion (ReadsLeaf d.context (leaf_of t))) ps
  literals_read ps all =
      each_weaker (AllByRecursion (IsDeclaredLiteral t fuses laws)) (AllByRecursion (ReadsLeaf d.context (leaf_of t)))
      (λ p each. each_weaker (IsDeclaredLiteral t fuses laws) (ReadsLeaf d.context (leaf_of t)) literal_reads p each) ps all

  line_known : (l : SumLine) → IsDeclaredLine t fuses laws l → IsKnownLine d.context signal (leaf_of t) l
  line_known l of = record { target = known_is t fuses laws m is l.pin of.pin; reads = literals_read l.products of.literals }

  pub given_is : given_formulas d ≡ map (line_gives signal (leaf_of t)) (lines_of t fuses)
  given_is =
      ap (λ (xs : List SectionTree). sections_give (formulas d.context) d.context d.starts_dontcare 0 xs) (ap (λ (x : ModuleTree). x.sections) is.is)
      ∙ append-nil (sections_give_one)
      ∙ gives d.context d.starts_dontcare signal (leaf_of t) (lines_of t fuses) is.lines (each_weaker (IsDeclaredLine t fuses laws) (IsKnownLine d.context signal (leaf_of t)) line_known (lines_of t fuses) (lines_declared t fuses laws)) is.are_lines
    where
      sections_give_one : List (Contribution Formula)
      sections_give_one = section_gives (formulas d.context) d.context d.starts_dontcare 0 (Equations is.lines)
