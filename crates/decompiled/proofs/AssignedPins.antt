-- What the lines of a decompiled source assign: the data of the cells that have lines, on the clock if they store.
use Rattle.std.proofs.Common.{◌≡◌, ℕ, ◌<◌, inl, inr, Bool, true, false, Option, Some, None, List, [], ◌∷◌, ◌++◌, length, filter, flat_map, refl, sym, ap, ◌∙◌, append-nil, ◌==◌, ◌&&◌, ◌||◌, if◌then◌else◌}
use Rattle.decompiled.proofs.Common.{AllByRecursion, list_any, cases_Bool, eqb-true, true≢false, list_any-append, Place, IsDevice, stores, Table, cell_at, own_pins, Extension, Assigned, Named, assigned_by, is_assigned, is_clocked_target, list_assigns, named_of, sections_assign, signals_of_name, statement_assigns, Tree, AName, Statement, AnAssign, SectionTree, ModuleTree, is_data, is_raw, declared_names, Term, extended_if, SumLine, name_text, word, IsLine, AreLines, IsSourceTree, is_data_line, data_line, has_lines, lines_of, source_of, IsOwnSignal, signal_of}
use Rattle.abel_tree.specs.declared.words.Extension.TheVariants as extension
use Rattle.abel_tree.specs.declared.words.Sign.TheVariants as sign
use Rattle.design.specs.AssignedCorrect.{bare_signals}
use Rattle.design.proofs.AssignedNames.{same_targets}
use Rattle.decompiled.proofs.Each.{each_weaker}
use Rattle.decompiled.proofs.CellLines.{have}
use Rattle.decompiled.proofs.SourcePins.{IsDeclared, IsDeclaredLine, lines_declared, own_signal}
use Rattle.decompiled.proofs.SourceNames.{found, known_is}

-- ---- lists

-- what passes two tests: what passes one of them is tested by the other
pub any_kept : {A : Type 0} (p q : A → Bool) (xs : List A) → list_any (λ x. p x && q x) xs ≡ list_any q (filter p xs)
any_kept p q [] = refl
any_kept p q (x ∷ xs) = elim (cases_Bool (p x)) [
  | inl e ↦ rw e (ap (λ (b : Bool). q x || b) (any_kept p q xs))
  | inr e ↦ rw e (any_kept p q xs)
]

pub any_alike : {A : Type 0} (p q : A → Bool) (xs : List A) → ((x : A) → p x ≡ q x) → list_any p xs ≡ list_any q xs
any_alike p q [] same = refl
any_alike p q (x ∷ xs) same = ap (λ (b : Bool). b || list_any p xs) (same x) ∙ ap (λ (b : Bool). q x || b) (any_alike p q xs same)

pub any_none : {A : Type 0} (p : A → Bool) (xs : List A) → AllByRecursion (λ x. p x ≡ false) xs → list_any p xs ≡ false
any_none p [] all = refl
any_none p (x ∷ xs) all = rw all.0 (any_none p xs all.1)

-- ---- lines as assignments

abbrev pub no_place : Place
no_place = record { line = 0; column = 0 }

module _ (signal : ℕ → ℕ) where
  -- what a line assigns
  abbrev pub line_assigns : SumLine → List Assigned
  line_assigns l = assigned_by l.extension false (signal l.pin ∷ [])

  -- the line is raw data to the signal
  abbrev pub is_raw_line : (s : ℕ) → SumLine → Bool
  is_raw_line s l = signal l.pin == s && is_raw l.extension

  module _ (ks : List Named) where
    abbrev IsNamedLine : SumLine → Type 0
    IsNamedLine l = signals_of_name ks (name_text l.pin) ≡ signal l.pin ∷ []

    one_assigns : (l : SumLine) (s : Statement) → IsLine l s → IsNamedLine l → statement_assigns ks s ≡ line_assigns l
    one_assigns l s is named =
        ap (statement_assigns ks) is.is
        ∙ ap (λ (t : Tree). statement_assigns ks (AnAssign is.place l.negated t sign.Equal is.sign_place is.value)) is.named.1
        ∙ ap (assigned_by l.extension false) named

    pub lines_assign : (ls : List SumLine) (ss : List Statement) → AreLines ls ss → AllByRecursion IsNamedLine ls → list_assigns ks ss ≡ flat_map line_assigns ls
    lines_assign [] ss are named = ap (list_assigns ks) are
    lines_assign (l ∷ ls) ss are named =
        ap (list_assigns ks) are.4
        ∙ ap (λ (xs : List Assigned). xs ++ list_assigns ks are.1) (one_assigns l are.0 are.2 named.0)
        ∙ ap (λ (xs : List Assigned). line_assigns l ++ xs) (lines_assign ls are.1 are.3 named.1)

  -- data are assigned
  data_of : (b : Bool) (e : Option Extension) (s x : ℕ) → (x == s) ≡ b → list_any (λ (a : Assigned). a.signal == s) (assigned_by e false (x ∷ [])) ≡ ((x == s) && is_data e)
  data_of true None s x is = rw is refl
  data_of false None s x is = rw is refl
  data_of true (Some extension.D) s x is = rw is refl
  data_of false (Some extension.D) s x is = rw is refl
  data_of true (Some extension.Clk) s x is = rw is refl
  data_of false (Some extension.Clk) s x is = rw is refl
  data_of true (Some extension.Oe) s x is = rw is refl
  data_of false (Some extension.Oe) s x is = rw is refl
  data_of true (Some extension.Ar) s x is = rw is refl
  data_of false (Some extension.Ar) s x is = rw is refl
  data_of true (Some extension.Sp) s x is = rw is refl
  data_of false (Some extension.Sp) s x is = rw is refl
  data_of true (Some extension.Q) s x is = rw is refl
  data_of false (Some extension.Q) s x is = rw is refl
  data_of true (Some extension.Fb) s x is = rw is refl
  data_of false (Some extension.Fb) s x is = rw is refl
  data_of true (Some extension.Pin) s x is = rw is refl
  data_of false (Some extension.Pin) s x is = rw is refl

  -- raw data are assigned on the clock, and other data are not
  raw_of : (b : Bool) (e : Option Extension) (s x : ℕ) → (x == s) ≡ b → list_any (λ (a : Assigned). a.signal == s && a.clocked) (assigned_by e false (x ∷ [])) ≡ ((x == s) && is_raw e)
  raw_of true None s x is = rw is refl
  raw_of false None s x is = rw is refl
  raw_of true (Some extension.D) s x is = rw is refl
  raw_of false (Some extension.D) s x is = rw is refl
  raw_of true (Some extension.Clk) s x is = rw is refl
  raw_of false (Some extension.Clk) s x is = rw is refl
  raw_of true (Some extension.Oe) s x is = rw is refl
  raw_of false (Some extension.Oe) s x is = rw is refl
  raw_of true (Some extension.Ar) s x is = rw is refl
  raw_of false (Some extension.Ar) s x is = rw is refl
  raw_of true (Some extension.Sp) s x is = rw is refl
  raw_of false (Some extension.Sp) s x is = rw is refl
  raw_of true (Some extension.Q) s x is = rw is refl
  raw_of false (Some extension.Q) s x is = rw is refl
  raw_of true (Some extension.Fb) s x is = rw is refl
  raw_of false (Some extension.Fb) s x is = rw is refl
  raw_of true (Some extension.Pin) s x is = rw is refl
  raw_of false (Some extension.Pin) s x is = rw is refl

  assigned_is : (ls : List SumLine) (s : ℕ) → is_assigned (flat_map line_assigns ls) s ≡ list_any (is_data_line signal s) ls
  assigned_is [] s = refl
  assigned_is (l ∷ ls) s =
      list_any-append (λ (a : Assigned). a.signal == s) (line_assigns l) (flat_map line_assigns ls)
      ∙ ap (λ (b : Bool). b || is_assigned (flat_map line_assigns ls) s) (data_of (signal l.pin == s) l.extension s (signal l.pin) refl)
      ∙ ap (λ (b : Bool). is_data_line signal s l || b) (assigned_is ls s)

  clocked_is : (ls : List SumLine) (s : ℕ) → is_clocked_target (flat_map line_assigns ls) s ≡ list_any (is_raw_line s) ls
  clocked_is [] s = refl
  clocked_is (l ∷ ls) s =
      list_any-append (λ (a : Assigned). a.signal == s && a.clocked) (line_assigns l) (flat_map line_assigns ls)
      ∙ ap (λ (b : Bool). b || is_clocked_target (flat_map line_assigns ls) s) (raw_of (signal l.pin == s) l.extension s (signal l.pin) refl)
      ∙ ap (λ (b : Bool). is_raw_line s l || b) (clocked_is ls s)

-- ---- the lines of a device's source

module _ (t : Table) (fuses : List Bool) (laws : IsDevice t) (m : ModuleTree) (is : IsSourceTree (source_of t fuses) m) where
  abbrev pub signal : ℕ → ℕ
  signal = signal_of t fuses

  signals_known : (pin : ℕ) → IsDeclared t fuses laws pin → signals_of_name (named_of (declared_names m)) (name_text pin) ≡ signal pin ∷ []
  signals_known pin dec =
      same_targets t m (AName (word (name_text pin) no_place) None)
      ∙ ap (λ (x : Term). bare_signals (extended_if None x)) (known_is t fuses laws m is pin dec)

  found_is : found t fuses laws m is ≡ flat_map (line_assigns signal) (lines_of t fuses)
  found_is =
      ap (λ (xs : List SectionTree). sections_assign (named_of (declared_names m)) xs) (ap (λ (x : ModuleTree). x.sections) is.is)
      ∙ append-nil (list_assigns (named_of (declared_names m)) is.lines)
      ∙ lines_assign signal (named_of (declared_names m)) (lines_of t fuses) is.lines is.are_lines
      (each_weaker (IsDeclaredLine t fuses laws) (λ l. signals_of_name (named_of (declared_names m)) (name_text l.pin) ≡ signal l.pin ∷ []) (λ l dec. signals_known l.pin dec.pin) (lines_of t fuses) (lines_declared t fuses laws))

  -- ---- cells

  pub own : (c : ℕ) → c < length t.cells → IsDeclared t fuses laws (cell_at t c).pin → IsOwnSignal t signal c
  own c within dec d d_within same = (own_pins t laws).apart d c d_within within (own_signal t fuses laws (cell_at t c).pin (cell_at t d).pin dec same)

  module _ (c : ℕ) (within : c < length t.cells) (dec : IsDeclared t fuses laws (cell_at t c).pin) where
    abbrev s : ℕ
    s = signal (cell_at t c).pin

    own_data : filter (is_data_line signal s) (lines_of t fuses) ≡ (if has_lines t fuses c then data_line t fuses c ∷ [] else [])
    own_data = (have t fuses signal c within (own c within dec)).data_is

    pub cell_assigned : is_assigned (found t fuses laws m is) s ≡ has_lines t fuses c
    cell_assigned =
        ap (λ (xs : List Assigned). is_assigned xs s) found_is ∙ assigned_is signal (lines_of t fuses) s
        ∙ any_alike (is_data_line signal s) (λ l. is_data_line signal s l && true) (lines_of t fuses) (λ l. sym (and_true (is_data_line signal s l)))
        ∙ any_kept (is_data_line signal s) (λ l. true) (lines_of t fuses)
        ∙ ap (list_any (λ (l : SumLine). true)) own_data
        ∙ some_of (has_lines t fuses c)
      where
        and_true : (b : Bool) → (b && true) ≡ b
        and_true true = refl
        and_true false = refl

        some_of : (b : Bool) → list_any (λ (l : SumLine). true) (if b then data_line t fuses c ∷ [] else []) ≡ b
        some_of true = refl
        some_of false = refl

    pub cell_clocked : is_clocked_target (found t fuses laws m is) s ≡ stores t fuses c
    cell_clocked =
        ap (λ (xs : List Assigned). is_clocked_target xs s) found_is ∙ clocked_is signal (lines_of t fuses) s
        ∙ any_alike (is_raw_line signal s) (λ l. is_data_line signal s l && is_raw l.extension) (lines_of t fuses) (λ l. raw_data (signal l.pin == s) l.extension)
        ∙ any_kept (is_data_line signal s) (λ l. is_raw l.extension) (lines_of t fuses)
        ∙ ap (list_any (λ (l : SumLine). is_raw l.extension)) own_data
        ∙ stored_of (stores t fuses c) (has_lines t fuses c) (λ e. rw e refl)
      where
        raw_data : (b : Bool) (e : Option Extension) → (b && is_raw e) ≡ ((b && is_data e) && is_raw e)
        raw_data true None = refl
        raw_data true (Some extension.D) = refl
        raw_data true (Some extension.Clk) = refl
        raw_data true (Some extension.Oe) = refl
        raw_data true (Some extension.Ar) = refl
        raw_data true (Some extension.Sp) = refl
        raw_data true (Some extension.Q) = refl
        raw_data true (Some extension.Fb) = refl
        raw_data true (Some extension.Pin) = refl
        raw_data false e = refl

        stored_of : (stored some : Bool) → (stored ≡ true → some ≡ true) → list_any (λ (l : SumLine). is_raw l.extension) (if some then record (data_line t fuses c) { extension = if stored then Some extension.D else None } ∷ [] else []) ≡ stored
        stored_of true true so = refl
        stored_of true false so = absurd (true≢false (sym (so refl)))
        stored_of false true so = refl
        stored_of false false so = refl

  -- ---- a pin without a cell

  no_line : (test : Option Extension → Bool) (pin : ℕ) → IsDeclared t fuses laws pin → ((c : ℕ) → c < length t.cells → (cell_at t c).pin ≡ pin → ⊥)
      → list_any (λ (l : SumLine). signal l.pin == signal pin && test l.extension) (lines_of t fuses) ≡ false
  no_line test pin dec none =
      any_none (λ l. signal l.pin == signal pin && test l.extension) (lines_of t fuses)
      (each_weaker (IsDeclaredLine t fuses laws) (λ l. (signal l.pin == signal pin && test l.extension) ≡ false) other (lines_of t fuses) (lines_declared t fuses laws))
    where
      other : (l : SumLine) → IsDeclaredLine t fuses laws l → (signal l.pin == signal pin && test l.extension) ≡ false
      other l of = elim (cases_Bool (signal l.pin == signal pin)) [
        | inl same ↦ absurd (none of.on.cell of.on.within (sym of.on.pin ∙ own_signal t fuses laws pin l.pin dec (eqb-true (signal l.pin) (signal pin) same)))
        | inr apart ↦ rw apart refl
      ]

  pub free_unassigned : (pin : ℕ) → IsDeclared t fuses laws pin → ((c : ℕ) → c < length t.cells → (cell_at t c).pin ≡ pin → ⊥) → is_assigned (found t fuses laws m is) (signal pin) ≡ false
  free_unassigned pin dec none =
      ap (λ (xs : List Assigned). is_assigned xs (signal pin)) found_is ∙ assigned_is signal (lines_of t fuses) (signal pin) ∙ no_line is_data pin dec none

  pub free_unclocked : (pin : ℕ) → IsDeclared t fuses laws pin → ((c : ℕ) → c < length t.cells → (cell_at t c).pin ≡ pin → ⊥) → is_clocked_target (found t fuses laws m is) (signal pin) ≡ false
  free_unclocked pin dec none =
      ap (λ (xs : List Assigned). is_clocked_target xs (signal pin)) found_is ∙ clocked_is signal (lines_of t fuses) (signal pin) ∙ no_line is_raw pin dec none
