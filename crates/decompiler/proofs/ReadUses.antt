-- Nothing is refused of what the lines of a decompiled source read: each signal has what is asked of it, and a pair of
-- columns carries it.
use Rattle.std.proofs.Common.{◌≡◌, ℕ, ◌+◌, ◌<◌, inl, inr, Bool, true, false, not, is_some, if◌then◌else◌, Option, Some, None, List, [], ◌∷◌, ◌++◌, length, filter, map, refl, sym, ap, subst, ◌∙◌, append-nil, eq-eqb, eqb-true, ◌==◌, ◌&&◌, ◌||◌, position}
use Rattle.decompiler.proofs.Common.{AllByRecursion, each_append, list_any, position_from, and_from, and_right, cases_Bool, or_right, true≢false, Carry, Cell, Kinds, Combinational, Registered, Either, IsDevice, is_read_pin, pair_pins, pin_carried, cell_on, carries_cell, says, stores, stores_by, Table, cell_at, no_cell, registered_at, own_pins, Extension, target_extension, Kind, APin, Entry, is_stored, Tree, Statement, ModuleTree, Equations, statements_of, must_register, Design, design_of, name_at, Term, extended_if, term_named, term_of, carries_level, carries_q, has_by, has_extension, has_read_path, is_missing, is_unread, missing_uses, reads_by, unread_uses, design_uses, is_compared, part_uses, TargetFound, left_side, is_compared_of, Written, aims_refused, is_written_at, narrow, statement_refused, statements_refused, unwritten, written_if, RefusedUse, PinLiteral, SumLine, name_text, q_if, SparesPowerDown, AreLines, IsLine, IsSourceTree, lines_of, named_by, source_of, signal_of, HasNoCell, cell_name, free_plain, kind_is, name, known_is, IsDeclared, IsDeclaredLiteral, cell_here, flat_map, flat_map-append, SectionTree}
use Rattle.pld_device.specs.declared.carry.Carry.TheVariants as carry
use Rattle.abel_tree.specs.declared.words.Extension.TheVariants as extension
use Rattle.abel_meaning.specs.Terms.{Read}
use Rattle.name_uses.specs.Parts.{PartTree, parts_in_section, parts_in_statement}
use Rattle.netlist_laws.specs.SignalUses.{SignalUse, term_uses}
use Rattle.netlist_laws.proofs.CellsFound.{first_place}
use Rattle.design_checks.specs.LocatedUses.{PlacedUse, located}
use Rattle.design_checks.specs.Written.{sections_refused}
use Rattle.design_checks.proofs.UsesRead.{uses_read}
use Rattle.decompiler.proofs.EachTree.{HoldsBySteps, sum_holds}
use Rattle.decompiler.proofs.LineManners.{IsGoodLine, aimed}
use Rattle.decompiler.proofs.PairColumns.{IsAmong, IsColumn, IsDevicePair, line_columns}
use Rattle.decompiler.proofs.PinTargets.{none_at, not_compared}
use Rattle.decompiler.proofs.SparedPins.{is_spared}

-- ---- what is found in lists

none_any : {X : Type 0} (test : X → Bool) (xs : List X) (k : ℕ) → position_from test k xs ≡ None → list_any test xs ≡ false
none_any test [] k none = refl
none_any test (x ∷ xs) k none = by_test (test x) refl (λ later. none_any test xs (k + 1) later)
  where
    by_test : (b : Bool) → test x ≡ b → (position_from test (k + 1) xs ≡ None → list_any test xs ≡ false) → list_any test (x ∷ xs) ≡ false
    by_test true e later = absurd (some_none (rw e at none))
      where
        some_none : Some k ≡ None → ⊥
        some_none e = cc
    by_test false e later = rw e (later (rw e at none))

-- what some element passes is found
found_some : {X : Type 0} (test : X → Bool) (xs : List X) → list_any test xs ≡ true → is_some (position test xs) ≡ true
found_some test xs some = by_found (position test xs) refl
  where
    by_found : (o : Option ℕ) → position test xs ≡ o → is_some (position test xs) ≡ true
    by_found (Some i) e = ap is_some e
    by_found None e = absurd (true≢false (sym some ∙ none_any test xs 0 (sym (first_place test xs) ∙ e)))

any_mapped : {A B : Type 0} (f : A → B) (test : B → Bool) (xs : List A) → list_any test (map f xs) ≡ list_any (λ x. test (f x)) xs
any_mapped f test [] = refl
any_mapped f test (x ∷ xs) = ap (λ (b : Bool). test (f x) || b) (any_mapped f test xs)

-- ---- what is read

module _ (t : Table) (fuses : List Bool) (laws : IsDevice t) (m : ModuleTree) (is : IsSourceTree (source_of t fuses) m)
    (spares : SparesPowerDown t fuses) where
  abbrev d : Design
  d = design_of t m

  abbrev x_on : ℕ → Entry
  x_on pin = name t fuses laws m is pin

  -- a signal that has what is asked of it, and a column
  pub record IsReadable (pin : ℕ) (of_q : Bool) : Type 0 where
    pub has : has_extension t (x_on pin) (q_if of_q) ≡ true
    pub path : has_read_path t (x_on pin) (q_if of_q) ≡ true

  carried : (x : Carry) (pin : ℕ) → IsAmong t.pairs x → pin_carried t x ≡ pin → is_some (position (λ (p : ℕ). p == pin) (pair_pins t)) ≡ true
  carried x pin among same =
      found_some (λ (p : ℕ). p == pin) (pair_pins t)
      (any_mapped (pin_carried t) (λ (p : ℕ). p == pin) t.pairs ∙ among (λ (y : Carry). pin_carried t y == pin) (eq-eqb (pin_carried t x) pin same))

  may_be_read : (x : Carry) (pin : ℕ) → IsDeclared t fuses laws pin → IsAmong t.pairs x → pin_carried t x ≡ pin → is_read_pin t pin ≡ true
  may_be_read x pin dec among same =
      and_from (is_some (position (λ (p : ℕ). p == pin) (pair_pins t))) (not (pin == t.power_down)) (carried x pin among same)
      (ap not (is_spared t fuses laws spares pin dec))

  -- by the kind of its name, a combinational signal is read as its level, and a register as its Q
  level_read : (pin : ℕ) → IsDeclared t fuses laws pin → is_stored (x_on pin) ≡ false → carries_level t (x_on pin) pin ≡ true → IsReadable pin false
  level_read pin dec plain carries = record {
    has = ap (λ (k : Kind). has_by t (is_stored (x_on pin)) k None) (kind_is t fuses laws m is pin dec) ∙ ap (λ (b : Bool). has_by t b (APin pin false) None) plain;
    path = ap (λ (k : Kind). reads_by t (x_on pin) (is_stored (x_on pin)) k None) (kind_is t fuses laws m is pin dec)
        ∙ ap (λ (b : Bool). reads_by t (x_on pin) b (APin pin false) None) plain ∙ carries;
  }

  q_read : (pin : ℕ) → IsDeclared t fuses laws pin → is_stored (x_on pin) ≡ true → carries_q t (cell_on t pin) ≡ true → IsReadable pin true
  q_read pin dec stored carries = record {
    has = ap (λ (k : Kind). has_by t (is_stored (x_on pin)) k (Some extension.Q)) (kind_is t fuses laws m is pin dec)
        ∙ ap (λ (b : Bool). has_by t b (APin pin false) (Some extension.Q)) stored;
    path = ap (λ (k : Kind). reads_by t (x_on pin) (is_stored (x_on pin)) k (Some extension.Q)) (kind_is t fuses laws m is pin dec)
        ∙ ap (λ (b : Bool). reads_by t (x_on pin) b (APin pin false) (Some extension.Q)) stored ∙ carries;
  }

  -- the cell on a pin may be combinational
  may_be_plain : (k : Kinds) (chosen : Bool) → stores_by k chosen ≡ false → must_register k ≡ false
  may_be_plain Combinational chosen plain = refl
  may_be_plain Registered chosen plain = absurd (true≢false plain)
  may_be_plain Either chosen plain = refl

  abbrev must_on : ℕ → Cell → Bool
  must_on pin c = (c.pin == pin) && must_register c.kinds

  no_must : (pin : ℕ) → ((i : ℕ) → i < length t.cells → (cell_at t i).pin ≡ pin → stores t fuses i ≡ false) → list_any (must_on pin) t.cells ≡ false
  no_must pin plain = none_at (must_on pin) t.cells no_cell none
    where
      none : (i : ℕ) → i < length t.cells → must_on pin (cell_at t i) ≡ false
      none i within = elim (cases_Bool ((cell_at t i).pin == pin)) [
        | inl here ↦
            and_right ((cell_at t i).pin == pin) (must_register (cell_at t i).kinds)
            (may_be_plain (cell_at t i).kinds (says fuses (registered_at t i)) (plain i within (eqb-true (cell_at t i).pin pin here)))
        | inr other ↦ rw other refl
      ]

  level_carried : (x : Carry) (pin : ℕ) → IsDeclared t fuses laws pin → IsAmong t.pairs x → pin_carried t x ≡ pin
      → ((i : ℕ) → i < length t.cells → (cell_at t i).pin ≡ pin → stores t fuses i ≡ false) → carries_level t (x_on pin) pin ≡ true
  level_carried x pin dec among same plain =
      and_from (is_read_pin t pin) ((x_on pin).assigned || not (list_any (must_on pin) t.cells)) (may_be_read x pin dec among same)
      (or_right (x_on pin).assigned (not (list_any (must_on pin) t.cells)) (ap not (no_must pin plain)))

  pair_readable : (higher : Bool) (x : Carry) → IsDevicePair t fuses x → IsDeclared t fuses laws (named_by t fuses higher x).pin
      → IsReadable (named_by t fuses higher x).pin (named_by t fuses higher x).of_q
  pair_readable higher (carry.Pin pin) of dec =
      level_read pin dec (free_plain t fuses laws m is pin dec none) (level_carried (carry.Pin pin) pin dec of.among refl (λ i within same. absurd (none i within same)))
    where
      none : HasNoCell t fuses laws m is pin
      none c within same = of.law.1 c no_cell within same
  pair_readable higher (carry.Cell c) of dec = by_kind (stores t fuses c) refl
    where
      x_stored : is_stored (x_on (cell_at t c).pin) ≡ stores t fuses c
      x_stored = (cell_name t fuses laws m is c of.law dec).stored

      by_kind : (b : Bool) → stores t fuses c ≡ b → IsReadable (cell_at t c).pin b
      by_kind true e =
          q_read (cell_at t c).pin dec (x_stored ∙ e)
          (
          ap (carries_q t) (cell_here t laws c of.law)
          ∙ found_some (carries_cell c) t.pairs (of.among (carries_cell c) (eq-eqb c c refl))
          )
      by_kind false e =
          level_read (cell_at t c).pin dec (x_stored ∙ e)
          (
          level_carried (carry.Cell c) (cell_at t c).pin dec of.among refl
          (λ i within same. ap (stores t fuses) ((own_pins t laws).apart i c within of.law same) ∙ e)
          )

  -- ---- uses

  -- a literal of a declared pin that is readable
  pub record IsReadLiteral (l : PinLiteral) : Type 0 where
    pub known : term_named d.context.known (name_text l.pin) ≡ Read (signal_of t fuses l.pin) None
    pub readable : IsReadable l.pin l.of_q

  literal_read : (l : PinLiteral) → IsColumn t fuses l → IsDeclared t fuses laws l.pin → IsReadLiteral l
  literal_read l of dec = record {
    known = known_is t fuses laws m is l.pin dec;
    readable = subst (λ (k : PinLiteral). IsReadable k.pin k.of_q) (sym of.is)
        (pair_readable of.higher of.pair of.of (subst (λ (k : PinLiteral). IsDeclared t fuses laws k.pin) of.is dec));
  }

  literals_read : (ps : List (List PinLiteral)) → AllByRecursion (AllByRecursion (IsColumn t fuses)) ps → AllByRecursion (AllByRecursion (IsDeclaredLiteral t fuses laws)) ps
      → AllByRecursion (AllByRecursion IsReadLiteral) ps
  literals_read [] columns declared = tt
  literals_read (p ∷ ps) columns declared = (product p columns.0 declared.0, literals_read ps columns.1 declared.1)
    where
      product : (p : List PinLiteral) → AllByRecursion (IsColumn t fuses) p → AllByRecursion (IsDeclaredLiteral t fuses laws) p → AllByRecursion IsReadLiteral p
      product [] columns declared = tt
      product (l ∷ ls) columns declared = (literal_read l columns.0 declared.0.1, product ls columns.1 declared.1)

  -- none of them is refused
  pub record AreFollowed (us : List PlacedUse) : Type 0 where
    pub missing : filter (is_missing d.context) us ≡ []
    pub unread : filter (is_unread d.context) us ≡ []

  -- a signal that is read has what is asked of it, and a column
  pub record IsFollowed (u : SignalUse) : Type 0 where
    pub has : has_extension t (name_at d.context u.signal) u.extension ≡ true
    pub path : has_read_path t (name_at d.context u.signal) u.extension ≡ true

  abbrev EachFollowed : List PlacedUse → Type 0
  EachFollowed us = AllByRecursion (λ (u : PlacedUse). IsFollowed u.read) us

  all_followed : (us : List PlacedUse) → EachFollowed us → AreFollowed us
  all_followed [] each = record { missing = refl; unread = refl }
  all_followed (u ∷ us) each =
      let found : is_missing d.context u ≡ false = ap not each.0.has in
      let followed : is_unread d.context u ≡ false = and_right (not (is_missing d.context u)) (not (has_read_path t (name_at d.context u.read.signal) u.read.extension)) (ap not each.0.path) in
      let rest = all_followed us each.1 in
      record { missing = rw found rest.missing; unread = rw followed rest.unread }

  each_read : (us : List PlacedUse) → AllByRecursion IsFollowed (map (λ (u : PlacedUse). u.read) us) → EachFollowed us
  each_read [] each = tt
  each_read (u ∷ us) each = (each.0, each_read us each.1)

  extended_read : (e : Option Extension) (s : ℕ) → extended_if e (Read s None) ≡ Read s e
  extended_read None s = refl
  extended_read (Some e) s = refl

  -- what an expression reads
  abbrev tree_uses : Tree → List SignalUse
  tree_uses tree = term_uses (term_of d.context.known tree)

  use_steps : HoldsBySteps IsReadLiteral (λ (tree : Tree). AllByRecursion IsFollowed (tree_uses tree))
  use_steps = record {
    number = λ n p low. tt;
    name = λ l p of.
        subst (λ (u : Term). AllByRecursion IsFollowed (term_uses u)) (sym (ap (extended_if (q_if l.of_q)) of.known ∙ extended_read (q_if l.of_q) (signal_of t fuses l.pin)))
        (record { has = of.readable.has; path = of.readable.path }, tt);
    complement = λ p tree here. here;
    both = λ p left right here there. each_append IsFollowed (tree_uses left) (tree_uses right) here there;
    either = λ p left right here there. each_append IsFollowed (tree_uses left) (tree_uses right) here there;
  }

  abbrev uses_in : List PartTree → List PlacedUse
  uses_in ps = flat_map (part_uses d.context) ps

  line_followed : (l : SumLine) (s : Statement) → IsGoodLine t fuses laws m is l → IsLine l s → EachFollowed (uses_in (parts_in_statement s))
  line_followed l s good line =
      subst (λ (x : Statement). EachFollowed (uses_in (parts_in_statement x))) (sym line.is)
      (unless (is_compared d.context line.target))
    where
      each : AllByRecursion IsFollowed (tree_uses line.value)
      each =
          sum_holds IsReadLiteral (λ (tree : Tree). AllByRecursion IsFollowed (tree_uses tree)) use_steps l.products line.value
          (literals_read l.products (line_columns t fuses laws l good.0) good.1.literals) line.sum

      unless : (b : Bool) → EachFollowed ((if not b then located d.context.known line.value else []) ++ [])
      unless true = tt
      unless false =
          each_append (λ (u : PlacedUse). IsFollowed u.read) (located d.context.known line.value) []
          (each_read (located d.context.known line.value) (subst (AllByRecursion IsFollowed) (sym (uses_read d.context line.value)) each)) tt

  lines_followed : (ls : List SumLine) (ss : List Statement) → AreLines ls ss → AllByRecursion (IsGoodLine t fuses laws m is) ls → EachFollowed (uses_in (flat_map parts_in_statement ss))
  lines_followed [] ss are good = subst (λ (xs : List Statement). EachFollowed (uses_in (flat_map parts_in_statement xs))) (sym are) tt
  lines_followed (l ∷ ls) ss are good =
      let first = parts_in_statement are.0 in
      let rest = flat_map parts_in_statement are.1 in
      subst (λ (xs : List Statement). EachFollowed (uses_in (flat_map parts_in_statement xs))) (sym are.4)
      (subst EachFollowed (sym (flat_map-append (part_uses d.context) first rest))
      (each_append (λ (u : PlacedUse). IsFollowed u.read) (uses_in first) (uses_in rest) (line_followed l are.0 good.0 are.2) (lines_followed ls are.1 are.3 good.1)))

  -- ---- equations that are compared

  line_written : (l : SumLine) (s : Statement) → IsGoodLine t fuses laws m is l → IsLine l s → statement_refused d.context false s ≡ []
  line_written l s good line =
      ap (statement_refused d.context false) line.is
      ∙ ap (λ (e : Option Extension). aims_refused d.context e written 0 (narrow (left_side d.context line.place line.target).aims)) (ap target_extension line.named.1)
      ∙ ap (λ (f : TargetFound). aims_refused d.context l.extension written 0 (narrow f.aims)) (aimed t fuses laws m is l good line.place line.target line.named).equals
      ∙ (rw (and_right (not (is_written_at written 0)) (is_compared_of t l.extension (x_on l.pin)) (not_compared t fuses laws m is l good)) refl)
    where
      written : Written
      written = written_if false (term_of d.context.known line.value)

  lines_written : (ls : List SumLine) (ss : List Statement) → AreLines ls ss → AllByRecursion (IsGoodLine t fuses laws m is) ls → statements_refused d.context false (statements_of ss) ≡ []
  lines_written [] ss are good = ap (λ (xs : List Statement). statements_refused d.context false (statements_of xs)) are
  lines_written (l ∷ ls) ss are good =
      ap (λ (xs : List Statement). statements_refused d.context false (statements_of xs)) are.4
      ∙ ap (λ (rs : List RefusedUse). rs ++ statements_refused d.context false (statements_of are.1)) (line_written l are.0 good.0 are.2)
      ∙ lines_written ls are.1 are.3 good.1

  -- ---- the whole design

  module _ (good : AllByRecursion (IsGoodLine t fuses laws m is) (lines_of t fuses)) where
    sections_are : d.sections ≡ Equations is.lines ∷ []
    sections_are = ap (λ (y : ModuleTree). y.sections) is.is

    uses_are : design_uses d ≡ uses_in (flat_map parts_in_statement is.lines)
    uses_are = ap (λ (xs : List SectionTree). uses_in (flat_map parts_in_section xs)) sections_are ∙ ap uses_in (append-nil (flat_map parts_in_statement is.lines))

    followed : AreFollowed (design_uses d)
    followed = all_followed (design_uses d) (subst EachFollowed (sym uses_are) (lines_followed (lines_of t fuses) is.lines is.are_lines good))

    pub none_missing : missing_uses d ≡ []
    none_missing = followed.missing

    pub none_unread : unread_uses d ≡ []
    none_unread = followed.unread

    pub all_written : unwritten d ≡ []
    all_written =
        ap (sections_refused d.context) sections_are ∙ append-nil (statements_refused d.context false (statements_of is.lines))
        ∙ lines_written (lines_of t fuses) is.lines is.are_lines good
