-- Which signals a decompiled source reads: none whose pin no pair of columns carries.
use Rattle.std.proofs.Common.{◌≡◌, ℕ, suc, inl, inr, Bool, true, false, Option, Some, None, List, [], ◌∷◌, ◌++◌, refl, sym, ap, ◌∙◌, append-nil, append_assoc, bytes_eq, eq-eqb, eqb-true, ◌==◌, position}
use Rattle.decompiler.proofs.Common.{AllByRecursion, cases_Bool, flat_map, flat_map-append, list_any, or_from, true≢false, Carry, pin_carried, IsDevice, Table, Entry, Kind, APin, ANode, AConstant, ADeviceName, Tree, Statement, ModuleTree, Known, ReadTerm, term_meant, term_named, is_on_pin, names_of, no_name, IsDeclared, IsDeclaredLine, IsDeclaredLiteral, lines_declared, known_is, own_signal, PinLiteral, SumLine, AreLines, IsLine, IsSourceTree, lines_of, name_text, named_by, source_of, signal_of}
use Rattle.std.proofs.lemmas.List.Folds.{list_any-append}
use Rattle.std.proofs.lemmas.List.Quantifiers.{position-Some}
use Rattle.pld_device.specs.declared.carry.Carry.TheVariants as carry
use Rattle.abel_tree.specs.Assigned.{Named, signals_of_name}
use Rattle.abel_meaning.specs.Held.{Part, list_parts, statement_parts}
use Rattle.abel_meaning.specs.Models.{is_read_at}
use Rattle.abel_tree.specs.ExpressionUses.{uses}
use Rattle.abel_meaning.specs.Reads.{is_read, read_after, read_names_of, reads, signals_in, signals_used, stands_for}
use Rattle.decompiler.proofs.EachTree.{HoldsBySteps, sum_holds}
use Rattle.decompiler.proofs.OwnLines.{IsOwnLine, own_lines}
use Rattle.decompiler.proofs.PairColumns.{IsColumn, line_columns}
use Rattle.decompiler.proofs.PinEntries.{name_of_pin}
use Rattle.decompiler.proofs.PlainNames.{ArePlain, IsPlainKind, known_plain, knowns, names_plain}

-- ---- plain names

-- the signals of plain names, the first of which has this number
abbrev signals_from : ℕ → List Entry → List Named
signals_from s [] = []
signals_from s (e ∷ es) = record { name = e.name; signals = stands_for [] s e.kind } ∷ signals_from (suc s) es

kind_alone : (ks : List Named) (s : ℕ) (k : Kind) → IsPlainKind k → stands_for ks s k ≡ stands_for [] s k
kind_alone ks s (APin pin negated) plain = refl
kind_alone ks s (ANode number) plain = absurd plain
kind_alone ks s (AConstant value) plain = absurd plain
kind_alone ks s ADeviceName plain = refl

read_plain : (ks : List Named) (s : ℕ) (es : List Entry) → ArePlain es → read_after ks s es ≡ ks ++ signals_from s es
read_plain ks s [] plain = sym (append-nil ks)
read_plain ks s (e ∷ es) plain =
    ap (λ (n : List ℕ). read_after (ks ++ record { name = e.name; signals = n } ∷ []) (suc s) es) (kind_alone ks s e.kind plain.0)
    ∙ read_plain (ks ++ record { name = e.name; signals = stands_for [] s e.kind } ∷ []) (suc s) es plain.1
    ∙ append_assoc ks (record { name = e.name; signals = stands_for [] s e.kind } ∷ []) (signals_from (suc s) es)

-- a name that represents a signal has the signal's number
kind_reads : (s k : ℕ) (kind : Kind) → IsPlainKind kind → term_meant [] s kind ≡ ReadTerm k None → stands_for [] s kind ≡ k ∷ []
kind_reads s k (APin pin negated) plain read = ap (λ (n : ℕ). n ∷ []) (same read)
  where
    same : ReadTerm s None ≡ ReadTerm k None → s ≡ k
    same e = cc
kind_reads s k (ANode number) plain read = absurd plain
kind_reads s k (AConstant value) plain read = absurd plain
kind_reads s k ADeviceName plain read = absurd cc

name_reads : (s k : ℕ) (es : List Entry) (name : List ℕ) → ArePlain es → term_named (knowns s es) name ≡ ReadTerm k None → signals_of_name (signals_from s es) name ≡ k ∷ []
name_reads s k [] name plain read = absurd cc
name_reads s k (e ∷ es) name plain read = by_test (bytes_eq name e.name) refl (λ later. name_reads (suc s) k es name plain.1 later)
  where
    by_test : (b : Bool) → bytes_eq name e.name ≡ b → (term_named (knowns (suc s) es) name ≡ ReadTerm k None → signals_of_name (signals_from (suc s) es) name ≡ k ∷ [])
        → signals_of_name (signals_from s (e ∷ es)) name ≡ k ∷ []
    by_test true hit later = rw hit (kind_reads s k e.kind plain.0 (rw hit at read))
    by_test false miss later = rw miss (later (rw miss at read))

-- ---- what is read

module _ (t : Table) (fuses : List Bool) (laws : IsDevice t) (m : ModuleTree) (is : IsSourceTree (source_of t fuses) m) where
  abbrev es : List Entry
  es = names_of t m

  signals_known : (pin : ℕ) → IsDeclared t fuses laws pin → signals_of_name (read_names_of es) (name_text pin) ≡ signal_of t fuses pin ∷ []
  signals_known pin dec =
      let plain = names_plain t fuses laws m is in
      ap (λ (ks : List Named). signals_of_name ks (name_text pin)) (read_plain [] 0 es plain)
      ∙ name_reads 0 (signal_of t fuses pin) es (name_text pin) plain (ap (λ (ks : List Known). term_named ks (name_text pin)) (sym (known_plain [] 0 es plain)) ∙ known_is t fuses laws m is pin dec)

  pair_pin : (higher : Bool) (x : Carry) → (named_by t fuses higher x).pin ≡ pin_carried t x
  pair_pin higher (carry.Pin pin) = refl
  pair_pin higher (carry.Cell c) = refl

  module _ (pin : ℕ) (dec : IsDeclared t fuses laws pin) (uncarried : list_any (λ (x : Carry). pin_carried t x == pin) t.pairs ≡ false) where
    abbrev s : ℕ
    s = signal_of t fuses pin

    -- a literal of another pin
    pub record IsOther (l : PinLiteral) : Type 0 where
      pub declared : IsDeclared t fuses laws l.pin
      pub apart : (l.pin == pin) ≡ false

    other : (l : PinLiteral) → IsColumn t fuses l → IsDeclared t fuses laws l.pin → IsOther l
    other l of l_dec = record {
      declared = l_dec;
      apart = elim (cases_Bool (l.pin == pin)) [
        | inl same ↦
            let carried : (pin_carried t of.pair == pin) ≡ true = ap (λ (p : ℕ). p == pin) (sym (pair_pin of.higher of.pair) ∙ ap (λ (k : PinLiteral). k.pin) (sym of.is)) ∙ same in
            absurd (true≢false (sym (of.of.among (λ (x : Carry). pin_carried t x == pin) carried) ∙ uncarried))
        | inr apart ↦ apart
      ];
    }

    others : (ps : List (List PinLiteral)) → AllByRecursion (AllByRecursion (IsColumn t fuses)) ps → AllByRecursion (AllByRecursion (IsDeclaredLiteral t fuses laws)) ps
        → AllByRecursion (AllByRecursion IsOther) ps
    others [] columns declared = tt
    others (p ∷ ps) columns declared = (product p columns.0 declared.0, others ps columns.1 declared.1)
      where
        product : (p : List PinLiteral) → AllByRecursion (IsColumn t fuses) p → AllByRecursion (IsDeclaredLiteral t fuses laws) p → AllByRecursion IsOther p
        product [] columns declared = tt
        product (l ∷ ls) columns declared = (other l columns.0 declared.0.1, product ls columns.1 declared.1)

    abbrev reads_it : Tree → Bool
    reads_it tree = list_any (λ (n : ℕ). n == s) (signals_in (read_names_of es) tree)

    apart_signals : (l : PinLiteral) → IsOther l → (signal_of t fuses l.pin == s) ≡ false
    apart_signals l of = elim (cases_Bool (signal_of t fuses l.pin == s)) [
      | inl same ↦ absurd (true≢false (sym (eq-eqb l.pin pin (own_signal t fuses laws pin l.pin dec (eqb-true (signal_of t fuses l.pin) s same))) ∙ of.apart))
      | inr apart ↦ apart
    ]

    joined : (x y : Tree) → reads_it x ≡ false → reads_it y ≡ false → list_any (λ (n : ℕ). n == s) (flat_map (signals_used (read_names_of es)) (uses x ++ uses y)) ≡ false
    joined x y here there =
        ap (list_any (λ (n : ℕ). n == s)) (flat_map-append (signals_used (read_names_of es)) (uses x) (uses y))
        ∙ list_any-append (λ (n : ℕ). n == s) (signals_in (read_names_of es) x) (signals_in (read_names_of es) y)
        ∙ or_from (reads_it x) (reads_it y) here there

    tree_steps : HoldsBySteps IsOther (λ (tree : Tree). reads_it tree ≡ false)
    tree_steps = record {
      number = λ n p low. refl;
      name = λ l p of.
          ap (λ (ns : List ℕ). list_any (λ (n : ℕ). n == s) (ns ++ [])) (signals_known l.pin of.declared)
          ∙ or_from (signal_of t fuses l.pin == s) false (apart_signals l of) refl;
      complement = λ p x here. here;
      both = λ p x y here there. joined x y here there;
      either = λ p x y here there. joined x y here there;
    }

    abbrev reads_part : Part → Bool
    reads_part p = reads (read_names_of es) s p

    line_quiet : (l : SumLine) (st : Statement) → IsOwnLine t fuses l → IsDeclaredLine t fuses laws l → IsLine l st → list_any reads_part (statement_parts st) ≡ false
    line_quiet l st own declared line =
        ap (λ (x : Statement). list_any reads_part (statement_parts x)) line.is
        ∙ or_from (reads_it line.value) false
        (sum_holds IsOther (λ (tree : Tree). reads_it tree ≡ false) tree_steps l.products line.value (others l.products (line_columns t fuses laws l own) declared.literals) line.sum) refl

    lines_quiet : (ls : List SumLine) (ss : List Statement) → AreLines ls ss → AllByRecursion (IsOwnLine t fuses) ls → AllByRecursion (IsDeclaredLine t fuses laws) ls
        → list_any reads_part (list_parts ss) ≡ false
    lines_quiet [] ss are own declared = ap (λ (xs : List Statement). list_any reads_part (list_parts xs)) are
    lines_quiet (l ∷ ls) ss are own declared =
        ap (λ (xs : List Statement). list_any reads_part (list_parts xs)) are.4
        ∙ list_any-append reads_part (statement_parts are.0) (list_parts are.1)
        ∙ or_from (list_any reads_part (statement_parts are.0)) (list_any reads_part (list_parts are.1)) (line_quiet l are.0 own.0 declared.0 are.2)
        (lines_quiet ls are.1 are.3 own.1 declared.1)

    unread : is_read es m.sections s ≡ false
    unread =
        ap (λ (x : ModuleTree). is_read es x.sections s) is.is
        ∙ ap (list_any reads_part) (append-nil (list_parts is.lines))
        ∙ lines_quiet (lines_of t fuses) is.lines is.are_lines (own_lines t fuses laws) (lines_declared t fuses laws)

  -- the signal that may be on such a pin isn't read
  pub unread_at : (pin : ℕ) → list_any (λ (x : Carry). pin_carried t x == pin) t.pairs ≡ false
      → is_read_at es m.sections (position (λ (x : Entry). is_on_pin pin x.kind) es) ≡ false
  unread_at pin uncarried = by_found (position (λ (x : Entry). is_on_pin pin x.kind) es) refl
    where
      by_found : (o : Option ℕ) → position (λ (x : Entry). is_on_pin pin x.kind) es ≡ o → is_read_at es m.sections (position (λ (x : Entry). is_on_pin pin x.kind) es) ≡ false
      by_found None e = ap (is_read_at es m.sections) e
      by_found (Some j) e =
          let of = name_of_pin t fuses laws m is j pin (position-Some (λ (x : Entry). is_on_pin pin x.kind) es j no_name e).1 in
          ap (is_read_at es m.sections) e ∙ ap (is_read es m.sections) of.at ∙ unread pin of.declared uncarried
