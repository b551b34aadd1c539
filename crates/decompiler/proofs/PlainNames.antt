-- The names of a decompiled source: none is a constant, and a pin's name is found as a signal.
use Rattle.std.proofs.Common.{◌≡◌, ℕ, suc, inl, inr, Bool, true, false, if◌then◌else◌, Some, None, List, [], ◌∷◌, ◌++◌, map, get_or, unwrap_or, refl, sym, ap, subst, ◌∙◌, append-nil, append_assoc, bytes_eq}
use Rattle.decompiler.proofs.Common.{AllByRecursion, Place, IsDevice, Table, Kind, APin, ANode, AConstant, ADeviceName, Entry, ModuleTree, no_name, names_of, Term, Known, known_after, term_meant, term_named, SectionFault, NameFound, constants_refused, found_after, found_entry, found_kind, found_refusals, found_use, found_value, at_name, is_pulse_kind, name_found, names_found, nothing_found, one_position, refused_there, MisplacedSpecial, Found, name_text, IsSourceTree, source_of, signal_of, IsDeclared, IsNameAt, known_is, names_at}
use Rattle.abel_meaning.specs.Terms.{Number, Read}
use Rattle.set_expr.specs.FoundNames.{named}

-- a pin or the device's name
abbrev pub IsPlainKind : Kind → Type 0
IsPlainKind (APin pin negated) = Unit {0}
IsPlainKind (ANode number) = ⊥
IsPlainKind (AConstant value) = ⊥
IsPlainKind ADeviceName = Unit {0}

abbrev pub IsPlain : Entry → Type 0
IsPlain e = IsPlainKind e.kind

abbrev pub ArePlain : List Entry → Type 0
ArePlain es = AllByRecursion IsPlain es

-- ---- what is found of plain names

kind_alone : (ns : List NameFound) (k : Kind) → IsPlainKind k → found_kind ns k ≡ found_kind [] k
kind_alone ns (APin pin negated) plain = refl
kind_alone ns (ANode number) plain = absurd plain
kind_alone ns (AConstant value) plain = absurd plain
kind_alone ns ADeviceName plain = refl

abbrev alone : Entry → NameFound
alone e = found_entry [] e

entry_alone : (ns : List NameFound) (e : Entry) → IsPlain e → found_entry ns e ≡ alone e
entry_alone ns e plain = ap (λ (f : Found). record { name = e.name; found = f; is_pulse = is_pulse_kind e.kind }) (kind_alone ns e.kind plain)

found_plain : (ns : List NameFound) (es : List Entry) → ArePlain es → found_after ns es ≡ ns ++ map alone es
found_plain ns [] plain = sym (append-nil ns)
found_plain ns (e ∷ es) plain =
    ap (λ (n : NameFound). found_after (ns ++ n ∷ []) es) (entry_alone ns e plain.0)
    ∙ found_plain (ns ++ alone e ∷ []) es plain.1
    ∙ append_assoc ns (alone e ∷ []) (map alone es)

kind_unrefused : (k : Kind) → IsPlainKind k → (found_kind [] k).refusals ≡ []
kind_unrefused (APin pin negated) plain = refl
kind_unrefused (ANode number) plain = absurd plain
kind_unrefused (AConstant value) plain = absurd plain
kind_unrefused ADeviceName plain = refl

entries_unrefused : (es : List Entry) → ArePlain es → found_refusals (map alone es) ≡ []
entries_unrefused [] plain = refl
entries_unrefused (e ∷ es) plain =
    ap (λ (rs : List SectionFault). rs ++ found_refusals (map alone es)) (kind_unrefused e.kind plain.0) ∙ entries_unrefused es plain.1

-- ---- what is known of plain names

abbrev pub knowns : ℕ → List Entry → List Known
knowns s [] = []
knowns s (e ∷ es) = record { name = e.name; term = term_meant [] s e.kind } ∷ knowns (suc s) es

term_alone : (known : List Known) (s : ℕ) (k : Kind) → IsPlainKind k → term_meant known s k ≡ term_meant [] s k
term_alone known s (APin pin negated) plain = refl
term_alone known s (ANode number) plain = absurd plain
term_alone known s (AConstant value) plain = absurd plain
term_alone known s ADeviceName plain = refl

pub known_plain : (known : List Known) (s : ℕ) (es : List Entry) → ArePlain es → known_after known s es ≡ known ++ knowns s es
known_plain known s [] plain = sym (append-nil known)
known_plain known s (e ∷ es) plain =
    ap (λ (u : Term). known_after (known ++ record { name = e.name; term = u } ∷ []) (suc s) es) (term_alone known s e.kind plain.0)
    ∙ known_plain (known ++ record { name = e.name; term = term_meant [] s e.kind } ∷ []) (suc s) es plain.1
    ∙ append_assoc known (record { name = e.name; term = term_meant [] s e.kind } ∷ []) (knowns (suc s) es)

-- ---- signals

-- found as a signal is
pub record IsSignalFound (n : NameFound) : Type 0 where
  pub found : n.found ≡ found_value (one_position false)
  pub level : n.is_pulse ≡ false

number_read : (n k : ℕ) → Number n ≡ Read k None → ⊥
number_read n k e = cc

kind_signal : (s k : ℕ) (name : List ℕ) (kind : Kind) → IsPlainKind kind → term_meant [] s kind ≡ Read k None
    → IsSignalFound (record { name = name; found = found_kind [] kind; is_pulse = is_pulse_kind kind })
kind_signal s k name (APin pin negated) plain read = record { found = refl; level = refl }
kind_signal s k name (ANode number) plain read = absurd plain
kind_signal s k name (AConstant value) plain read = absurd plain
kind_signal s k name ADeviceName plain read = absurd (number_read 0 k read)

-- a name that represents a signal is found as one
signal_named : (s k : ℕ) (es : List Entry) (name : List ℕ) → ArePlain es → term_named (knowns s es) name ≡ Read k None → IsSignalFound (name_found (map alone es) name)
signal_named s k [] name plain read = absurd (number_read 0 k read)
signal_named s k (e ∷ es) name plain read = by_test (bytes_eq name e.name) refl (λ later. signal_named (suc s) k es name plain.1 later)
  where
    first_or_later : Bool → NameFound
    first_or_later b = unwrap_or (if b then Some (alone e) else named (map alone es) name) nothing_found

    term_by : Bool → Term
    term_by b = if b then term_meant [] s e.kind else term_named (knowns (suc s) es) name

    by_test : (b : Bool) → bytes_eq name e.name ≡ b → (term_named (knowns (suc s) es) name ≡ Read k None → IsSignalFound (name_found (map alone es) name))
        → IsSignalFound (first_or_later (bytes_eq name e.name))
    by_test true hit later =
        subst (λ (b : Bool). IsSignalFound (first_or_later b)) (sym hit)
        (kind_signal s k e.name e.kind plain.0 (ap term_by (sym hit) ∙ read))
    by_test false miss later =
        subst (λ (b : Bool). IsSignalFound (first_or_later b)) (sym miss)
        (later (ap term_by (sym miss) ∙ read))

-- its use
pub use_found : (p : Place) (n : NameFound) → IsSignalFound n → found_use p n ≡ found_value (one_position false)
use_found p n is =
    ap (λ (b : Bool). if b then refused_there (MisplacedSpecial p) else record n.found { specials = at_name p n.found.specials }) is.level
    ∙ ap (λ (f : Found). record f { specials = at_name p f.specials }) is.found

-- ---- the names of a decompiled source

each_given : {A : Type 0} (P : A → Type 0) (xs : List A) (d : A) → ((i : ℕ) → P (get_or xs i d)) → AllByRecursion P xs
each_given P [] d holds = tt
each_given P (x ∷ xs) d holds = (holds 0, each_given P xs d (λ i. holds (suc i)))

module _ (t : Table) (fuses : List Bool) (laws : IsDevice t) (m : ModuleTree) (is : IsSourceTree (source_of t fuses) m) where
  abbrev names : List Entry
  names = names_of t m

  pub names_plain : ArePlain names
  names_plain = each_given IsPlain names no_name plain_at
    where
      plain_at : (i : ℕ) → IsPlain (get_or names i no_name)
      plain_at i = by_name (names_at t fuses laws m is i)
        where
          by_name : IsNameAt t fuses laws m is i → IsPlain (get_or names i no_name)
          by_name (inl device) = subst IsPlainKind (sym device.0) tt
          by_name (inr pin) = subst IsPlainKind (sym pin.4) tt

  pub constants_unrefused : constants_refused names ≡ []
  constants_unrefused = ap found_refusals (found_plain [] names names_plain) ∙ entries_unrefused names names_plain

  pub pin_found : (pin : ℕ) → IsDeclared t fuses laws pin → IsSignalFound (name_found (names_found names) (name_text pin))
  pin_found pin dec =
      subst (λ (ns : List NameFound). IsSignalFound (name_found ns (name_text pin))) (sym (found_plain [] names names_plain))
      (
      signal_named 0 (signal_of t fuses pin) names (name_text pin) names_plain
      (ap (λ (ks : List Known). term_named ks (name_text pin)) (sym (known_plain [] 0 names names_plain)) ∙ known_is t fuses laws m is pin dec)
      )
