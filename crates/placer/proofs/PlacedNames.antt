-- Names, and the same names with their pins: what refusals ask of both.
use Rattle.std.proofs.Common.{◌≡◌, ◌⊎◌, ℕ, ◌≤◌, ◌==◌, Bool, true, false, not, ◌||◌, Option, None, Some, List, [], ◌∷◌, ◌++◌, filter, if◌then◌else◌, refl, sym, ap, ap₂, ◌∙◌, arith, inl, inr, eqb-true, is_some, unwrap_or, bytes_eq}
use Rattle.placer.proofs.Common.{true≢false, or_cases, or_right, Place, Kind, APin, ANode, AConstant, ADeviceName, Words, Entry, kind_of, is_signal, is_value, passes, names_any, ends_agree, names_between, Use, OneName, Range, GivenName, is_unnumbered, node_count, is_on_pin, is_taken, words_named, words_of_names, first_undeclared, use_refused, uses_refused, same_bytes, count_append, Pinned}
use Rattle.std.proofs.lemmas.Slice.Eq.{bytes_eq-Decides}
use Rattle.decls.specs.declared.fault.NameFault.TheVariants as fault

-- ---- one name

-- the number that it is given, if it has none
abbrev pub given : Option ℕ → (pin : ℕ) → ℕ
given p pin = if pin == 0 then unwrap_or p 0 else pin

-- what it is declared as: a node that becomes no pin may have a lower number
abbrev pub IsPlacedKind : (pin node : Option ℕ) → (old new : Kind) → Type 0
IsPlacedKind p n (APin pin negated) new = new ≡ APin (given p pin) negated
IsPlacedKind p None (ANode i) new = (j : ℕ) × ((j ≤ i) × (new ≡ ANode j))
IsPlacedKind p (Some q) (ANode i) new = new ≡ APin q false
IsPlacedKind p n (AConstant value) new = new ≡ AConstant value
IsPlacedKind p n ADeviceName new = new ≡ ADeviceName

-- the words of a pin that was a node
abbrev pub register_words : (dc : Bool) → Words
register_words dc = record { combinational = false; registered = true; buffer = true; invert = false; dc = dc }

abbrev pub placed_words : Option ℕ → (dc : Bool) → Words → Words
placed_words None dc w = w
placed_words (Some q) dc w = register_words dc

module _ (pins nodes : Pinned) (dc : List ℕ → Bool) where
  pub record IsPlacedName (e f : Entry) : Type 0 where
    pub name : f.name ≡ e.name
    pub place : f.place ≡ e.place
    pub kind : IsPlacedKind (pins e.name) (nodes e.name) e.kind f.kind
    pub numbered : is_unnumbered f.kind ≡ false
    pub words : f.words ≡ placed_words (nodes e.name) (dc e.name) e.words

  abbrev pub ArePlaced : (es fs : List Entry) → Type 0
  ArePlaced [] [] = Unit {0}
  ArePlaced [] (f ∷ fs) = ⊥
  ArePlaced (e ∷ es) [] = ⊥
  ArePlaced (e ∷ es) (f ∷ fs) = IsPlacedName e f × ArePlaced es fs

  pub placed_push : (es fs : List Entry) (e f : Entry) → ArePlaced es fs → IsPlacedName e f → ArePlaced (es ++ e ∷ []) (fs ++ f ∷ [])
  placed_push [] [] e f are one = (one, tt)
  placed_push [] (g ∷ fs) e f are one = absurd are
  placed_push (d ∷ es) [] e f are one = absurd are
  placed_push (d ∷ es) (g ∷ fs) e f are one = (are.0, placed_push es fs e f are.1 one)

  -- ---- which names are known, and as what

  pub kind_signal : (p n : Option ℕ) (k l : Kind) → IsPlacedKind p n k l → is_signal l ≡ is_signal k
  kind_signal p n (APin pin negated) l is = ap is_signal is
  kind_signal p None (ANode i) l is = ap is_signal is.1.1
  kind_signal p (Some q) (ANode i) l is = ap is_signal is
  kind_signal p n (AConstant value) l is = ap is_signal is
  kind_signal p n ADeviceName l is = ap is_signal is

  kind_value : (p n : Option ℕ) (k l : Kind) → IsPlacedKind p n k l → is_value l ≡ is_value k
  kind_value p n (APin pin negated) l is = ap is_value is
  kind_value p None (ANode i) l is = ap is_value is.1.1
  kind_value p (Some q) (ANode i) l is = ap is_value is
  kind_value p n (AConstant value) l is = ap is_value is
  kind_value p n ADeviceName l is = ap is_value is

  pub same_known : (es fs : List Entry) → ArePlaced es fs → (name : List ℕ) → is_some (kind_of fs name) ≡ is_some (kind_of es name)
  same_known [] [] are name = refl
  same_known [] (f ∷ fs) are name = absurd are
  same_known (e ∷ es) [] are name = absurd are
  same_known (e ∷ es) (f ∷ fs) are name = ap (λ n. is_some (if bytes_eq name n then Some f.kind else kind_of fs name)) are.0.name ∙ pick (bytes_eq name e.name) (same_known es fs are.1 name)
    where
      pick : (b : Bool) → is_some (kind_of fs name) ≡ is_some (kind_of es name) → is_some (if b then Some f.kind else kind_of fs name) ≡ is_some (if b then Some e.kind else kind_of es name)
      pick true later = refl
      pick false later = later

  -- a test that says the same of both kinds says the same of each name
  same_any : (test : Kind → Bool) → ((p n : Option ℕ) (k l : Kind) → IsPlacedKind p n k l → test l ≡ test k) → (es fs : List Entry) → ArePlaced es fs → (name : List ℕ) → names_any test fs name ≡ names_any test es name
  same_any test same [] [] are name = refl
  same_any test same [] (f ∷ fs) are name = absurd are
  same_any test same (e ∷ es) [] are name = absurd are
  same_any test same (e ∷ es) (f ∷ fs) are name = ap (λ n. passes test (if bytes_eq name n then Some f.kind else kind_of fs name)) are.0.name ∙ pick (bytes_eq name e.name) (same_any test same es fs are.1 name)
    where
      pick : (b : Bool) → names_any test fs name ≡ names_any test es name → passes test (if b then Some f.kind else kind_of fs name) ≡ passes test (if b then Some e.kind else kind_of es name)
      pick true later = same (pins e.name) (nodes e.name) e.kind f.kind are.0.kind
      pick false later = later

  pub same_signals : (es fs : List Entry) → ArePlaced es fs → (name : List ℕ) → names_any is_signal fs name ≡ names_any is_signal es name
  same_signals = same_any is_signal kind_signal

  pub same_values : (es fs : List Entry) → ArePlaced es fs → (name : List ℕ) → names_any is_value fs name ≡ names_any is_value es name
  same_values = same_any is_value kind_value

  -- ---- uses

  undeclared_same : (es fs : List Entry) → ArePlaced es fs → (p : Place) (names : List (List ℕ)) → first_undeclared is_value fs p names ≡ first_undeclared is_value es p names
  undeclared_same es fs are p [] = refl
  undeclared_same es fs are p (name ∷ names) =
      ap₂ (λ b l. if b then l else fault.Undeclared p name ∷ []) (same_values es fs are name) (undeclared_same es fs are p names)

  use_same : (es fs : List Entry) → ArePlaced es fs → (u : Use) → use_refused fs u ≡ use_refused es u
  use_same es fs are (OneName word) = undeclared_same es fs are word.place (word.text ∷ [])
  use_same es fs are (Range first last) =
      ap (λ l. if ends_agree first.text last.text then l else fault.BadRange first.place ∷ []) (undeclared_same es fs are first.place (names_between first.text last.text))

  pub uses_same : (es fs : List Entry) → ArePlaced es fs → (us : List Use) → uses_refused fs us ≡ uses_refused es us
  uses_same es fs are [] = refl
  uses_same es fs are (u ∷ us) = ap₂ (λ a b. a ++ b) (use_same es fs are u) (uses_same es fs are us)

  -- ---- how many nodes there are

  node_one : (e : Entry) → node_count (e ∷ []) ≤ 1
  node_one e = by e.kind refl
    where
      by : (k : Kind) → e.kind ≡ k → node_count (e ∷ []) ≤ 1
      by (APin pin negated) is = rw is (omega arith)
      by (ANode i) is = rw is (omega arith)
      by (AConstant value) is = rw is (omega arith)
      by ADeviceName is = rw is (omega arith)

  count_one : (e f : Entry) (p n : Option ℕ) (k l : Kind) → e.kind ≡ k → f.kind ≡ l → IsPlacedKind p n k l → node_count (f ∷ []) ≤ node_count (e ∷ [])
  count_one e f p n (APin pin negated) l e_is f_is is = rw (e_is, f_is, is) (omega arith)
  count_one e f p None (ANode i) l e_is f_is is = rw e_is (node_one f)
  count_one e f p (Some q) (ANode i) l e_is f_is is = rw (e_is, f_is, is) (omega arith)
  count_one e f p n (AConstant value) l e_is f_is is = rw (e_is, f_is, is) (omega arith)
  count_one e f p n ADeviceName l e_is f_is is = rw (e_is, f_is, is) (omega arith)

  pub fewer_nodes : (es fs : List Entry) → ArePlaced es fs → node_count fs ≤ node_count es
  fewer_nodes [] [] are = omega arith
  fewer_nodes [] (f ∷ fs) are = absurd are
  fewer_nodes (e ∷ es) [] are = absurd are
  fewer_nodes (e ∷ es) (f ∷ fs) are =
      let one = count_one e f (pins e.name) (nodes e.name) e.kind f.kind refl refl are.0.kind in
      let rest = fewer_nodes es fs are.1 in
      omega (arith, one, rest, count_append (e ∷ []) es, count_append (f ∷ []) fs)

  -- ---- which pins are taken

  -- a name that is given this pin
  abbrev pub IsGiven : List Entry → ℕ → Type 0
  IsGiven es n = (name : List ℕ) × ((pins name ≡ Some n) × (is_some (kind_of es name) ≡ true))

  known_later : (e : Entry) (es : List Entry) (name : List ℕ) → is_some (kind_of es name) ≡ true → is_some (kind_of (e ∷ es) name) ≡ true
  known_later e es name known = pick (bytes_eq name e.name)
    where
      pick : (b : Bool) → is_some (if b then Some e.kind else kind_of es name) ≡ true
      pick true = refl
      pick false = known

  known_here : (e : Entry) (es : List Entry) → is_some (kind_of (e ∷ es) e.name) ≡ true
  known_here e es = pick (bytes_eq e.name e.name)
      (same_name e.name)
    where
      same_name : (name : List ℕ) → bytes_eq name name ≡ true
      same_name name = (bytes_eq-Decides name name).1 refl

      pick : (b : Bool) → b ≡ true → is_some (if b then Some e.kind else kind_of es e.name) ≡ true
      pick true is = refl
      pick false is = absurd cc

  module _ (alone : (name : List ℕ) (q : ℕ) → nodes name ≡ Some q → pins name ≡ Some q) where
    taken_one : (name : List ℕ) (k l : Kind) (n : ℕ) → IsPlacedKind (pins name) (nodes name) k l → is_unnumbered l ≡ false → is_on_pin n l ≡ true → (is_on_pin n k ≡ true) ⊎ (pins name ≡ Some n)
    taken_one name (APin pin negated) l n is numbered on = by (pin == 0) refl
      where
        on_given : (given (pins name) pin == n) ≡ true
        on_given = sym (ap (is_on_pin n) is) ∙ on

        by_pin : (o : Option ℕ) → pins name ≡ o → (unwrap_or o 0 == n) ≡ true → (unwrap_or o 0 == 0) ≡ false → pins name ≡ Some n
        by_pin None none same some = absurd (true≢false some)
        by_pin (Some p) has same some = has ∙ ap Some (eqb-true p n same)

        by : (b : Bool) → (pin == 0) ≡ b → ((pin == n) ≡ true) ⊎ (pins name ≡ Some n)
        by true zero =
            inr (by_pin (pins name) refl (sym (ap (λ c. (if c then unwrap_or (pins name) 0 else pin) == n) zero) ∙ on_given)
            (sym (ap (λ c. (if c then unwrap_or (pins name) 0 else pin) == 0) zero) ∙ (sym (ap is_unnumbered is) ∙ numbered)))
        by false some = inl (sym (ap (λ c. (if c then unwrap_or (pins name) 0 else pin) == n) some) ∙ on_given)
    taken_one name (ANode i) l n is numbered on = by (nodes name) refl is
      where
        by : (o : Option ℕ) → nodes name ≡ o → IsPlacedKind (pins name) o (ANode i) l → (is_on_pin n (ANode i) ≡ true) ⊎ (pins name ≡ Some n)
        by None none kind = absurd (true≢false (sym on ∙ ap (is_on_pin n) kind.1.1))
        by (Some q) has kind = inr (alone name q has ∙ ap Some (eqb-true q n (sym (ap (is_on_pin n) kind) ∙ on)))
    taken_one name (AConstant value) l n is numbered on = absurd (true≢false (sym on ∙ ap (is_on_pin n) is))
    taken_one name ADeviceName l n is numbered on = absurd (true≢false (sym on ∙ ap (is_on_pin n) is))

    pub taken_from : (es fs : List Entry) → ArePlaced es fs → (n : ℕ) → is_taken fs n ≡ true → (is_taken es n ≡ true) ⊎ IsGiven es n
    taken_from [] [] are n on = inl on
    taken_from [] (f ∷ fs) are n on = absurd are
    taken_from (e ∷ es) [] are n on = absurd are
    taken_from (e ∷ es) (f ∷ fs) are n on =
        elim (or_cases (is_on_pin n f.kind) (is_taken fs n) on) [
          | inl here ↦
              elim (taken_one e.name e.kind f.kind n are.0.kind are.0.numbered here) [
                | inl old ↦ inl (ap (λ b. b || is_taken es n) old)
                | inr new ↦ inr (e.name, (new, known_here e es))
              ]
          | inr later ↦
              elim (taken_from es fs are.1 n later) [
                | inl old ↦ inl (or_right (is_on_pin n e.kind) (is_taken es n) old)
                | inr new ↦ inr (new.0, (new.1.0, known_later e es new.0 new.1.1))
              ]
        ]

  -- ---- words

  named_words : (es fs : List Entry) → ArePlaced es fs → (name : List ℕ) → nodes name ≡ None → words_named fs name ≡ words_named es name
  named_words [] [] are name none = refl
  named_words [] (f ∷ fs) are name none = absurd are
  named_words (e ∷ es) [] are name none = absurd are
  named_words (e ∷ es) (f ∷ fs) are name none = ap (λ n. if bytes_eq name n then f.words ∷ [] else words_named fs name) are.0.name ∙ pick (bytes_eq name e.name) refl (named_words es fs are.1 name none)
    where
      same : bytes_eq name e.name ≡ true → f.words ≡ e.words
      same here = are.0.words ∙ ap (λ o. placed_words o (dc e.name) e.words) (sym (ap nodes (same_bytes name e.name here)) ∙ none)

      pick : (b : Bool) → bytes_eq name e.name ≡ b → words_named fs name ≡ words_named es name → (if b then f.words ∷ [] else words_named fs name) ≡ (if b then e.words ∷ [] else words_named es name)
      pick true here later = ap (λ w. w ∷ []) (same here)
      pick false other later = later

  -- of all names that are no pins yet, and stay so
  abbrev pub stays : GivenName → Bool
  stays x = not (is_some (nodes x.name))

  pub kept_words : (es fs : List Entry) → ArePlaced es fs → (xs : List GivenName) → words_of_names fs (filter stays xs) ≡ words_of_names es (filter stays xs)
  kept_words es fs are [] = refl
  kept_words es fs are (x ∷ xs) = pick (nodes x.name) refl (kept_words es fs are xs)
    where
      pick : (o : Option ℕ) → nodes x.name ≡ o → words_of_names fs (filter stays xs) ≡ words_of_names es (filter stays xs) → words_of_names fs (if not (is_some o) then x ∷ filter stays xs else filter stays xs) ≡ words_of_names es (if not (is_some o) then x ∷ filter stays xs else filter stays xs)
      pick None none rest = ap₂ (λ a b. a ++ b) (named_words es fs are x.name none) rest
      pick (Some q) has rest = rest
