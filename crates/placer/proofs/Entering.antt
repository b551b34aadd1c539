-- Names that are declared, and the same names with their pins: if nothing is refused of the ones, nothing is of the others.
use Rattle.std.proofs.Common.{◌≡◌, ℕ, ◌≤◌, ◌==◌, nat_le, nat_lt, Bool, true, false, not, ◌||◌, ◌&&◌, Option, None, Some, List, [], ◌∷◌, ◌++◌, map, length, if◌then◌else◌, refl, sym, ap, ap₂, subst, ◌∙◌, append_assoc, arith, inl, inr, is_some, unwrap_or}
use Rattle.placer.proofs.Common.{true≢false, cases_Bool, nat_tests, append-nil, Table, Word, Kind, APin, ANode, AConstant, ADeviceName, Words, Entry, kind_of, Tree, GivenName, entry, no_words, is_unnumbered, pin_entries, constant_entries, is_on_pin, is_taken, refused_if, is_signal_pin, node_limit, number_refused, name_refused, names_refused, kind_append, or_else, any_append, none_left, none_right, not_refused, Extends, same_name, Pinned, is_node}
use Rattle.decls.specs.declared.fault.NameFault.{NameFault}
use Rattle.decls.specs.declared.fault.NameFault.TheVariants as fault
use Rattle.placer.proofs.PlacedNames.{IsPlacedKind, placed_words, IsPlacedName, ArePlaced, IsGiven, placed_push, same_known, taken_from}

-- these names are among all names of the module
pub record IsWithin (es whole : List Entry) : Type 0 where
  pub kinds : Extends es whole
  pub taken : (n : ℕ) → is_taken es n ≡ true → is_taken whole n ≡ true

-- the pins that names are given: free pins, each for one name; each pin without a number has one, and of the other names
-- nodes alone
pub record HasPins (t : Table) (whole : List Entry) (pins nodes : Pinned) : Type 0 where
  pub good : (name : List ℕ) (p : ℕ) → pins name ≡ Some p → is_signal_pin t p ≡ true
  pub free : (name : List ℕ) (p : ℕ) → pins name ≡ Some p → is_taken whole p ≡ false
  pub apart : (a b : List ℕ) (p : ℕ) → pins a ≡ Some p → pins b ≡ Some p → a ≡ b
  pub every : (name : List ℕ) (k : Kind) → kind_of whole name ≡ Some k → is_unnumbered k ≡ true → is_some (pins name) ≡ true
  pub alone : (name : List ℕ) (q : ℕ) → nodes name ≡ Some q → pins name ≡ Some q
  pub others : (name : List ℕ) (k : Kind) → kind_of whole name ≡ Some k → is_node k ≡ false → nodes name ≡ None

some_of : {X : Type 0} (o : Option X) → is_some o ≡ true → (x : X) × (o ≡ Some x)
some_of None some = absurd (true≢false (sym some))
some_of (Some x) some = (x, refl)

signal_not_zero : (t : Table) (n : ℕ) → is_signal_pin t n ≡ true → (n == 0) ≡ false
signal_not_zero t n good = not_zero n t.ground_pin t.pins good
  where
    not_zero : (m g p : ℕ) → (not (m == 0) && not (m == g) && nat_lt m p) ≡ true → (m == 0) ≡ false
    not_zero m g p h = grind (arith, nat_tests)

module _ (t : Table) (whole : List Entry) (pins nodes : Pinned) (dc : List ℕ → Bool) (has : HasPins t whole pins nodes) where
  -- ---- what follows names that are within

  pub within_front : (es : List Entry) (e : Entry) (new : List Entry) → IsWithin (es ++ e ∷ new) whole → IsWithin (es ++ e ∷ []) whole
  within_front es e new within = record {
    kinds = λ name k known. within.kinds name k (more name k known);
    taken = λ n on. within.taken n (any_more n on);
  }
    where
      same : es ++ e ∷ new ≡ (es ++ e ∷ []) ++ new
      same = sym (append_assoc es (e ∷ []) new)

      more : (name : List ℕ) (k : Kind) → kind_of (es ++ e ∷ []) name ≡ Some k → kind_of (es ++ e ∷ new) name ≡ Some k
      more name k known = ap (λ l. kind_of l name) same ∙ (kind_append (es ++ e ∷ []) new name ∙ ap (λ o. or_else o (kind_of new name)) known)

      any_more : (n : ℕ) → is_taken (es ++ e ∷ []) n ≡ true → is_taken (es ++ e ∷ new) n ≡ true
      any_more n on = ap (λ l. is_taken l n) same ∙ (any_append (λ (x : Entry). is_on_pin n x.kind) (es ++ e ∷ []) new ∙ ap (λ b. b || is_taken new n) on)

  pub within_next : (es : List Entry) (e : Entry) (new : List Entry) → IsWithin (es ++ e ∷ new) whole → IsWithin ((es ++ e ∷ []) ++ new) whole
  within_next es e new within = subst (λ l. IsWithin l whole) (sym (append_assoc es (e ∷ []) new)) within

  -- the name that is last is known as what it is declared as
  kind_last : (es : List Entry) (e : Entry) → is_some (kind_of es e.name) ≡ false → IsWithin (es ++ e ∷ []) whole → kind_of whole e.name ≡ Some e.kind
  kind_last es e new within = within.kinds e.name e.kind (kind_append es (e ∷ []) e.name ∙ (ap (λ o. or_else o (kind_of (e ∷ []) e.name)) (none_of (kind_of es e.name) new) ∙ here))
    where
      none_of : (o : Option Kind) → is_some o ≡ false → o ≡ None
      none_of None none = refl
      none_of (Some k) none = absurd (true≢false none)

      here : kind_of (e ∷ []) e.name ≡ Some e.kind
      here = ap (λ b. if b then Some e.kind else None) (same_name e.name)

  taken_last : (es : List Entry) (e : Entry) (n : ℕ) → is_on_pin n e.kind ≡ true → IsWithin (es ++ e ∷ []) whole → is_taken whole n ≡ true
  taken_last es e n on within = within.taken n (any_append (λ (x : Entry). is_on_pin n x.kind) es (e ∷ []) ∙ last (is_taken es n) (is_on_pin n e.kind) on)
    where
      last : (a b : Bool) → b ≡ true → (a || (b || false)) ≡ true
      last true b is = refl
      last false true is = refl
      last false false is = is

  taken_before : (es : List Entry) (e : Entry) (n : ℕ) → is_taken es n ≡ true → IsWithin (es ++ e ∷ []) whole → is_taken whole n ≡ true
  taken_before es e n on within = within.taken n (any_append (λ (x : Entry). is_on_pin n x.kind) es (e ∷ []) ∙ ap (λ b. b || is_taken (e ∷ []) n) on)

  -- ---- names that may be entered

  pub record IsEnterable (es : List Entry) (e f : Entry) : Type 0 where
    pub placed : IsPlacedName pins nodes dc e f
    pub new : is_some (kind_of es e.name) ≡ false
    pub number : (fs : List Entry) → ArePlaced pins nodes dc es fs → number_refused t fs f f.kind ≡ []

  abbrev pub AreEnterable : (es new newf : List Entry) → Type 0
  AreEnterable es [] [] = Unit {0}
  AreEnterable es [] (f ∷ newf) = ⊥
  AreEnterable es (e ∷ new) [] = ⊥
  AreEnterable es (e ∷ new) (f ∷ newf) = IsEnterable es e f × AreEnterable (es ++ e ∷ []) new newf

  pub record AreEntered (es fs new newf : List Entry) : Type 0 where
    pub none : names_refused t fs (length newf) newf ≡ []
    pub placed : ArePlaced pins nodes dc (es ++ new) (fs ++ newf)

  name_none : (es fs : List Entry) (e f : Entry) → ArePlaced pins nodes dc es fs → IsEnterable es e f → name_refused t fs true f ≡ []
  name_none es fs e f are one =
      ap₂ (λ a b. a ++ b) (one.number fs are)
      (ap (λ b. refused_if b (fault.Redeclared f.place f.name)) (ap (λ n. is_some (kind_of fs n)) one.placed.name ∙ (same_known pins nodes dc es fs are e.name ∙ one.new)))

  pub enter_all : (es fs new newf : List Entry) → ArePlaced pins nodes dc es fs → AreEnterable es new newf → AreEntered es fs new newf
  enter_all es fs [] [] are each = record { none = refl; placed = subst (λ l. ArePlaced pins nodes dc l (fs ++ [])) (sym (append-nil es)) (subst (λ l. ArePlaced pins nodes dc es l) (sym (append-nil fs)) are) }
  enter_all es fs [] (f ∷ newf) are each = absurd each
  enter_all es fs (e ∷ new) [] are each = absurd each
  enter_all es fs (e ∷ new) (f ∷ newf) are each =
      let rest = enter_all (es ++ e ∷ []) (fs ++ f ∷ []) new newf (placed_push pins nodes dc es fs e f are each.0.placed) each.1 in
      record {
        none = ap₂ (λ a b. a ++ b) (name_none es fs e f are each.0) rest.none;
        placed = subst (λ l. ArePlaced pins nodes dc l (fs ++ f ∷ newf)) (append_assoc es (e ∷ []) new) (subst (λ l. ArePlaced pins nodes dc ((es ++ e ∷ []) ++ new) l) (append_assoc fs (f ∷ []) newf) rest.placed);
      }

  -- ---- pins

  -- a pin that is free of the names so far, and that only this name may be given
  not_taken : (es fs : List Entry) (n : ℕ) → ArePlaced pins nodes dc es fs → is_taken es n ≡ false → (IsGiven pins nodes dc es n → ⊥) → is_taken fs n ≡ false
  not_taken es fs n are old new =
      elim (cases_Bool (is_taken fs n)) [
        | inl on ↦
            elim (taken_from pins nodes dc has.alone es fs are n on) [
              | inl before ↦ absurd (true≢false (sym before ∙ old))
              | inr given_one ↦ absurd (new given_one)
            ]
        | inr off ↦ off
      ]

  -- the number of a pin is not refused
  pin_none : (fs : List Entry) (f : Entry) (p : ℕ) (negated : Bool) → is_signal_pin t p ≡ true → is_taken fs p ≡ false → number_refused t fs f (APin p negated) ≡ []
  pin_none fs f p negated good free = ap₂ (λ a b. if a then refused_if b (fault.PinTaken f.place f.name) else fault.BadPin f.place f.name ∷ []) good free

  -- what an accepted number says
  pin_good : (es : List Entry) (e : Entry) (n : ℕ) (negated : Bool) → number_refused t es e (APin n negated) ≡ [] → (is_signal_pin t n ≡ true) × (is_taken es n ≡ false)
  pin_good es e n negated none = by (is_signal_pin t n) refl none
    where
      by : (b : Bool) → is_signal_pin t n ≡ b → (if b then refused_if (is_taken es n) (fault.PinTaken e.place e.name) else fault.BadPin e.place e.name ∷ []) ≡ [] → (is_signal_pin t n ≡ true) × (is_taken es n ≡ false)
      by true is h = (is, not_refused (is_taken es n) (fault.PinTaken e.place e.name) h)
      by false is h = absurd cc

  new_name : (es : List Entry) (e : Entry) (number : List NameFault) → number ++ refused_if (is_some (kind_of es e.name)) (fault.Redeclared e.place e.name) ≡ [] → is_some (kind_of es e.name) ≡ false
  new_name es e number none = not_refused (is_some (kind_of es e.name)) (fault.Redeclared e.place e.name) (none_right number _ none)

  -- what is no node keeps its words
  kept : (name : List ℕ) (k : Kind) (w : Words) → kind_of whole name ≡ Some k → is_node k ≡ false → w ≡ placed_words (nodes name) (dc name) w
  kept name k w known other = sym (ap (λ o. placed_words o (dc name) w) (has.others name k known other))

  -- a pin with a number
  numbered_one : (es : List Entry) (x : GivenName) (n : ℕ) (w : Words) → name_refused t es true (entry x.name x.place (APin n x.negated) w) ≡ [] → IsWithin (es ++ entry x.name x.place (APin n x.negated) w ∷ []) whole
      → IsEnterable es (entry x.name x.place (APin n x.negated) w) (entry x.name x.place (APin n x.negated) w)
  numbered_one es x n w none within =
      let e = entry x.name x.place (APin n x.negated) w in
      let good = pin_good es e n x.negated (none_left (number_refused t es e e.kind) _ none) in
      let new = new_name es e (number_refused t es e e.kind) none in
      let some = signal_not_zero t n good.0 in
      record {
        placed = record {
          name = refl;
          place = refl;
          kind = ap (λ m. APin m x.negated) (sym (ap (λ b. if b then unwrap_or (pins x.name) 0 else n) some));
          numbered = some;
          words = kept x.name (APin n x.negated) w (kind_last es e new within) refl;
        };
        new = new;
        number = λ fs are.
            pin_none fs e n x.negated good.0
            (not_taken es fs n are good.1 (λ other. true≢false (sym (taken_last es e n (same_number n) within) ∙ has.free other.0 n other.1.0)));
      }
    where
      same_number : (n : ℕ) → (n == n) ≡ true
      same_number n = grind (arith, nat_tests)

  pub numbered_all : (w : Words) (xs : List GivenName) (ns : List ℕ) (es : List Entry) → length xs ≤ length ns → IsWithin (es ++ pin_entries w xs ns) whole → names_refused t es (length ns) (pin_entries w xs ns) ≡ []
      → AreEnterable es (pin_entries w xs ns) (pin_entries w xs ns)
  numbered_all w [] ns es long within none = tt
  numbered_all w (x ∷ xs) [] es long within none = absurd (omega (arith, long))
  numbered_all w (x ∷ xs) (n ∷ ns) es long within none =
      let e = entry x.name x.place (APin n x.negated) w in (
        numbered_one es x n w (none_left (name_refused t es true e) _ none) (within_front es e (pin_entries w xs ns) within),
        numbered_all w xs ns (es ++ e ∷ []) (omega (arith, long)) (within_next es e (pin_entries w xs ns) within) (none_right (name_refused t es true e) _ none),
      )

  -- a name that is given this pin: no earlier one is
  only_this : (es : List Entry) (name : List ℕ) (p : ℕ) → pins name ≡ Some p → is_some (kind_of es name) ≡ false → IsGiven pins nodes dc es p → ⊥
  only_this es name p is new other =
      true≢false (sym other.1.1 ∙ (ap (λ n. is_some (kind_of es n)) (has.apart other.0 name p other.1.0 is) ∙ new))

  -- a pin without one
  unnumbered_one : (es : List Entry) (x : GivenName) (w : Words) → name_refused t es false (entry x.name x.place (APin 0 x.negated) w) ≡ [] → IsWithin (es ++ entry x.name x.place (APin 0 x.negated) w ∷ []) whole
      → IsEnterable es (entry x.name x.place (APin 0 x.negated) w) (entry x.name x.place (APin (unwrap_or (pins x.name) 0) x.negated) w)
  unnumbered_one es x w none within =
      let e = entry x.name x.place (APin 0 x.negated) w in
      let new = new_name es e [] none in
      let known = kind_last es e new within in
      by (some_of (pins x.name) (has.every x.name (APin 0 x.negated) known refl)) new known
    where
      by : (found : (p : ℕ) × (pins x.name ≡ Some p)) → is_some (kind_of es x.name) ≡ false → kind_of whole x.name ≡ Some (APin 0 x.negated)
          → IsEnterable es (entry x.name x.place (APin 0 x.negated) w) (entry x.name x.place (APin (unwrap_or (pins x.name) 0) x.negated) w)
      by found new known =
          let same : unwrap_or (pins x.name) 0 ≡ found.0 = ap (λ o. unwrap_or o 0) found.1 in
          let good : is_signal_pin t (unwrap_or (pins x.name) 0) ≡ true = ap (is_signal_pin t) same ∙ has.good x.name found.0 found.1 in
          let off : is_taken es (unwrap_or (pins x.name) 0) ≡ false = ap (is_taken es) same ∙ free_before found.0 found.1 in
          record {
            placed = record {
              name = refl;
              place = refl;
              kind = refl;
              numbered = signal_not_zero t (unwrap_or (pins x.name) 0) good;
              words = kept x.name (APin 0 x.negated) w known refl;
            };
            new = new;
            number = λ fs are.
                pin_none fs (entry x.name x.place (APin (unwrap_or (pins x.name) 0) x.negated) w) (unwrap_or (pins x.name) 0) x.negated good
                (not_taken es fs (unwrap_or (pins x.name) 0) are off (only_this es x.name (unwrap_or (pins x.name) 0) (found.1 ∙ ap Some (sym same)) new));
          }
        where
          free_before : (p : ℕ) → pins x.name ≡ Some p → is_taken es p ≡ false
          free_before p is =
              elim (cases_Bool (is_taken es p)) [
                | inl on ↦ absurd (true≢false (sym (taken_before es (entry x.name x.place (APin 0 x.negated) w) p on within) ∙ has.free x.name p is))
                | inr off ↦ off
              ]

  -- the numbers that names are given
  abbrev pub numbers_for : List GivenName → List ℕ
  numbers_for xs = map (λ (x : GivenName). unwrap_or (pins x.name) 0) xs

  pub unnumbered_all : (w : Words) (xs : List GivenName) (es : List Entry) → IsWithin (es ++ pin_entries w xs []) whole → names_refused t es 0 (pin_entries w xs []) ≡ []
      → AreEnterable es (pin_entries w xs []) (pin_entries w xs (numbers_for xs))
  unnumbered_all w [] es within none = tt
  unnumbered_all w (x ∷ xs) es within none =
      let e = entry x.name x.place (APin 0 x.negated) w in (
        unnumbered_one es x w (none_left (name_refused t es false e) _ none) (within_front es e (pin_entries w xs []) within),
        unnumbered_all w xs (es ++ e ∷ []) (within_next es e (pin_entries w xs []) within) (none_right (name_refused t es false e) _ none),
      )

  -- ---- nodes

  -- a node that stays one, maybe with a lower number
  pub node_one : (es : List Entry) (x : GivenName) (w : Words) (i j : ℕ) → j ≤ i → nodes x.name ≡ None → name_refused t es true (entry x.name x.place (ANode i) w) ≡ []
      → IsEnterable es (entry x.name x.place (ANode i) w) (entry x.name x.place (ANode j) w)
  node_one es x w i j low stays none =
      let e = entry x.name x.place (ANode i) w in
      let few = not_refused (nat_le node_limit i) (fault.TooManyNodes x.place x.name) (none_left (number_refused t es e e.kind) _ none) in
      record {
        placed = record {
          name = refl;
          place = refl;
          kind = subst (λ o. IsPlacedKind (pins x.name) o (ANode i) (ANode j)) (sym stays) (j, (low, refl));
          numbered = refl;
          words = sym (ap (λ o. placed_words o (dc x.name) w) stays);
        };
        new = new_name es e (number_refused t es e e.kind) none;
        number = λ fs are. ap (λ b. refused_if b (fault.TooManyNodes x.place x.name)) (lower few);
      }
    where
      lower : nat_le node_limit i ≡ false → nat_le node_limit j ≡ false
      lower few = grind (arith, nat_tests, low)

  -- a node that becomes a pin
  pub pinned_one : (es : List Entry) (x : GivenName) (w : Words) (i q : ℕ) → nodes x.name ≡ Some q → name_refused t es true (entry x.name x.place (ANode i) w) ≡ [] → IsWithin (es ++ entry x.name x.place (ANode i) w ∷ []) whole
      → IsEnterable es (entry x.name x.place (ANode i) w) (entry x.name x.place (APin q false) (placed_words (Some q) (dc x.name) w))
  pinned_one es x w i q is none within =
      let e = entry x.name x.place (ANode i) w in
      let new = new_name es e (number_refused t es e e.kind) none in
      let pin = has.alone x.name q is in
      let good = has.good x.name q pin in
      record {
        placed = record {
          name = refl;
          place = refl;
          kind = subst (λ o. IsPlacedKind (pins x.name) o (ANode i) (APin q false)) (sym is) refl;
          numbered = signal_not_zero t q good;
          words = sym (ap (λ o. placed_words o (dc x.name) w) is);
        };
        new = new;
        number = λ fs are.
            pin_none fs (entry x.name x.place (APin q false) (placed_words (Some q) (dc x.name) w)) q false good (not_taken es fs q are (free_before pin) (only_this es x.name q pin new));
      }
    where
      free_before : pins x.name ≡ Some q → is_taken es q ≡ false
      free_before pin =
          elim (cases_Bool (is_taken es q)) [
            | inl on ↦ absurd (true≢false (sym (taken_before es (entry x.name x.place (ANode i) w) q on within) ∙ has.free x.name q pin))
            | inr off ↦ off
          ]

  -- ---- constants and devices

  plain_one : (es : List Entry) (e : Entry) → IsPlacedKind (pins e.name) (nodes e.name) e.kind e.kind → is_unnumbered e.kind ≡ false → is_node e.kind ≡ false
      → ((fs : List Entry) → number_refused t fs e e.kind ≡ []) → name_refused t es true e ≡ [] → IsWithin (es ++ e ∷ []) whole → IsEnterable es e e
  plain_one es e kind numbered other always none within =
      let new = new_name es e (number_refused t es e e.kind) none in
      record {
        placed = record { name = refl; place = refl; kind = kind; numbered = numbered; words = kept e.name e.kind e.words (kind_last es e new within) other };
        new = new;
        number = λ fs are. always fs;
      }

  pub device_one : (es : List Entry) (name : Word) → name_refused t es true (entry name.text name.place ADeviceName no_words) ≡ [] → IsWithin (es ++ entry name.text name.place ADeviceName no_words ∷ []) whole
      → IsEnterable es (entry name.text name.place ADeviceName no_words) (entry name.text name.place ADeviceName no_words)
  device_one es name none within = plain_one es (entry name.text name.place ADeviceName no_words) refl refl refl (λ fs. refl) none within

  pub constants_all : (ps : List (Word × Tree)) (es : List Entry) → IsWithin (es ++ constant_entries ps) whole → names_refused t es (length (constant_entries ps)) (constant_entries ps) ≡ []
      → AreEnterable es (constant_entries ps) (constant_entries ps)
  constants_all [] es within none = tt
  constants_all (p ∷ ps) es within none =
      let e = entry p.0.text p.0.place (AConstant p.1) no_words in (
        plain_one es e refl refl refl (λ fs. refl) (none_left (name_refused t es true e) _ none) (within_front es e (constant_entries ps) within),
        constants_all ps (es ++ e ∷ []) (within_next es e (constant_entries ps) within) (none_right (name_refused t es true e) _ none),
      )
