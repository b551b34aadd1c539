-- The pins of an assignment, name by name.
use Rattle.std.proofs.Common.{◌≡◌, ℕ, zero, suc, ◌+◌, ◌<◌, ◌==◌, Bool, true, false, not, ◌&&◌, ◌||◌, Option, None, Some, List, [], ◌∷◌, ◌++◌, length, get_or, if◌then◌else◌, refl, sym, ap, ap₂, subst, ◌∙◌, arith, inl, inr, is_some, bytes_eq}
use Rattle.placer.proofs.Common.{list_any, true≢false, and_parts, cases_lt, or_cases, length-map, slice_get-get_or, Cell, Flip, Table, Named, list_assigns, named_of, sections_assign, Kind, APin, ANode, AConstant, ADeviceName, Entry, find, kind_of, is_value, passes, names_any, ModuleTree, list_uses, declared_names, is_unnumbered, no_name, holds_of, is_buffer_by_default, names_of, always_inverts, has_registers, name_refusals, is_taken, is_signal_pin, uses_refused, same_bytes, Alike, alike_kinds, alike_settled, entries_sound, found_at, kind_at, same_name, is_registered_node, IsAssignment, Pinned, released, Pins, with_pins, is_node, pin_of, node_pin_of, all_released, is_buried_register, is_enabled_by, is_pin_free, needs_pin, to_place, to_place_from, wish, wishes}
use Rattle.pld_device.specs.declared.flip.Flip.TheVariants.{Always, AfterRegister, BeforeRegister}
use Rattle.pld_device.specs.Macrocells.{pin_complements}
use Rattle.decls.specs.declared.fault.NameFault.TheVariants as fault
use Rattle.decls.proofs.SoundEntries.{AreSound, taken_alike}
use Rattle.pin_matching.proofs.Lists.{same_place}
use Rattle.placer.proofs.Entering.{HasPins}
use Rattle.placer.proofs.FittingPins.{pins_fit}

-- ---- the pin of a name is that of a signal

-- a place of the list, with its signal and its pin
pub record IsPinOf (es : List Entry) (ss ps : List ℕ) (name : List ℕ) (p : ℕ) : Type 0 where
  pub place : ℕ
  pub signal_in : place < length ss
  pub pin_in : place < length ps
  pub named : name ≡ (get_or es (get_or ss place 0) no_name).name
  pub is : get_or ps place 0 ≡ p

pub pin_found : (es : List Entry) (ss ps : List ℕ) (name : List ℕ) (p : ℕ) → pin_of es (with_pins ss ps) name ≡ Some p → IsPinOf es ss ps name p
pin_found es [] ps name p found = absurd cc
pin_found es (s ∷ ss) [] name p found = absurd cc
pin_found es (s ∷ ss) (q ∷ ps) name p found = by (bytes_eq name (get_or es s no_name).name) refl found (pin_found es ss ps name p)
  where
    the_same : (x y : ℕ) → Some x ≡ Some y → x ≡ y
    the_same x y h = cc

    by : (b : Bool) → bytes_eq name (get_or es s no_name).name ≡ b → (if b then Some q else pin_of es (with_pins ss ps) name) ≡ Some p → (pin_of es (with_pins ss ps) name ≡ Some p → IsPinOf es ss ps name p) → IsPinOf es (s ∷ ss) (q ∷ ps) name p
    by true here same rest = record { place = 0; signal_in = omega arith; pin_in = omega arith; named = same_bytes name (get_or es s no_name).name here; is = the_same q p same }
    by false other later rest =
        let there = rest later in
        let signal_low = there.signal_in in
        let pin_low = there.pin_in in
        record { place = suc there.place; signal_in = omega (arith, signal_low); pin_in = omega (arith, pin_low); named = there.named; is = there.is }

pub pin_there : (es : List Entry) (ss ps : List ℕ) (k : ℕ) → k < length ss → k < length ps → is_some (pin_of es (with_pins ss ps) (get_or es (get_or ss k 0) no_name).name) ≡ true
pin_there es [] ps k low also = absurd (omega (arith, low))
pin_there es (s ∷ ss) [] k low also = absurd (omega (arith, also))
pin_there es (s ∷ ss) (q ∷ ps) zero low also = by (bytes_eq (get_or es s no_name).name (get_or es s no_name).name) (same_name (get_or es s no_name).name)
  where
    by : (b : Bool) → b ≡ true → is_some (if b then Some q else pin_of es (with_pins ss ps) (get_or es s no_name).name) ≡ true
    by true is = refl
    by false is = absurd cc
pin_there es (s ∷ ss) (q ∷ ps) (suc k) low also = by (bytes_eq (get_or es (get_or ss k 0) no_name).name (get_or es s no_name).name) (pin_there es ss ps k (omega (arith, low)) (omega (arith, also)))
  where
    by : (b : Bool) → is_some (pin_of es (with_pins ss ps) (get_or es (get_or ss k 0) no_name).name) ≡ true → is_some (if b then Some q else pin_of es (with_pins ss ps) (get_or es (get_or ss k 0) no_name).name) ≡ true
    by true later = refl
    by false later = later

-- ---- which signals are to be placed

-- a number of the list is that of a name which needs a pin
pub record IsToPlace (t : Table) (es : List Entry) (base s : ℕ) : Type 0 where
  pub index : ℕ
  pub is : s ≡ base + index
  pub inside : index < length es
  pub needs : needs_pin t (get_or es index no_name) ≡ true

pub placed_from : (t : Table) (es : List Entry) (base k : ℕ) → k < length (to_place_from t base es) → IsToPlace t es base (get_or (to_place_from t base es) k 0)
placed_from t [] base k low = absurd (omega (arith, low))
placed_from t (e ∷ es) base k low = by (needs_pin t e) refl k low (placed_from t es (suc base))
  where
    later : (s : ℕ) → IsToPlace t es (suc base) s → IsToPlace t (e ∷ es) base s
    later s there =
        let is = there.is in
        let inside = there.inside in
        record { index = suc there.index; is = omega (arith, is); inside = omega (arith, inside); needs = there.needs }

    by : (b : Bool) → needs_pin t e ≡ b → (j : ℕ) → j < length (if b then base ∷ to_place_from t (suc base) es else to_place_from t (suc base) es)
        → ((i : ℕ) → i < length (to_place_from t (suc base) es) → IsToPlace t es (suc base) (get_or (to_place_from t (suc base) es) i 0))
        → IsToPlace t (e ∷ es) base (get_or (if b then base ∷ to_place_from t (suc base) es else to_place_from t (suc base) es) j 0)
    by true needs zero j_in rest = record { index = 0; is = omega arith; inside = omega arith; needs = needs }
    by true needs (suc j) j_in rest = later (get_or (to_place_from t (suc base) es) j 0) (rest j (omega (arith, j_in)))
    by false needs j j_in rest = later (get_or (to_place_from t (suc base) es) j 0) (rest j j_in)

-- and each name that needs one is in it
place_from : (t : Table) (es : List Entry) (base i : ℕ) → i < length es → needs_pin t (get_or es i no_name) ≡ true → (k : ℕ) × ((k < length (to_place_from t base es)) × (get_or (to_place_from t base es) k 0 ≡ base + i))
place_from t [] base i low needs = absurd (omega (arith, low))
place_from t (e ∷ es) base zero low needs = by (needs_pin t e) needs
  where
    by : (b : Bool) → b ≡ true → (k : ℕ) × ((k < length (if b then base ∷ to_place_from t (suc base) es else to_place_from t (suc base) es)) × (get_or (if b then base ∷ to_place_from t (suc base) es else to_place_from t (suc base) es) k 0 ≡ base + 0))
    by true is = (0, (omega arith, omega arith))
    by false is = absurd cc
place_from t (e ∷ es) base (suc i) low needs =
    let there = place_from t es (suc base) i (omega (arith, low)) needs in
    by (needs_pin t e) there.0 there.1.0 there.1.1
  where
    by : (b : Bool) (k : ℕ) → k < length (to_place_from t (suc base) es) → get_or (to_place_from t (suc base) es) k 0 ≡ suc base + i
        → (j : ℕ) × ((j < length (if b then base ∷ to_place_from t (suc base) es else to_place_from t (suc base) es)) × (get_or (if b then base ∷ to_place_from t (suc base) es else to_place_from t (suc base) es) j 0 ≡ base + suc i))
    by true k k_in is = (suc k, (omega (arith, k_in), omega (arith, is)))
    by false k k_in is = (k, (k_in, omega (arith, is)))

-- the numbers rise
rising : (t : Table) (es : List Entry) (base i j : ℕ) → i < j → j < length (to_place_from t base es) → get_or (to_place_from t base es) i 0 < get_or (to_place_from t base es) j 0
rising t [] base i j less low = absurd (omega (arith, low))
rising t (e ∷ es) base i j less low = by (needs_pin t e) i j less low (rising t es (suc base))
  where
    later : (k : ℕ) → k < length (to_place_from t (suc base) es) → base < get_or (to_place_from t (suc base) es) k 0
    later k k_in = let there = placed_from t es (suc base) k k_in in let is = there.is in omega (arith, is)

    by : (b : Bool) (k l : ℕ) → k < l → l < length (if b then base ∷ to_place_from t (suc base) es else to_place_from t (suc base) es)
        → ((x y : ℕ) → x < y → y < length (to_place_from t (suc base) es) → get_or (to_place_from t (suc base) es) x 0 < get_or (to_place_from t (suc base) es) y 0)
        → get_or (if b then base ∷ to_place_from t (suc base) es else to_place_from t (suc base) es) k 0 < get_or (if b then base ∷ to_place_from t (suc base) es else to_place_from t (suc base) es) l 0
    by true k zero less l_in rest = absurd (omega (arith, less))
    by true zero (suc l) less l_in rest = later l (omega (arith, l_in))
    by true (suc k) (suc l) less l_in rest = rest k l (omega (arith, less)) (omega (arith, l_in))
    by false k l less l_in rest = rest k l less l_in

-- a name that is known is in the list
kind_index : (es : List Entry) (name : List ℕ) (k : Kind) → kind_of es name ≡ Some k → (i : ℕ) × ((i < length es) × (((get_or es i no_name).name ≡ name) × ((get_or es i no_name).kind ≡ k)))
kind_index [] name k known = absurd cc
kind_index (e ∷ es) name k known = by (bytes_eq name e.name) refl known (kind_index es name k)
  where
    the_same : (x y : Kind) → ◌≡◌ {A = Option Kind} (Some x) (Some y) → x ≡ y
    the_same x y h = cc

    by : (b : Bool) → bytes_eq name e.name ≡ b → (if b then Some e.kind else kind_of es name) ≡ Some k
        → (kind_of es name ≡ Some k → (i : ℕ) × ((i < length es) × (((get_or es i no_name).name ≡ name) × ((get_or es i no_name).kind ≡ k))))
        → (i : ℕ) × ((i < length (e ∷ es)) × (((get_or (e ∷ es) i no_name).name ≡ name) × ((get_or (e ∷ es) i no_name).kind ≡ k)))
    by true here same rest = (0, (omega arith, (sym (same_bytes name e.name here), the_same e.kind k same)))
    by false other later rest =
        let there = rest later in
        (suc there.0, (let low = there.1.0 in omega (arith, low), there.1.1))

-- ---- a module of which no name is refused

module _ (t : Table) (m : ModuleTree) (none : name_refusals t m ≡ []) (read : ℕ → Bool) (ps : List ℕ) (is : IsAssignment (wishes t (names_of t m) read) ps) where
  abbrev es : List Entry
  es = names_of t m

  abbrev ss : List ℕ
  ss = to_place t es

  sound : AreSound t.pins [] es
  sound = entries_sound t m none

  alike : Alike (declared_names m) es
  alike = alike_settled t.flip (holds_of (declared_names m) m.sections) (sections_assign (named_of (declared_names m)) m.sections) 0 (declared_names m)

  as_many : length ps ≡ length ss
  as_many = is.each ∙ length-map ss (λ s. wish t es (read s) (get_or es s no_name))

  pub low_signal : (k : ℕ) → k < length ss → get_or ss k 0 < length es
  low_signal k k_in =
      let there = placed_from t es 0 k k_in in
      let same = there.is in
      let inside = there.inside in
      omega (arith, same, inside)

  pub needs_signal : (k : ℕ) → k < length ss → needs_pin t (get_or es (get_or ss k 0) no_name) ≡ true
  needs_signal k k_in =
      let there = placed_from t es 0 k k_in in
      subst (λ i. needs_pin t (get_or es i no_name) ≡ true) (let same = there.is in omega (arith, same)) there.needs

  -- a name of the list is known as what it is declared as
  pub known_at : (i : ℕ) → i < length es → kind_of es (get_or es i no_name).name ≡ Some (get_or es i no_name).kind
  known_at i low = kind_at t.pins es sound i (get_or es i no_name) (slice_get-get_or es i no_name low)

  abbrev pins : Pinned
  pins = pin_of es (with_pins ss ps)

  abbrev nodes : Pinned
  nodes = node_pin_of es (with_pins ss ps)

  -- a signal is at one place
  one_place : (i j : ℕ) → i < length ss → j < length ss → get_or ss i 0 ≡ get_or ss j 0 → i ≡ j
  one_place i j i_in j_in same =
      elim (cases_lt i j) [
        | inl less ↦ let rise = rising t es 0 i j less j_in in absurd (omega (arith, rise, same))
        | inr more ↦ elim (cases_lt j i) [ inl less ↦ let rise = rising t es 0 j i less i_in in absurd (omega (arith, rise, same)) | inr le ↦ omega (arith, more, le) ]
      ]

  -- a name is that of one number
  one_name : (i j : ℕ) → i < length es → j < length es → (get_or es i no_name).name ≡ (get_or es j no_name).name → i ≡ j
  one_name i j i_in j_in same =
      some_same i j
      (sym (found_at t.pins es sound i (get_or es i no_name) (slice_get-get_or es i no_name i_in)) ∙ (ap (find es) same ∙ found_at t.pins es sound j (get_or es j no_name) (slice_get-get_or es j no_name j_in)))
    where
      some_same : (x y : ℕ) → Some x ≡ Some y → x ≡ y
      some_same x y h = cc

  -- the pin of a signal's name is its own
  pub pin_at : (k : ℕ) → k < length ss → pins (get_or es (get_or ss k 0) no_name).name ≡ Some (get_or ps k 0)
  pin_at k k_in = by (pins (get_or es (get_or ss k 0) no_name).name) refl (pin_there es ss ps k k_in (omega (arith, k_in, as_many)))
    where
      by : (o : Option ℕ) → pins (get_or es (get_or ss k 0) no_name).name ≡ o → is_some o ≡ true → pins (get_or es (get_or ss k 0) no_name).name ≡ Some (get_or ps k 0)
      by None found some = absurd (true≢false (sym some))
      by (Some p) found some =
          let there = pin_found es ss ps (get_or es (get_or ss k 0) no_name).name p found in
          let same = one_place k there.place k_in there.signal_in (one_name (get_or ss k 0) (get_or ss there.place 0) (low_signal k k_in) (low_signal there.place there.signal_in) there.named) in
          found ∙ ap Some (sym (ap (λ j. get_or ps j 0) same ∙ there.is))

  free_at : (name : List ℕ) (p : ℕ) → pins name ≡ Some p → is_pin_free t es p ≡ true
  free_at name p found =
      let there = pin_found es ss ps name p found in
      subst (λ q. is_pin_free t es q ≡ true) there.is (pins_fit t es read ps is there.place there.signal_in).free

  node_alone : (name : List ℕ) (q : ℕ) → nodes name ≡ Some q → pins name ≡ Some q
  node_alone name q found = by (names_any is_node es name) found
    where
      by : (b : Bool) → (if b then pins name else None) ≡ Some q → pins name ≡ Some q
      by true h = h
      by false h = absurd cc

  node_others : (name : List ℕ) (k : Kind) → kind_of (declared_names m) name ≡ Some k → is_node k ≡ false → nodes name ≡ None
  node_others name k known other = ap (λ b. if b then pins name else None) (ap (passes is_node) (sym (alike_kinds (declared_names m) es alike name) ∙ known) ∙ other)

  every_pin : (name : List ℕ) (k : Kind) → kind_of (declared_names m) name ≡ Some k → is_unnumbered k ≡ true → is_some (pins name) ≡ true
  every_pin name k known unnumbered =
      let at = kind_index es name k (sym (alike_kinds (declared_names m) es alike name) ∙ known) in
      let needs : needs_pin t (get_or es at.0 no_name) ≡ true = ap (λ b. b || is_buried_register t (get_or es at.0 no_name)) (ap is_unnumbered at.1.1.1 ∙ unnumbered) in
      let there = place_from t es 0 at.0 at.1.0 needs in
      let found = there.1.1 in
      let same : get_or ss there.0 0 ≡ at.0 = omega (arith, found) in
      let in_ss = there.1.0 in
      subst (λ n. is_some (pins n) ≡ true) (ap (λ i. (get_or es i no_name).name) same ∙ at.1.1.0) (pin_there es ss ps there.0 in_ss (omega (arith, in_ss, as_many)))

  pub has_pins : HasPins t (declared_names m) pins nodes
  has_pins = record {
    good = λ name p found. (parts p (free_at name p found)).0;
    free = λ name p found. taken_alike (declared_names m) es p alike ∙ (parts p (free_at name p found)).1;
    apart = λ a b p one two.
        let x = pin_found es ss ps a p one in
        let y = pin_found es ss ps b p two in
        let same = same_place ps x.place y.place is.once x.pin_in y.pin_in (x.is ∙ sym y.is) in
        x.named ∙ (ap (λ k. (get_or es (get_or ss k 0) no_name).name) same ∙ sym y.named);
    every = every_pin;
    alone = node_alone;
    others = node_others;
  }
    where
      parts : (p : ℕ) → is_pin_free t es p ≡ true → (is_signal_pin t p ≡ true) × (is_taken es p ≡ false)
      parts p free = split (is_signal_pin t p) (not (p == t.clock)) (not (list_any (λ (c : Cell). is_enabled_by p c.enable) t.cells)) (is_taken es p) free
        where
          split : (a b c d : Bool) → (a && b && c && not d) ≡ true → (a ≡ true) × (d ≡ false)
          split true true true false h = (refl, refl)
          split true true true true h = absurd cc
          split true true false d h = absurd cc
          split true false c d h = absurd cc
          split false b c d h = absurd cc

  -- ---- what is added to the module

  pub released_quiet : (enabled : ℕ → Bool) (xs : Pins) (ks : List Named) → list_assigns ks (all_released es enabled xs) ≡ []
  released_quiet enabled [] ks = refl
  released_quiet enabled (x ∷ xs) ks = by (is_node (get_or es x.0 no_name).kind && not (enabled x.0)) (released_quiet enabled xs ks)
    where
      by : (b : Bool) → list_assigns ks (all_released es enabled xs) ≡ [] → list_assigns ks (if b then released (get_or es x.0 no_name).place (get_or es x.0 no_name).name ∷ all_released es enabled xs else all_released es enabled xs) ≡ []
      by true rest = rest
      by false rest = rest

  released_known : (enabled : ℕ → Bool) (rest ps' : List ℕ) → ((k : ℕ) → k < length rest → get_or rest k 0 < length es) → uses_refused (declared_names m) (list_uses (all_released es enabled (with_pins rest ps'))) ≡ []
  released_known enabled [] ps' low = refl
  released_known enabled (s ∷ rest) [] low = refl
  released_known enabled (s ∷ rest) (p ∷ ps') low =
      by (is_node (get_or es s no_name).kind) (enabled s) refl (released_known enabled rest ps' (λ k k_in. low (suc k) (omega (arith, k_in))))
    where
      value : (k : Kind) → is_node k ≡ true → is_value k ≡ true
      value (APin pin negated) node = absurd cc
      value (ANode i) node = refl
      value (AConstant v) node = absurd cc
      value ADeviceName node = absurd cc

      known : is_node (get_or es s no_name).kind ≡ true → names_any is_value (declared_names m) (get_or es s no_name).name ≡ true
      known node = ap (passes is_value) (alike_kinds (declared_names m) es alike (get_or es s no_name).name ∙ known_at s (low 0 (omega arith))) ∙ value (get_or es s no_name).kind node

      by : (a b : Bool) → is_node (get_or es s no_name).kind ≡ a → uses_refused (declared_names m) (list_uses (all_released es enabled (with_pins rest ps'))) ≡ []
          → uses_refused (declared_names m) (list_uses (if a && not b then released (get_or es s no_name).place (get_or es s no_name).name ∷ all_released es enabled (with_pins rest ps') else all_released es enabled (with_pins rest ps'))) ≡ []
      by true false node more = ap₂ (λ c l. (if c then [] else fault.Undeclared (get_or es s no_name).place (get_or es s no_name).name ∷ []) ++ l) (known node) more
      by true true node more = more
      by false b node more = more

  pub all_known : (enabled : ℕ → Bool) → uses_refused (declared_names m) (list_uses (all_released es enabled (with_pins ss ps))) ≡ []
  all_known enabled = released_known enabled ss ps low_signal

  -- nodes become pins at which the pin of a register may be Q
  pub unpinned_if : always_inverts t ≡ true → (name : List ℕ) → nodes name ≡ None
  unpinned_if inverts name = by (names_any is_node es name) (pins name) refl refl
    where
      no_default : (flip : Flip) → pin_complements flip true false ≡ true → is_buffer_by_default flip ≡ false
      no_default Always h = refl
      no_default AfterRegister h = absurd cc
      no_default BeforeRegister h = refl

      default : is_buffer_by_default t.flip ≡ false
      default = no_default t.flip (and_parts (has_registers t) (pin_complements t.flip true false) inverts).1

      -- a node needs none
      no_need : (x : Entry) → is_node x.kind ≡ true → needs_pin t x ≡ true → ⊥
      no_need x node needs =
          elim (or_cases (is_unnumbered x.kind) (is_buried_register t x) needs) [
            | inl unnumbered ↦ numbered x.kind node unnumbered
            | inr buried ↦ true≢false (sym (and_parts (is_buffer_by_default t.flip) (is_registered_node x && x.assigned) buried).0 ∙ default)
          ]
        where
          numbered : (k : Kind) → is_node k ≡ true → is_unnumbered k ≡ true → ⊥
          numbered (APin pin negated) node none = cc
          numbered (ANode i) node none = cc
          numbered (AConstant v) node none = cc
          numbered ADeviceName node none = cc

      by : (b : Bool) (o : Option ℕ) → names_any is_node es name ≡ b → pins name ≡ o → (if b then o else None) ≡ None
      by false o node found = refl
      by true None node found = refl
      by true (Some q) node found =
          let there = pin_found es ss ps name q found in
          let signal = get_or ss there.place 0 in
          let kind = ap (λ n. names_any is_node es n) (sym there.named) ∙ node in
          absurd (no_need (get_or es signal no_name) (sym (ap (passes is_node) (known_at signal (low_signal there.place there.signal_in))) ∙ kind) (needs_signal there.place there.signal_in))
