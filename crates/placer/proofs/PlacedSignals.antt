-- What becomes of each signal that was placed.
use Rattle.std.proofs.Common.{◌≡◌, ℕ, zero, suc, ◌+◌, ◌<◌, Bool, true, false, not, ◌&&◌, ◌||◌, Option, None, Some, List, [], ◌∷◌, length, get_or, if◌then◌else◌, refl, sym, ap, ap₂, subst, ◌∙◌, arith, inl, inr, ◌==◌, is_some, position}
use Rattle.placer.proofs.Common.{list_any, true≢false, and_parts, or_cases, length-map, Cell, Flip, is_read_pin, Table, Assigned, named_of, sections_assign, is_assigned, is_clocked_target, Kind, APin, ANode, AConstant, ADeviceName, Words, Entry, is_signal, passes, names_any, is_stored, ModuleTree, declared_names, is_unnumbered, no_name, Holds, holds_of, is_registered, is_buffer_by_default, words_with_kind, with_kind, with_kinds, names_of, name_refusals, has_wrong_kind, has_wrong_kind_by, is_registered_by, is_registered_node, has_read_path, reads_by, IsAssignment, has_enable, is_read, IsFollowed, placed_module, Pins, with_pins, is_node, pin_of, node_pin_of, dc_of, all_released, module_wishes, placed_with, IsPlacedModule, is_buried_register, needs_pin, pin_fits, to_place, wish}
use Rattle.abel_meaning.specs.Controls.{must_register}
use Rattle.placer.proofs.FittingPins.{no_wrong_kind, has_path, pins_fit}
use Rattle.placer.proofs.GivenPins.{known_at, low_signal, needs_signal, pin_at, released_quiet}
use Rattle.placer.proofs.PlacedBuffers.{named_same, assigns_same}
use Rattle.placer.proofs.PlacedNames.{IsPlacedKind, placed_words, IsPlacedName, ArePlaced}
use Rattle.placer.proofs.Promise.{read_so}

-- ---- names by their numbers

placed_at : (pins nodes : List ℕ → Option ℕ) (dc : List ℕ → Bool) (es fs : List Entry) → ArePlaced pins nodes dc es fs → (s : ℕ) → s < length es → IsPlacedName pins nodes dc (get_or es s no_name) (get_or fs s no_name)
placed_at pins nodes dc [] fs are s low = absurd (omega (arith, low))
placed_at pins nodes dc (e ∷ es) [] are s low = absurd are
placed_at pins nodes dc (e ∷ es) (f ∷ fs) are zero low = are.0
placed_at pins nodes dc (e ∷ es) (f ∷ fs) are (suc s) low = placed_at pins nodes dc es fs are.1 s (omega (arith, low))

length_placed : (pins nodes : List ℕ → Option ℕ) (dc : List ℕ → Bool) (es fs : List Entry) → ArePlaced pins nodes dc es fs → length fs ≡ length es
length_placed pins nodes dc [] [] are = refl
length_placed pins nodes dc [] (f ∷ fs) are = absurd are
length_placed pins nodes dc (e ∷ es) [] are = absurd are
length_placed pins nodes dc (e ∷ es) (f ∷ fs) are = ap suc (length_placed pins nodes dc es fs are.1)

settled_at : (flip : Flip) (held : Holds) (found : List Assigned) (base : ℕ) (es : List Entry) (s : ℕ) → s < length es → get_or (with_kinds flip held found base es) s no_name ≡ with_kind flip held found (base + s) (get_or es s no_name)
settled_at flip held found base [] s low = absurd (omega (arith, low))
settled_at flip held found base (e ∷ es) zero low = ap (λ n. with_kind flip held found n e) (start base)
  where
    start : (n : ℕ) → n ≡ n + 0
    start n = omega arith
settled_at flip held found base (e ∷ es) (suc s) low = settled_at flip held found (suc base) es s (omega (arith, low)) ∙ ap (λ n. with_kind flip held found n (get_or es s no_name)) (step base s)
  where
    step : (n j : ℕ) → suc n + j ≡ n + suc j
    step n j = omega arith

length_settled : (flip : Flip) (held : Holds) (found : List Assigned) (base : ℕ) (es : List Entry) → length (with_kinds flip held found base es) ≡ length es
length_settled flip held found base [] = refl
length_settled flip held found base (e ∷ es) = ap suc (length_settled flip held found (suc base) es)

-- ---- one signal

-- on this pin it is the same, except for the pin
pub record IsOnPin (x f : Entry) (pin : ℕ) : Type 0 where
  pub negated : Bool
  pub kind : f.kind ≡ APin pin negated
  pub assigned : f.assigned ≡ x.assigned
  pub stored : is_stored f ≡ is_stored x

followed_one : (t : Table) (read : Bool) (x f : Entry) (pin : ℕ) → IsOnPin x f pin → pin_fits t read x pin ≡ true → (f.assigned ≡ true → has_wrong_kind t f ≡ false) × (read ≡ true → has_read_path t f None ≡ true)
followed_one t read x f pin on fit = (
  λ assigned. ap₂ (has_wrong_kind_by t) on.stored on.kind ∙ no_wrong_kind t read x pin on.negated fit (sym on.assigned ∙ assigned),
  λ reads. path (is_stored x) on.stored ∙ has_path t read x pin on.negated fit reads,
)
  where
    by_assigned : (a b : Entry) (stored : Bool) → a.assigned ≡ b.assigned → a.kind ≡ APin pin on.negated → reads_by t a stored a.kind None ≡ reads_by t b stored (APin pin on.negated) None
    by_assigned a b true assigned kind = ap (λ k. reads_by t a true k None) kind
    by_assigned a b false assigned kind = ap (λ k. reads_by t a false k None) kind ∙ level a b assigned
      where
        level : (a b : Entry) → a.assigned ≡ b.assigned → reads_by t a false (APin pin on.negated) None ≡ reads_by t b false (APin pin on.negated) None
        level a b same = ap (λ assigned. is_read_pin t pin && (assigned || not (list_any (λ (c : Cell). (c.pin == pin) && must_register c.kinds) t.cells))) same

    path : (stored : Bool) → is_stored f ≡ stored → has_read_path t f None ≡ reads_by t (record x { kind = APin pin on.negated }) stored (APin pin on.negated) None
    path stored is = ap (λ b. reads_by t f b f.kind None) is ∙ by_assigned f (record x { kind = APin pin on.negated }) stored on.assigned on.kind

-- ---- all signals

words_kept : (flip : Flip) (held after : Holds) (found : List Assigned) (s : ℕ) (e f : Entry) → is_signal e.kind ≡ true → is_signal f.kind ≡ true → is_registered f.words (is_clocked_target found s) ≡ is_registered e.words (is_clocked_target found s)
    → is_stored (with_kind flip after found s f) ≡ is_stored (with_kind flip held found s e)
words_kept flip held after found s e f e_is f_is same =
    ap (λ b. (if b then words_with_kind flip after s f.words (is_registered f.words (is_clocked_target found s)) else f.words).registered && is_assigned found s) f_is
    ∙ (ap (λ r. r && is_assigned found s) same
    ∙ sym (ap (λ b. (if b then words_with_kind flip held s e.words (is_registered e.words (is_clocked_target found s)) else e.words).registered && is_assigned found s) e_is))

module _ (t : Table) (m : ModuleTree) (none : name_refusals t m ≡ []) (ps : List ℕ) (is : IsAssignment (module_wishes t m) ps) where
  abbrev es : List Entry
  es = names_of t m

  abbrev ss : List ℕ
  ss = to_place t es

  abbrev read : ℕ → Bool
  read = is_read es m.sections

  abbrev xs : Pins
  xs = with_pins ss ps

  abbrev more : ModuleTree
  more = placed_module (pin_of es xs) (node_pin_of es xs) (dc_of es) (all_released es (has_enable es m.sections) xs) m

  abbrev before : List Entry
  before = declared_names m

  abbrev after : List Entry
  after = declared_names more

  abbrev found : List Assigned
  found = sections_assign (named_of before) m.sections

  -- what holds registers says nothing of their kinds
  abbrev held : Holds
  held = holds_of before m.sections

  abbrev after_held : Holds
  after_held = holds_of after more.sections

  found_same : sections_assign (named_of after) more.sections ≡ found
  found_same =
      ap (λ ks. sections_assign ks more.sections) (named_same (pin_of es xs) (node_pin_of es xs) (dc_of es) before after (read_so t m none ps is).names)
      ∙ assigns_same (pin_of es xs) (node_pin_of es xs) (dc_of es) (named_of before) m.sections (all_released es (has_enable es m.sections) xs) (released_quiet t m none read ps is (has_enable es m.sections) xs (named_of before))

  module _ (k : ℕ) (k_in : k < length ss) where
    abbrev s : ℕ
    s = get_or ss k 0

    abbrev e : Entry
    e = get_or before s no_name

    abbrev f : Entry
    f = get_or after s no_name

    low : s < length before
    low = let inside = low_signal t m none read ps is k k_in in omega (arith, inside, length_settled t.flip held found 0 before)

    low_after : s < length after
    low_after = omega (arith, low, length_placed (pin_of es xs) (node_pin_of es xs) (dc_of es) before after (read_so t m none ps is).names)

    x_is : get_or es s no_name ≡ with_kind t.flip held found s e
    x_is = settled_at t.flip held found 0 before s low ∙ ap (λ n. with_kind t.flip held found n e) (no_plus s)
      where
        no_plus : (n : ℕ) → 0 + n ≡ n
        no_plus n = omega arith

    f_is : get_or (names_of t more) s no_name ≡ with_kind t.flip after_held found s f
    f_is =
        settled_at t.flip after_held (sections_assign (named_of after) more.sections) 0 after s low_after
        ∙ (ap (λ n. with_kind t.flip after_held (sections_assign (named_of after) more.sections) n f) (no_plus s) ∙ ap (λ l. with_kind t.flip after_held l s f) found_same)
      where
        no_plus : (n : ℕ) → 0 + n ≡ n
        no_plus n = omega arith

    one : IsPlacedName (pin_of es xs) (node_pin_of es xs) (dc_of es) e f
    one = placed_at (pin_of es xs) (node_pin_of es xs) (dc_of es) before after (read_so t m none ps is).names s low

    pin_is : pin_of es xs e.name ≡ Some (get_or ps k 0)
    pin_is = ap (λ (y : Entry). pin_of es xs y.name) (sym x_is) ∙ pin_at t m none read ps is k k_in

    needs : needs_pin t (with_kind t.flip held found s e) ≡ true
    needs = ap (needs_pin t) (sym x_is) ∙ needs_signal t m none read ps is k k_in

    -- a node is known as one
    node_known : (i : ℕ) → e.kind ≡ ANode i → node_pin_of es xs e.name ≡ Some (get_or ps k 0)
    node_known i kind =
        ap (λ b. if b then pin_of es xs e.name else None)
        (ap (λ n. names_any is_node es n) (ap (λ (y : Entry). y.name) (sym x_is))
        ∙ (ap (passes is_node) (known_at t m none read ps is s (low_signal t m none read ps is k k_in)) ∙ (ap (λ (y : Entry). is_node y.kind) x_is ∙ ap is_node kind)))
        ∙ pin_is

    -- what is neither a pin without a number nor a register among the nodes needs none
    no_need : is_unnumbered e.kind ≡ false → is_registered_by (with_kind t.flip held found s e).words.registered e.kind ≡ false → ⊥
    no_need numbered other =
        elim (or_cases (is_unnumbered e.kind) (is_buried_register t (with_kind t.flip held found s e)) needs) [
          | inl unnumbered ↦ true≢false (sym unnumbered ∙ numbered)
          | inr buried ↦ true≢false (sym (and_parts (is_registered_by (with_kind t.flip held found s e).words.registered e.kind) (is_assigned found s) (and_parts (is_buffer_by_default t.flip) (is_registered_node (with_kind t.flip held found s e) && is_assigned found s) buried).1).0 ∙ other)
        ]

    on_pin : (kd : Kind) → e.kind ≡ kd → IsOnPin (with_kind t.flip held found s e) (with_kind t.flip after_held found s f) (get_or ps k 0)
    on_pin (APin pin negated) kind =
        let placed = subst (λ o. IsPlacedKind o (node_pin_of es xs e.name) (APin pin negated) f.kind) pin_is (subst (λ kd. IsPlacedKind (pin_of es xs e.name) (node_pin_of es xs e.name) kd f.kind) kind one.kind) in
        let new : f.kind ≡ APin (get_or ps k 0) negated = placed ∙ ap (λ b. APin (if b then get_or ps k 0 else pin) negated) zero in
        record {
          negated = negated;
          kind = new;
          assigned = refl;
          stored = words_kept t.flip held after_held found s e f (ap is_signal kind) (ap is_signal new) (ap (λ (w : Words). is_registered w (is_clocked_target found s)) (one.words ∙ ap (λ o. placed_words o (dc_of es e.name) e.words) no_node));
        }
      where
        zero : (pin == 0) ≡ true
        zero = elim (or_cases (is_unnumbered e.kind) (is_buried_register t (with_kind t.flip held found s e)) needs) [
          | inl unnumbered ↦ sym (ap is_unnumbered kind) ∙ unnumbered
          | inr buried ↦ absurd (true≢false (sym (and_parts (is_registered_by (with_kind t.flip held found s e).words.registered e.kind) (is_assigned found s) (and_parts (is_buffer_by_default t.flip) (is_registered_node (with_kind t.flip held found s e) && is_assigned found s) buried).1).0 ∙ ap (is_registered_by (with_kind t.flip held found s e).words.registered) kind))
        ]

        no_node : node_pin_of es xs e.name ≡ None
        no_node =
            ap (λ b. if b then pin_of es xs e.name else None)
            (ap (λ n. names_any is_node es n) (ap (λ (y : Entry). y.name) (sym x_is))
            ∙ (ap (passes is_node) (known_at t m none read ps is s (low_signal t m none read ps is k k_in)) ∙ (ap (λ (y : Entry). is_node y.kind) x_is ∙ ap is_node kind)))
    on_pin (ANode i) kind =
        let node = node_known i kind in
        let placed = subst (λ o. IsPlacedKind (pin_of es xs e.name) o (ANode i) f.kind) node (subst (λ kd. IsPlacedKind (pin_of es xs e.name) (node_pin_of es xs e.name) kd f.kind) kind one.kind) in
        record {
          negated = false;
          kind = placed;
          assigned = refl;
          stored = words_kept t.flip held after_held found s e f (ap is_signal kind) (ap is_signal placed)
              (ap (λ (w : Words). is_registered w (is_clocked_target found s)) (one.words ∙ ap (λ o. placed_words o (dc_of es e.name) e.words) node) ∙ sym registered);
        }
      where
        -- a node that needs a pin is a register
        registered : is_registered e.words (is_clocked_target found s) ≡ true
        registered = elim (or_cases (is_unnumbered e.kind) (is_buried_register t (with_kind t.flip held found s e)) needs) [
          | inl unnumbered ↦ absurd (true≢false (sym unnumbered ∙ ap is_unnumbered kind))
          | inr buried ↦ (
              sym (ap (λ b. (if b then words_with_kind t.flip held s e.words (is_registered e.words (is_clocked_target found s)) else e.words).registered) (ap is_signal kind))
              ∙ (sym (ap (is_registered_by (with_kind t.flip held found s e).words.registered) kind)
              ∙ (and_parts (is_registered_by (with_kind t.flip held found s e).words.registered e.kind) (is_assigned found s) (and_parts (is_buffer_by_default t.flip) (is_registered_node (with_kind t.flip held found s e) && is_assigned found s) buried).1).0))
        ]
    on_pin (AConstant value) kind = absurd (no_need (ap is_unnumbered kind) (ap (is_registered_by (with_kind t.flip held found s e).words.registered) kind))
    on_pin ADeviceName kind = absurd (no_need (ap is_unnumbered kind) (ap (is_registered_by (with_kind t.flip held found s e).words.registered) kind))

    pub followed_at : IsFollowed t m more s
    followed_at =
        let fitting = pins_fit t es read ps is k k_in in
        let both = followed_one t (read s) (with_kind t.flip held found s e) (with_kind t.flip after_held found s f) (get_or ps k 0) (on_pin e.kind refl) (ap (λ (y : Entry). pin_fits t (read s) y (get_or ps k 0)) (sym x_is) ∙ fitting.fit) in
        record {
          kind = λ assigned. ap (has_wrong_kind t) f_is ∙ both.0 (sym (ap (λ (y : Entry). y.assigned) f_is) ∙ assigned);
          path = λ reads. ap (λ (y : Entry). has_read_path t y None) f_is ∙ both.1 reads;
        }

pub followed : (t : Table) (m placed : ModuleTree) → IsPlacedModule t m placed → (k : ℕ) → k < length (to_place t (names_of t m)) → IsFollowed t m placed (get_or (to_place t (names_of t m)) k 0)
followed t m placed p k low = subst (λ l. IsFollowed t m l (get_or (to_place t (names_of t m)) k 0)) (sym p.pinned.is) (by (to_place t (names_of t m)) p.pinned.pins refl p.pinned.taken.is_assignment low)
  where
    by : (ss ps : List ℕ) → to_place t (names_of t m) ≡ ss → IsAssignment (module_wishes t m) ps → k < length (to_place t (names_of t m)) → IsFollowed t m (placed_with (names_of t m) (with_pins ss ps) m) (get_or (to_place t (names_of t m)) k 0)
    by [] ps same is low = let none = ap length same in absurd (omega (arith, none, low))
    by (s ∷ ss) [] same is low =
        let each = is.each in
        let long = length-map (to_place t (names_of t m)) (λ j. wish t (names_of t m) (is_read (names_of t m) m.sections j) (get_or (names_of t m) j no_name)) in
        absurd (omega (arith, each, long, low))
    by (s ∷ ss) (q ∷ ps) same is low =
        subst (λ l. IsFollowed t m (placed_module (pin_of (names_of t m) (with_pins l (q ∷ ps))) (node_pin_of (names_of t m) (with_pins l (q ∷ ps))) (dc_of (names_of t m)) (all_released (names_of t m) (has_enable (names_of t m) m.sections) (with_pins l (q ∷ ps))) m) (get_or (to_place t (names_of t m)) k 0)) same
        (followed_at t m p.names (q ∷ ps) is k low)
