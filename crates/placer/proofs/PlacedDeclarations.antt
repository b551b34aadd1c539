-- Declarations, and the same with their pins: if nothing is refused of the ones, nothing is of the others.
use Rattle.std.proofs.Common.{◌≡◌, ℕ, zero, suc, ◌≤◌, Bool, true, false, not, ◌||◌, ◌&&◌, Option, None, Some, List, [], ◌∷◌, ◌++◌, map, filter, zip, drop, length, if◌then◌else◌, refl, sym, ap, ap₂, subst, ◌∙◌, append_assoc, arith, is_some, unwrap_or, bytes_eq}
use Rattle.placer.proofs.Common.{list_any, list_all, append-nil, length-map, fold-append, drop-append_seam, Table, Item, Word, Words, Entry, is_signal, names_any, APin, ANode, ADeviceName, numbers_of, Declaration, ADevice, SomePins, SomeNodes, SomeAttributes, SomeConstants, SomeOptions, DontCareFor, all_uses, GivenName, given_names, entry, no_words, all_said, said_by_either, pin_entries, node_entries, constant_entries, node_count, with_words, declared, strings_refused, names_behind, added, words_of_names, refused_if, names_refused, name_refused, ranges_refused, counts_refused, counts_differ, has_numbers, items_refused, is_device, given_count, parts_refused, declaration_refused, declarations_refused, same_bytes, any_append, count_append, none_left, none_right, refused_append, items_signals, Pinned, register_string, item_at, span_at, spans_for, node_declaration, unpinned, unpinned_items, placed_declaration}
use Rattle.decls.specs.declared.fault.NameFault.TheVariants as fault
use Rattle.decls.proofs.DeclarationsGo.{added_is}
use Rattle.placer.proofs.Counts.{as_many}
use Rattle.placer.proofs.DeclarationParts.{single_numbers, counts_agree, counts_none, length_pins, strings_fewer, fewer_words, register_accepted, register_said, given_single, signals_accepted, all_kept}
use Rattle.placer.proofs.Entering.{IsWithin, HasPins, AreEnterable, enter_all, within_front, within_next, numbered_all, numbers_for, unnumbered_all, node_one, pinned_one, device_one, constants_all}
use Rattle.placer.proofs.PlacedNames.{register_words, placed_words, ArePlaced, same_signals, uses_same, fewer_nodes, kept_words}

-- ---- a declaration

module _ (t : Table) (whole : List Entry) (pins nodes : Pinned) (dc : List ℕ → Bool) (has : HasPins t whole pins nodes) where
  -- these names and declarations are the same, except for pins
  pub record IsAlong (es : List Entry) (device : Bool) (after : List Declaration) : Type 0 where
    pub names : ArePlaced pins nodes dc es (names_behind after)
    pub device_is : list_any is_device after ≡ device

  -- after them these declarations are not refused, and lead to these names
  pub record Steps (es : List Entry) (device : Bool) (after ds : List Declaration) : Type 0 where
    pub none : declarations_refused t after ds ≡ []
    pub along : IsAlong es device (after ++ ds)

  push_behind : (after : List Declaration) (d : Declaration) → names_behind (after ++ d ∷ []) ≡ declared (names_behind after) d
  push_behind after d = fold-append declared [] after (d ∷ [])

  -- one declaration
  one_step : (es : List Entry) (device : Bool) (after : List Declaration) (d : Declaration) → parts_refused after (names_behind after) d ≡ [] → names_refused t (names_behind after) (given_count (names_behind after) d) (added (names_behind after) d) ≡ []
      → ArePlaced pins nodes dc es (declared (names_behind after) d) → (list_any is_device after || is_device d) ≡ device → Steps es device after (d ∷ [])
  one_step es device after d parts names are is = record {
    none = ap₂ (λ a b. a ++ b) (ap₂ (λ a b. a ++ b) parts names) refl;
    along = record {
      names = subst (λ l. ArePlaced pins nodes dc es l) (sym (push_behind after d)) are;
      device_is = any_append is_device after (d ∷ []) ∙ (ap (λ b. list_any is_device after || b) (or_false (is_device d)) ∙ is);
    };
  }
    where
      or_false : (b : Bool) → (b || false) ≡ b
      or_false true = refl
      or_false false = refl

  -- if all names have numbers
  all_counted : (es : List Entry) (d : Declaration) (new : List Entry) → given_count es d ≡ length (added es d) → declared es d ≡ es ++ new → names_refused t es (given_count es d) new ≡ names_refused t es (length new) new
  all_counted es d new count adds = ap (λ k. names_refused t es k new) (count ∙ ap length (added_is es d new adds))

  -- no more numbers count than there are names
  more_given : (es new : List Entry) (k : ℕ) → length new ≤ k → names_refused t es k new ≡ names_refused t es (length new) new
  more_given es [] k long = refl
  more_given es (e ∷ new) zero long = absurd (omega (arith, long))
  more_given es (e ∷ new) (suc k) long = ap (λ l. name_refused t es true e ++ l) (more_given (es ++ e ∷ []) new k (omega (arith, long)))

  -- one that enters names
  enter_step : (es new newf : List Entry) (device : Bool) (after : List Declaration) (d : Declaration) → ArePlaced pins nodes dc es (names_behind after) → AreEnterable t whole pins nodes dc has es new newf
      → parts_refused after (names_behind after) d ≡ [] → names_refused t (names_behind after) (given_count (names_behind after) d) newf ≡ names_refused t (names_behind after) (length newf) newf
      → declared (names_behind after) d ≡ names_behind after ++ newf → (list_any is_device after || is_device d) ≡ device
      → Steps (es ++ new) device after (d ∷ [])
  enter_step es new newf device after d are each parts count adds is =
      let entered = enter_all t whole pins nodes dc has es (names_behind after) new newf are each in
      one_step (es ++ new) device after d parts
      (ap (names_refused t (names_behind after) (given_count (names_behind after) d)) (added_is (names_behind after) d newf adds) ∙ (count ∙ entered.none))
      (subst (λ l. ArePlaced pins nodes dc (es ++ new) l) (sym adds) entered.placed) is

  no_device : (b : Bool) → (b || false) ≡ b
  no_device true = refl
  no_device false = refl

  -- ---- nodes

  -- a node by itself
  node_step : (es : List Entry) (device : Bool) (after : List Declaration) (x : GivenName) (attributes : List Word) → IsAlong es device after → IsWithin (es ++ entry x.name x.place (ANode (node_count es)) (all_said attributes) ∷ []) whole
      → name_refused t es true (entry x.name x.place (ANode (node_count es)) (all_said attributes)) ≡ [] → strings_refused (no_words ∷ []) no_words attributes ≡ []
      → Steps (es ++ entry x.name x.place (ANode (node_count es)) (all_said attributes) ∷ []) device after (node_declaration nodes dc attributes x ∷ [])
  node_step es device after x attributes along within none strings = by (nodes x.name) refl
    where
      w : Words
      w = all_said attributes

      by : (o : Option ℕ) → nodes x.name ≡ o → Steps (es ++ entry x.name x.place (ANode (node_count es)) (all_said attributes) ∷ []) device after (node_declaration nodes dc attributes x ∷ [])
      by None stays =
          subst (λ d. Steps (es ++ entry x.name x.place (ANode (node_count es)) (all_said attributes) ∷ []) device after (d ∷ [])) (sym (as_node stays))
          (enter_step es (entry x.name x.place (ANode (node_count es)) (all_said attributes) ∷ []) (entry x.name x.place (ANode (node_count (names_behind after))) (all_said attributes) ∷ []) device after
          (SomeNodes (item_at x.place x.name x.negated ∷ []) [] attributes) along.names
          (node_one t whole pins nodes dc has es x (all_said attributes) (node_count es) (node_count (names_behind after)) (fewer_nodes pins nodes dc es (names_behind after) along.names) stays none, tt)
          strings
          (all_counted (names_behind after) (SomeNodes (item_at x.place x.name x.negated ∷ []) [] attributes) (entry x.name x.place (ANode (node_count (names_behind after))) (all_said attributes) ∷ []) refl refl)
          refl (no_device (list_any is_device after) ∙ along.device_is))
        where
          as_node : nodes x.name ≡ None → node_declaration nodes dc attributes x ≡ SomeNodes (item_at x.place x.name x.negated ∷ []) [] attributes
          as_node is = rw is refl
      by (Some q) is =
          subst (λ d. Steps (es ++ entry x.name x.place (ANode (node_count es)) (all_said attributes) ∷ []) device after (d ∷ [])) (sym (as_pin is))
          (enter_step es (entry x.name x.place (ANode (node_count es)) (all_said attributes) ∷ []) (entry x.name x.place (APin q false) (register_words (dc x.name)) ∷ []) device after
          (SomePins (item_at x.place x.name false ∷ []) (span_at x.place q ∷ []) (record { text = register_string (dc x.name); place = x.place } ∷ [])) along.names
          (pinned_one t whole pins nodes dc has es x (all_said attributes) (node_count es) q is none within, tt)
          (register_accepted x.place (dc x.name)) refl
          (ap (λ (v : Words). names_behind after ++ entry x.name x.place (APin q false) v ∷ []) (register_said x.place (dc x.name)))
          (no_device (list_any is_device after) ∙ along.device_is))
        where
          as_pin : nodes x.name ≡ Some q → node_declaration nodes dc attributes x ≡ SomePins (item_at x.place x.name false ∷ []) (span_at x.place q ∷ []) (record { text = register_string (dc x.name); place = x.place } ∷ [])
          as_pin is = rw is refl

  -- one after the other
  steps_then : (es fs : List Entry) (device : Bool) (after ds rest : List Declaration) → Steps es device after ds → (IsAlong es device (after ++ ds) → Steps fs device (after ++ ds) rest) → Steps fs device after (ds ++ rest)
  steps_then es fs device after ds rest one next =
      let more = next one.along in
      record {
        none = refused_append t after ds rest ∙ ap₂ (λ a b. a ++ b) one.none more.none;
        along = subst (λ l. IsAlong fs device l) (append_assoc after ds rest) more.along;
      }

  no_steps : (es : List Entry) (device : Bool) (after : List Declaration) → IsAlong es device after → Steps es device after []
  no_steps es device after along = record { none = refl; along = subst (λ l. IsAlong es device l) (sym (append-nil after)) along }

  nodes_steps : (xs : List GivenName) (es : List Entry) (device : Bool) (after : List Declaration) (attributes : List Word) → IsAlong es device after → IsWithin (es ++ node_entries (all_said attributes) (node_count es) xs) whole
      → names_refused t es (length (node_entries (all_said attributes) (node_count es) xs)) (node_entries (all_said attributes) (node_count es) xs) ≡ [] → strings_refused (no_words ∷ []) no_words attributes ≡ []
      → Steps (es ++ node_entries (all_said attributes) (node_count es) xs) device after (map (node_declaration nodes dc attributes) xs)
  nodes_steps [] es device after attributes along within none strings = subst (λ l. Steps l device after []) (sym (append-nil es)) (no_steps es device after along)
  nodes_steps (x ∷ xs) es device after attributes along within none strings =
      let e = entry x.name x.place (ANode (node_count es)) (all_said attributes) in
      let rest = node_entries (all_said attributes) (suc (node_count es)) xs in
      steps_then (es ++ e ∷ []) (es ++ e ∷ rest) device after (node_declaration nodes dc attributes x ∷ []) (map (node_declaration nodes dc attributes) xs)
      (node_step es device after x attributes along (within_front t whole pins nodes dc has es e rest within) (none_left (name_refused t es true e) _ none) strings)
      (λ next.
      subst (λ l. Steps l device (after ++ node_declaration nodes dc attributes x ∷ []) (map (node_declaration nodes dc attributes) xs)) (append_assoc es (e ∷ []) rest)
      (subst (λ k. Steps ((es ++ e ∷ []) ++ node_entries (all_said attributes) k xs) device (after ++ node_declaration nodes dc attributes x ∷ []) (map (node_declaration nodes dc attributes) xs)) (sym (one_more e))
      (nodes_steps xs (es ++ e ∷ []) device (after ++ node_declaration nodes dc attributes x ∷ []) attributes next
      (subst (λ k. IsWithin ((es ++ e ∷ []) ++ node_entries (all_said attributes) k xs) whole) (one_more e) (within_next t whole pins nodes dc has es e rest within))
      (subst (λ k. names_refused t (es ++ e ∷ []) (length (node_entries (all_said attributes) k xs)) (node_entries (all_said attributes) k xs) ≡ []) (one_more e) (none_right (name_refused t es true e) _ none))
      strings)))
    where
      one_more : (e : Entry) → suc (node_count es) ≡ node_count (es ++ entry x.name x.place (ANode (node_count es)) (all_said attributes) ∷ [])
      one_more e = let sum = count_append es (entry x.name x.place (ANode (node_count es)) (all_said attributes) ∷ []) in omega (arith, sum)

  -- ---- attributes

  among_kept : (name : List ℕ) (o : Option ℕ) → nodes name ≡ o → (xs : List GivenName) → list_any (λ (x : GivenName). bytes_eq name x.name) (filter (λ (x : GivenName). not (is_some (nodes x.name))) xs) ≡ (not (is_some o) && list_any (λ (x : GivenName). bytes_eq name x.name) xs)
  among_kept name None is [] = refl
  among_kept name (Some q) is [] = refl
  among_kept name o is (x ∷ xs) = by (bytes_eq name x.name) (nodes x.name) refl refl (among_kept name o is xs)
    where
      rest : List GivenName
      rest = filter (λ (y : GivenName). not (is_some (nodes y.name))) xs

      found : Bool
      found = list_any (λ (y : GivenName). bytes_eq name y.name) xs

      by : (b : Bool) (n : Option ℕ) → bytes_eq name x.name ≡ b → nodes x.name ≡ n → list_any (λ (y : GivenName). bytes_eq name y.name) rest ≡ (not (is_some o) && found)
          → list_any (λ (y : GivenName). bytes_eq name y.name) (if not (is_some n) then x ∷ rest else rest) ≡ (not (is_some o) && (b || found))
      by true None here is_n more =
          ap (λ c. c || list_any (λ (y : GivenName). bytes_eq name y.name) rest) here
          ∙ both (not (is_some o)) (ap (λ m. not (is_some m)) (sym is ∙ (ap nodes (same_bytes name x.name here) ∙ is_n)))
        where
          both : (c : Bool) → c ≡ true → true ≡ (c && true)
          both true e = refl
          both false e = absurd cc
      by true (Some q) here is_n more = more ∙ both (not (is_some o)) (ap (λ m. not (is_some m)) (sym is ∙ (ap nodes (same_bytes name x.name here) ∙ is_n)))
        where
          both : (c : Bool) → c ≡ false → (c && found) ≡ (c && true)
          both true e = absurd cc
          both false e = refl
      by false None other is_n more = ap (λ c. c || list_any (λ (y : GivenName). bytes_eq name y.name) rest) other ∙ more
      by false (Some q) other is_n more = more

  words_told : (xs : List GivenName) (w : Words) (es fs : List Entry) → ArePlaced pins nodes dc es fs → ArePlaced pins nodes dc (map (with_words xs w) es) (map (with_words (filter (λ (x : GivenName). not (is_some (nodes x.name))) xs) w) fs)
  words_told xs w [] [] are = tt
  words_told xs w [] (f ∷ fs) are = absurd are
  words_told xs w (e ∷ es) [] are = absurd are
  words_told xs w (e ∷ es) (f ∷ fs) are = (
    record { name = are.0.name; place = are.0.place; kind = are.0.kind; numbered = are.0.numbered; words = told },
    words_told xs w es fs are.1,
  )
    where
      kept : List GivenName
      kept = filter (λ (x : GivenName). not (is_some (nodes x.name))) xs

      by : (o : Option ℕ) → nodes e.name ≡ o → f.words ≡ placed_words o (dc e.name) e.words
          → (if not (is_some o) && list_any (λ (x : GivenName). bytes_eq e.name x.name) xs then said_by_either f.words w else f.words)
          ≡ placed_words o (dc e.name) (if list_any (λ (x : GivenName). bytes_eq e.name x.name) xs then said_by_either e.words w else e.words)
      by None is same = ap (λ (v : Words). if list_any (λ (x : GivenName). bytes_eq e.name x.name) xs then said_by_either v w else v) same
      by (Some q) is same = same

      told : (if list_any (λ (x : GivenName). bytes_eq f.name x.name) kept then said_by_either f.words w else f.words)
          ≡ placed_words (nodes e.name) (dc e.name) (if list_any (λ (x : GivenName). bytes_eq e.name x.name) xs then said_by_either e.words w else e.words)
      told =
          ap (λ n. if list_any (λ (x : GivenName). bytes_eq n x.name) kept then said_by_either f.words w else f.words) are.0.name
          ∙ (ap (λ b. if b then said_by_either f.words w else f.words) (among_kept e.name (nodes e.name) refl xs) ∙ by (nodes e.name) refl are.0.words)

  none_added : (es : List Entry) (xs : List Item) (attributes : List Word) → added es (SomeAttributes xs attributes) ≡ []
  none_added es xs attributes =
      let f = with_words (given_names xs) (all_said attributes) in
      ap (λ k. drop k (map f es)) (sym (length-map es f)) ∙ (ap (drop (length (map f es))) (sym (append-nil (map f es))) ∙ drop-append_seam (map f es) [])

  attributes_step : (es : List Entry) (device : Bool) (after : List Declaration) (names : List Item) (attributes : List Word) → IsAlong es device after
      → items_refused es names ++ strings_refused (words_of_names es (given_names names)) no_words attributes ≡ []
      → Steps (map (with_words (given_names names) (all_said attributes)) es) device after (SomeAttributes (unpinned_items nodes names) attributes ∷ [])
  attributes_step es device after names attributes along none =
      let fs = names_behind after in
      let kept = unpinned nodes names in
      let signals = items_signals es names (none_left (items_refused es names) _ none) in
      let same : given_names (unpinned_items nodes names) ≡ kept = given_single kept in
      one_step (map (with_words (given_names names) (all_said attributes)) es) device after (SomeAttributes (unpinned_items nodes names) attributes)
      (ap₂ (λ a b. a ++ b)
      (signals_accepted fs kept (all_same (λ (x : GivenName). names_any is_signal es x.name) (λ (x : GivenName). names_any is_signal fs x.name) kept (λ x. sym (same_signals pins nodes dc es fs along.names x.name))
      (all_kept (λ (x : GivenName). names_any is_signal es x.name) (λ (x : GivenName). not (is_some (nodes x.name))) (given_names names) signals)))
      (ap (λ l. strings_refused (words_of_names fs l) no_words attributes) same
      ∙ (ap (λ l. strings_refused l no_words attributes) (kept_words pins nodes dc es fs along.names (given_names names))
      ∙ strings_fewer (words_of_names es (given_names names)) (words_of_names es kept) no_words attributes (fewer_words es (λ (x : GivenName). not (is_some (nodes x.name))) (given_names names)) (none_right (items_refused es names) _ none))))
      (ap (λ l. names_refused t fs (length l) l) (none_added fs (unpinned_items nodes names) attributes))
      (subst (λ l. ArePlaced pins nodes dc (map (with_words (given_names names) (all_said attributes)) es) (map (with_words l (all_said attributes)) fs)) (sym same) (words_told (given_names names) (all_said attributes) es fs along.names))
      (no_device (list_any is_device after) ∙ along.device_is)
    where
      all_same : (p q : GivenName → Bool) (xs : List GivenName) → ((x : GivenName) → p x ≡ q x) → list_all p xs ≡ true → list_all q xs ≡ true
      all_same p q [] same all = refl
      all_same p q (x ∷ xs) same all = by (p x) refl all (all_same p q xs same)
        where
          by : (b : Bool) → p x ≡ b → (b && list_all p xs) ≡ true → (list_all p xs ≡ true → list_all q xs ≡ true) → list_all q (x ∷ xs) ≡ true
          by true is rest later = ap₂ (λ a b. a && b) (sym (same x) ∙ is) (later rest)
          by false is rest later = absurd cc

  -- what declares nothing
  idle_step : (es : List Entry) (device : Bool) (after : List Declaration) (d : Declaration) → parts_refused after (names_behind after) d ≡ [] → given_count (names_behind after) d ≡ length (added (names_behind after) d) → declared (names_behind after) d ≡ names_behind after → is_device d ≡ false
      → IsAlong es device after → Steps es (device || false) after (d ∷ [])
  idle_step es device after d parts count same other along =
      one_step es (device || false) after d parts
      (ap (λ k. names_refused t (names_behind after) k (added (names_behind after) d)) count
      ∙ ap (λ l. names_refused t (names_behind after) (length l) l) (added_is (names_behind after) d [] (same ∙ sym (append-nil (names_behind after)))))
      (subst (λ l. ArePlaced pins nodes dc es l) (sym same) along.names)
      (ap₂ (λ a b. a || b) along.device_is other)

  -- ---- any declaration

  pub placed_step : (before after : List Declaration) (d : Declaration) → IsAlong (names_behind before) (list_any is_device before) after → IsWithin (declared (names_behind before) d) whole → declaration_refused t before d ≡ []
      → Steps (declared (names_behind before) d) (list_any is_device before || is_device d) after (placed_declaration pins nodes dc d)
  placed_step before after (ADevice name text) along within none =
      let es = names_behind before in
      let e = entry name.text name.place ADeviceName no_words in
      let parts = none_left (parts_refused before es (ADevice name text)) _ none in
      let names = none_right (parts_refused before es (ADevice name text)) _ none in
      enter_step es (e ∷ []) (e ∷ []) (list_any is_device before || true) after (ADevice name text) along.names
      (device_one t whole pins nodes dc has es name (none_left (name_refused t es true e) [] (sym (ap₂ (names_refused t es) (ap length (added_is es (ADevice name text) (e ∷ []) refl)) (added_is es (ADevice name text) (e ∷ []) refl)) ∙ names)) within, tt)
      (ap (λ b. refused_if b (fault.Redeclared name.place name.text)) along.device_is ∙ parts)
      (all_counted (names_behind after) (ADevice name text) (e ∷ []) refl refl) refl (ap (λ b. b || true) along.device_is)
  placed_step before after (SomePins names [] attributes) along within none =
      let es = names_behind before in
      let w = all_said attributes in
      let xs = given_names names in
      let parts = none_left (parts_refused before es (SomePins names [] attributes)) _ none in
      let names_none : names_refused t es 0 (pin_entries w xs []) ≡ [] = sym (ap (names_refused t es 0) (added_is es (SomePins names [] attributes) (pin_entries w xs []) refl)) ∙ none_right (parts_refused before es (SomePins names [] attributes)) _ none in
      let newf = pin_entries w xs (numbers_for t whole pins nodes dc has xs) in
      let same : numbers_of (length xs) (spans_for pins xs) ≡ numbers_for t whole pins nodes dc has xs = single_numbers pins xs (length xs) in
      enter_step es (pin_entries w xs []) newf (list_any is_device before || false) after (SomePins names (spans_for pins xs) attributes) along.names
      (unnumbered_all t whole pins nodes dc has w xs es within names_none)
      (ap₂ (λ a b. a ++ b) (none_left (ranges_refused names) _ parts)
      (ap₂ (λ a b. a ++ b) (counts_none (counts_differ names (spans_for pins xs)) names (counts_agree pins names)) (none_right (counts_refused (counts_differ names []) names) _ (none_right (ranges_refused names) _ parts))))
      (ap (λ k. names_refused t (names_behind after) k newf) (ap length same ∙ (length-map xs (λ (x : GivenName). unwrap_or (pins x.name) 0) ∙ sym (length_pins w xs (numbers_for t whole pins nodes dc has xs)))))
      (ap (λ ns. names_behind after ++ pin_entries w xs ns) same)
      (ap (λ b. b || false) along.device_is)
  placed_step before after (SomePins names (n ∷ ns) attributes) along within none =
      let es = names_behind before in
      let d = SomePins names (n ∷ ns) attributes in
      let w = all_said attributes in
      let xs = given_names names in
      let numbers = numbers_of (length xs) (n ∷ ns) in
      let parts = none_left (parts_refused before es d) _ none in
      let names_none : names_refused t es (length numbers) (pin_entries w xs numbers) ≡ [] = sym (ap (names_refused t es (length numbers)) (added_is es d (pin_entries w xs numbers) refl)) ∙ none_right (parts_refused before es d) _ none in
      let long = as_many names n ns (none_left (ranges_refused names) _ parts) (none_left (counts_refused (counts_differ names (n ∷ ns)) names) _ (none_right (ranges_refused names) _ parts)) in
      enter_step es (pin_entries w xs numbers) (pin_entries w xs numbers) (list_any is_device before || false) after d along.names
      (numbered_all t whole pins nodes dc has w xs numbers es long within names_none)
      parts
      (more_given (names_behind after) (pin_entries w xs numbers) (length numbers) (let same = length_pins w xs numbers in omega (arith, long, same)))
      refl (ap (λ b. b || false) along.device_is)
  placed_step before after (SomeNodes names numbers attributes) along within none =
      let es = names_behind before in
      let d = SomeNodes names numbers attributes in
      let new = node_entries (all_said attributes) (node_count es) (given_names names) in
      let parts = none_left (parts_refused before es d) _ none in
      subst (λ b. Steps (es ++ new) b after (map (node_declaration nodes dc attributes) (given_names names))) (sym (no_device (list_any is_device before)))
      (nodes_steps (given_names names) es (list_any is_device before) after attributes along within
      (sym (ap₂ (names_refused t es) (ap length (added_is es d new refl)) (added_is es d new refl)) ∙ none_right (parts_refused before es d) _ none)
      (none_right (counts_refused (has_numbers numbers) names) _ (none_right (ranges_refused names) _ parts)))
  placed_step before after (SomeAttributes names attributes) along within none =
      let es = names_behind before in
      let d = SomeAttributes names attributes in
      subst (λ b. Steps (declared es d) b after (placed_declaration pins nodes dc d)) (sym (no_device (list_any is_device before)))
      (attributes_step es (list_any is_device before) after names attributes along (none_left (parts_refused before es d) _ none))
  placed_step before after (SomeConstants names values) along within none =
      let es = names_behind before in
      let d = SomeConstants names values in
      let new = constant_entries (zip names values) in
      enter_step es new new (list_any is_device before || false) after d along.names
      (constants_all t whole pins nodes dc has (zip names values) es within (sym (ap₂ (names_refused t es) (ap length (added_is es d new refl)) (added_is es d new refl)) ∙ none_right (parts_refused before es d) _ none))
      (uses_same pins nodes dc es (names_behind after) along.names (all_uses values) ∙ none_left (parts_refused before es d) _ none)
      (all_counted (names_behind after) d new refl refl) refl (ap (λ b. b || false) along.device_is)
  placed_step before after (SomeOptions words) along within none = idle_step (names_behind before) (list_any is_device before) after (SomeOptions words) refl refl refl refl along
  placed_step before after (DontCareFor directive) along within none = idle_step (names_behind before) (list_any is_device before) after (DontCareFor directive) refl refl refl refl along
