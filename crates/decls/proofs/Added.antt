-- What follows the first refusal adds refusals after it alone.
use Rattle.std.proofs.Common.{◌≡◌, ℕ, suc, ◌==◌, nat_le, Bool, true, false, List, [], ◌∷◌, ◌++◌, Option, Some, None, map, fold, refl, sym, ap, ◌∙◌, append_assoc, is_some}
use Rattle.decls.proofs.Common.{list_any, append-nil, Place, Table, Item, Word, Kind, APin, ANode, AConstant, ADeviceName, Words, kind_of, item_names, Tree, GivenName, entry, given_names, no_words, all_said, NameFault, strings_refused, place_of, words_of_names, is_behind, items_behind, words_behind, AreBehind, Adds, items_told, ranges_refused, counts_refused, items_refused, is_signal_pin, Progress, refuse, refuse_all, refuse_if, entered_if, entered, pin_taken, on_pin, node_counted, constant_entered, device_counted, device_entered, with_numbers, pin_step, node_step, new_checked, waits_if, say_step, all_told}
use Rattle.decls.specs.declared.fault.NameFault.TheVariants as fault
use Rattle.decls.proofs.FirstStays.{both_behind, counts_behind, head_all, ranges_behind, strings_behind, tail_all, used_items_behind}

module _ (o : Option NameFault) where
  pub adds_none : (s n : Progress) → n.faults ≡ s.faults → Adds o s n
  adds_none s n e = record { more = []; faults = e ∙ sym (append-nil s.faults); behind = tt }

  pub adds_all : (s : Progress) (fs : List NameFault) → AreBehind o fs → Adds o s (refuse_all fs s)
  adds_all s fs b = record { more = fs; faults = refl; behind = b }

  pub adds_then : (s m n : Progress) → Adds o s m → Adds o m n → Adds o s n
  adds_then s m n a b = record {
    more = a.more ++ b.more;
    faults = b.faults ∙ (ap (λ fs. fs ++ b.more) a.faults ∙ append_assoc s.faults a.more b.more);
    behind = both_behind o a.more b.more a.behind b.behind;
  }

  adds_one : (s : Progress) (f : NameFault) → is_behind o (place_of f) ≡ true → Adds o s (refuse f s)
  adds_one s f h = record { more = f ∷ []; faults = refl; behind = (h, tt) }

  adds_if : (b : Bool) (s : Progress) (f : NameFault) → is_behind o (place_of f) ≡ true → Adds o s (refuse_if b f s)
  adds_if true s f h = adds_one s f h
  adds_if false s f h = adds_none s s refl

  pub adds_entered : (name : List ℕ) (p : Place) (k : Kind) (w : Words) (s : Progress) → is_behind o p ≡ true → Adds o s (entered name p k w s)
  adds_entered name p k w s h = by (is_some (kind_of s.entries name))
    where
      by : (b : Bool) → Adds o s (entered_if b (entry name p k w) s)
      by true = adds_one s (fault.Redeclared p name) h
      by false = adds_none s (record s { entries = s.entries ++ entry name p k w ∷ [] }) refl

  adds_on_pin : (t : Table) (p : Place) (name : List ℕ) (n : ℕ) (s : Progress) → is_behind o p ≡ true → Adds o s (on_pin t p name n s)
  adds_on_pin t p name n s h = by (is_signal_pin t n) (list_any (λ m. m == n) s.taken)
    where
      by : (good taken : Bool) → Adds o s (pin_taken good taken p name n s)
      by false taken = adds_one s (fault.BadPin p name) h
      by true true = adds_one s (fault.PinTaken p name) h
      by true false = adds_none s (record s { taken = s.taken ++ n ∷ [] }) refl

  adds_pin : (t : Table) (w : Words) (s : Progress) (x : GivenName) (n : Option ℕ) → is_behind o x.place ≡ true → Adds o s (pin_step t w s (x, n))
  adds_pin t w s x None h = adds_entered x.name x.place (APin 0 x.negated) w s h
  adds_pin t w s x (Some n) h =
      adds_then s (on_pin t x.place x.name n s) (pin_step t w s (x, Some n))
      (adds_on_pin t x.place x.name n s h)
      (adds_entered x.name x.place (APin n x.negated) w (on_pin t x.place x.name n s) h)

  adds_node : (w : Words) (s : Progress) (x : GivenName) → is_behind o x.place ≡ true → Adds o s (node_step w s x)
  adds_node w s x h =
      adds_then s (node_counted x.place x.name s) (node_step w s x)
      (counted (nat_le 128 s.nodes))
      (adds_entered x.name x.place (ANode s.nodes) w (node_counted x.place x.name s) h)
    where
      counted : (b : Bool) → Adds o s (refuse_if b (fault.TooManyNodes x.place x.name) (record s { nodes = suc s.nodes }))
      counted true = record { more = fault.TooManyNodes x.place x.name ∷ []; faults = refl; behind = (h, tt) }
      counted false = adds_none s (record s { nodes = suc s.nodes }) refl

  abbrev AreNamesBehind : List GivenName → Type 0
  AreNamesBehind [] = Unit {0}
  AreNamesBehind (x ∷ xs) = (is_behind o x.place ≡ true) × AreNamesBehind xs

  names_both : (xs ys : List GivenName) → AreNamesBehind xs → AreNamesBehind ys → AreNamesBehind (xs ++ ys)
  names_both [] ys a b = b
  names_both (x ∷ xs) ys a b = (a.0, names_both xs ys a.1 b)

  item_names_behind : (i : Item) (names : List (List ℕ)) → is_behind o i.first.place ≡ true → AreNamesBehind (map (λ name. record { name = name; place = i.first.place; negated = i.negated }) names)
  item_names_behind i [] h = tt
  item_names_behind i (name ∷ names) h = (h, item_names_behind i names h)

  names_behind_of : (items : List Item) → items_behind o items ≡ true → AreNamesBehind (given_names items)
  names_behind_of [] h = tt
  names_behind_of (i ∷ is) h =
      names_both (map (λ name. record { name = name; place = i.first.place; negated = i.negated }) (item_names i)) (given_names is)
      (item_names_behind i (item_names i) (head_all (is_behind o i.first.place) (items_behind o is) h))
      (names_behind_of is (tail_all (is_behind o i.first.place) (items_behind o is) h))

  adds_pins_of : (t : Table) (w : Words) (xs : List GivenName) (ns : List ℕ) (s : Progress) → AreNamesBehind xs → Adds o s (fold (pin_step t w) s (with_numbers xs ns))
  adds_pins_of t w [] ns s b = adds_none s s refl
  adds_pins_of t w (x ∷ xs) [] s b =
      adds_then s (pin_step t w s (x, None)) (fold (pin_step t w) (pin_step t w s (x, None)) (with_numbers xs []))
      (adds_pin t w s x None b.0) (adds_pins_of t w xs [] (pin_step t w s (x, None)) b.1)
  adds_pins_of t w (x ∷ xs) (n ∷ ns) s b =
      adds_then s (pin_step t w s (x, Some n)) (fold (pin_step t w) (pin_step t w s (x, Some n)) (with_numbers xs ns))
      (adds_pin t w s x (Some n) b.0) (adds_pins_of t w xs ns (pin_step t w s (x, Some n)) b.1)

  adds_nodes_of : (w : Words) (xs : List GivenName) (s : Progress) → AreNamesBehind xs → Adds o s (fold (node_step w) s xs)
  adds_nodes_of w [] s b = adds_none s s refl
  adds_nodes_of w (x ∷ xs) s b =
      adds_then s (node_step w s x) (fold (node_step w) (node_step w s x) xs)
      (adds_node w s x b.0) (adds_nodes_of w xs (node_step w s x) b.1)

  pub adds_pins : (t : Table) (w : Words) (items : List Item) (ns : List ℕ) (s : Progress) → items_behind o items ≡ true → Adds o s (fold (pin_step t w) s (with_numbers (given_names items) ns))
  adds_pins t w items ns s h = adds_pins_of t w (given_names items) ns s (names_behind_of items h)

  pub adds_nodes : (w : Words) (items : List Item) (s : Progress) → items_behind o items ≡ true → Adds o s (fold (node_step w) s (given_names items))
  adds_nodes w items s h = adds_nodes_of w (given_names items) s (names_behind_of items h)

  adds_new : (wrong : Bool) (items : List Item) (words : List Word) (s : Progress) → items_behind o items ≡ true → words_behind o words ≡ true → Adds o s (new_checked wrong items words s)
  adds_new wrong items words s h k =
      adds_then s (refuse_all (ranges_refused items) s) (new_checked wrong items words s)
      (adds_all s (ranges_refused items) (ranges_behind o items h))
      (adds_then (refuse_all (ranges_refused items) s) (refuse_all (counts_refused wrong items) (refuse_all (ranges_refused items) s)) (new_checked wrong items words s)
      (adds_all (refuse_all (ranges_refused items) s) (counts_refused wrong items) (counts_behind o wrong items h))
      (adds_all (refuse_all (counts_refused wrong items) (refuse_all (ranges_refused items) s)) (strings_refused (no_words ∷ []) no_words words) (strings_behind o (no_words ∷ []) no_words words k)))

  -- a whole declaration that waits in the end
  pub adds_new_pins : (t : Table) (wrong : Bool) (w : Words) (items : List Item) (ns : List ℕ) (words : List Word) (s : Progress) → items_behind o items ≡ true → words_behind o words ≡ true
      → Adds o s (waits_if w.buffer (given_names items) (fold (pin_step t w) (new_checked wrong items words s) (with_numbers (given_names items) ns)))
  adds_new_pins t wrong w items ns words s h k =
      let m = new_checked wrong items words s in
      let n = fold (pin_step t w) m (with_numbers (given_names items) ns) in
      adds_then s m (waits_if w.buffer (given_names items) n) (adds_new wrong items words s h k)
      (adds_then m n (waits_if w.buffer (given_names items) n) (adds_pins t w items ns m h) (adds_none n (waits_if w.buffer (given_names items) n) refl))

  pub adds_new_nodes : (wrong : Bool) (w : Words) (items : List Item) (words : List Word) (s : Progress) → items_behind o items ≡ true → words_behind o words ≡ true
      → Adds o s (waits_if w.buffer (given_names items) (fold (node_step w) (new_checked wrong items words s) (given_names items)))
  adds_new_nodes wrong w items words s h k =
      let m = new_checked wrong items words s in
      let n = fold (node_step w) m (given_names items) in
      adds_then s m (waits_if w.buffer (given_names items) n) (adds_new wrong items words s h k)
      (adds_then m n (waits_if w.buffer (given_names items) n) (adds_nodes w items m h) (adds_none n (waits_if w.buffer (given_names items) n) refl))

  said_faults : (w : Words) (xs : List GivenName) (s : Progress) → (fold (say_step w) s xs).faults ≡ s.faults
  said_faults w [] s = refl
  said_faults w (x ∷ xs) s = said_faults w xs (say_step w s x)

  adds_told : (w : Words) (xs : List GivenName) (s : Progress) → Adds o s (all_told w xs s)
  adds_told w xs s = adds_none s (all_told w xs s) (said_faults w xs s)

  pub adds_items_told : (items : List Item) (words : List Word) (s : Progress) → words_behind o words ≡ true → Adds o s (items_told items words s)
  adds_items_told items words s k =
      let m = refuse_all (strings_refused (words_of_names s.entries (given_names items)) no_words words) s in
      adds_then s m (items_told items words s)
      (adds_all s (strings_refused (words_of_names s.entries (given_names items)) no_words words) (strings_behind o (words_of_names s.entries (given_names items)) no_words words k))
      (adds_told (all_said words) (given_names items) m)

  pub adds_attributes : (items : List Item) (words : List Word) (s : Progress) → items_behind o items ≡ true → words_behind o words ≡ true
      → Adds o s (items_told items words (refuse_all (items_refused s.entries items) s))
  adds_attributes items words s h k =
      let m = refuse_all (items_refused s.entries items) s in
      adds_then s m (items_told items words m)
      (adds_all s (items_refused s.entries items) (used_items_behind o s.entries items h))
      (adds_items_told items words m k)

  pub adds_constant : (name : Word) (value : Tree) (s : Progress) → is_behind o name.place ≡ true → Adds o s (constant_entered name value s)
  adds_constant name value s h = adds_entered name.text name.place (AConstant value) no_words s h

  pub adds_device : (name : Word) (s : Progress) → is_behind o name.place ≡ true → Adds o s (device_entered name s)
  adds_device name s h =
      adds_then s (device_counted name s) (device_entered name s)
      (counted s.device)
      (adds_entered name.text name.place ADeviceName no_words (device_counted name s) h)
    where
      counted : (b : Bool) → Adds o s (record (refuse_if b (fault.Redeclared name.place name.text) s) { device = true })
      counted true = record { more = fault.Redeclared name.place name.text ∷ []; faults = refl; behind = (h, tt) }
      counted false = adds_none s (record s { device = true }) refl
