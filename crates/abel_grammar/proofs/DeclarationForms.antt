-- What declares names, written as it is read: the names first, and then what may follow them.
use Rattle.std.proofs.Common.{◌≡◌, ℕ, ◌⊎◌, inl, inr, false, List, [], ◌∷◌, Option, Some, None, refl, sym, ap, subst, ◌∙◌, map, option_map}
use Rattle.abel_grammar.proofs.Common.{Form, ◌then◌, followed, either, made, nothing, SpellsList, Token, Word, Item, Tree, Declaration, Device, Pin, Node, Equal, Comma, Semicolon, one, each_apart_by, name, text, expr, item, names, istype, device_of, device, kept, pins_of, pins, nodes_of, nodes, attributes_of, attributes, constants_of, values_for, constants, naming, bare_item, only_name, bare_names, declared_in}
use Rattle.std.specs.Option.{option_and_then}
use Rattle.abel_grammar.proofs.SameForms.{Same}

-- ---- what may follow names

-- DEVICE string ;        after one plain name
abbrev pub device_behind : Option Word → Form Token Declaration
device_behind None = nothing
device_behind (Some w) = made (λ x. device_of (w, x)) (one Device then text then one Semicolon)

-- = expr {, expr} ;        after plain names
abbrev pub constants_behind : Option (List Word) → Form Token Tree → Form Token Declaration
constants_behind None e = nothing
constants_behind (Some ws) e = made (λ x. constants_of (ws, x)) (one Equal then values_for ws e then one Semicolon)

abbrev pub declared : ℕ → List Item → Form Token Declaration
declared n is =
    either (device_behind (only_name is))
    (either (made (λ x. pins_of (is, x)) (kept Pin))
    (either (made (λ x. nodes_of (is, x)) (kept Node))
    (either (made (λ x. attributes_of (is, x)) (istype then one Semicolon))
    (constants_behind (bare_names is) (expr n)))))

abbrev pub naming_read : ℕ → Form Token Declaration
naming_read n = made declared_in (followed names (λ is. declared n is))

-- ---- a form whose first part is names of some kind

record Narrow {X A T : Type 0} (f : Form X T) (first : Form X A) (tail : A → Form X T) : Type 0 where
  pub there : (ts : List X) (t : T) (rest : List X) → f.spells ts t rest → (a : A) × (mid : List X) × first.spells ts a mid × (tail a).spells mid t rest
  pub back : (ts : List X) (a : A) (mid : List X) (t : T) (rest : List X) → first.spells ts a mid → (tail a).spells mid t rest → f.spells ts t rest
  pub begins_there : (us : List X) → f.begins us → first.begins us ⊎ ((a : A) × (mid : List X) × first.spells us a mid × (tail a).begins mid)
  pub begins_back : (us : List X) (a : A) (mid : List X) → first.spells us a mid → (tail a).begins mid → f.begins us ⊎ first.begins us

narrow_either : {X A T : Type 0} (f g : Form X T) (first : Form X A) (t u : A → Form X T) → Narrow f first t → Narrow g first u → Narrow (either f g) first (λ a. either (t a) (u a))
narrow_either f g first t u p q = record {
  there = λ ts x rest s. elim s [
    | inl h ↦ let k = p.there ts x rest h in (k.0, k.1, k.2, inl k.3)
    | inr h ↦ let k = q.there ts x rest h in (k.0, k.1, k.2, inr k.3)
  ];
  back = λ ts a mid x rest s z. elim z [ inl h ↦ inl (p.back ts a mid x rest s h) | inr h ↦ inr (q.back ts a mid x rest s h) ];
  begins_there = λ us s. elim s [
    | inl h ↦ elim (p.begins_there us h) [ inl k ↦ inl k | inr k ↦ inr (k.0, k.1, k.2, inl k.3) ]
    | inr h ↦ elim (q.begins_there us h) [ inl k ↦ inl k | inr k ↦ inr (k.0, k.1, k.2, inr k.3) ]
  ];
  begins_back = λ us a mid s z. elim z [
    | inl h ↦ elim (p.begins_back us a mid s h) [ inl k ↦ inl (inl k) | inr k ↦ inr k ]
    | inr h ↦ elim (q.begins_back us a mid s h) [ inl k ↦ inl (inr k) | inr k ↦ inr k ]
  ];
}

narrow_plain : {X A B T : Type 0} (g : A × B → T) (first : Form X A) (b : Form X B) → Narrow (made g (first then b)) first (λ a. made (λ x. g (a, x)) b)
narrow_plain g first b = record {
  there = λ ts t rest s. (s.0.0, s.1.0, s.1.1, (s.0.1, s.1.2, s.2));
  back = λ ts a mid t rest s z. ((a, z.0), (mid, s, z.1), z.2);
  begins_there = λ us s. s;
  begins_back = λ us a mid s h. inl (inr (a, mid, s, h));
}

narrow_same : {X A T : Type 0} (f : Form X T) (first : Form X A) (tail : A → Form X T) (second : A × T → T) → ((x : A × T) → second x ≡ x.1) → Narrow f first tail → ((us : List X) → first.begins us → f.begins us)
    → Same f (made second (followed first tail))
narrow_same {X} {A} {T} f first tail second snd p whole = record {
  there = λ ts t rest s. let k = p.there ts t rest s in ((k.0, t), (k.1, k.2, k.3), snd (k.0, t));
  back = λ ts t rest s. p.back ts s.0.0 s.1.0 t rest s.1.1 (subst (λ (u : T). (tail s.0.0).spells s.1.0 u rest) (sym (snd s.0) ∙ s.2) s.1.2);
  begins_there = λ us s. elim (p.begins_there us s) [ inl h ↦ inl h | inr h ↦ inr h ];
  begins_back = λ us s. elim s [ inl h ↦ whole us h | inr (a, mid, h, k) ↦ elim (p.begins_back us a mid h k) [ inl m ↦ m | inr m ↦ whole us m ] ];
}

-- ---- plain names among names

abbrev plain : Word → Item
plain w = record { negated = false; first = w; last = None }

item_plain : (ts : List Token) (w : Word) (rest : List Token) → name.spells ts w rest → item.spells ts (plain w) rest
unfolding item
item_plain ts w rest s = ((None, (w, None)), (ts, refl, (rest, s, refl)), refl)

item_begins : (us : List Token) → name.begins us → item.begins us
unfolding item
item_begins us h = inr (None, us, refl, inl h)

none_some : {A C : Type 0} (w : A) → (None ≡ Some w) → C
none_some w e = absurd cc

-- an item whose name is plain
plain_item : (ts : List Token) (i : Item) (w : Word) (rest : List Token) → item.spells ts i rest → bare_item i ≡ Some w → name.spells ts w rest
unfolding item
plain_item ts i w rest ((None, (v, None)), (mid, e, (mid2, s, d)), z) h =
    let is : v ≡ w = some_is v w (ap bare_item z ∙ h) in
    subst (λ (m : List Token). name.spells m w rest) (sym e) (subst (λ (m : List Token). name.spells mid w m) d (subst (λ (u : Word). name.spells mid u mid2) is s))
  where
    some_is : (a b : Word) → Some a ≡ Some b → a ≡ b
    some_is a b k = cc
plain_item ts i w rest ((Some t, (v, l)), s, z) h = none_some w (ap bare_item z ∙ h)
plain_item ts i w rest ((None, (v, Some l)), s, z) h = none_some w (ap bare_item z ∙ h)

abbrev ItemLink : Type 0
ItemLink = Token × Item

abbrev WordLink : Type 0
WordLink = Token × Word

abbrev item_link : Form Token ItemLink
item_link = one Comma then item

abbrev word_link : Form Token WordLink
word_link = one Comma then name

abbrev plain_link : WordLink → ItemLink
plain_link l = (l.0, plain l.1)

links_there : (ts : List Token) (ls : List WordLink) (rest : List Token) → SpellsList word_link.spells ts ls rest → SpellsList item_link.spells ts (map plain_link ls) rest
links_there ts [] rest s = s
links_there ts (l ∷ ls) rest (mid, (m, c, s), more) = (mid, (m, c, item_plain m l.1 mid s), links_there mid ls rest more)

bare_plain : (ls : List WordLink) → bare_names (map (λ y. y.1) (map plain_link ls)) ≡ Some (map (λ y. y.1) ls)
bare_plain [] = refl
bare_plain (l ∷ ls) = rw (bare_plain ls) refl

-- the parts of names that are all plain
bare_parts : (i : Item) (is : List Item) (ws : List Word) → bare_names (i ∷ is) ≡ Some ws → (w : Word) × (vs : List Word) × (bare_item i ≡ Some w) × (bare_names is ≡ Some vs) × (w ∷ vs ≡ ws)
bare_parts i is ws e = parts (bare_item i) (bare_names is) e refl refl
  where
    parts : (o : Option Word) (p : Option (List Word)) → option_and_then (λ w. option_map (λ vs. w ∷ vs) p) o ≡ Some ws → bare_item i ≡ o → bare_names is ≡ p
        → (w : Word) × (vs : List Word) × (bare_item i ≡ Some w) × (bare_names is ≡ Some vs) × (w ∷ vs ≡ ws)
    parts None p e a b = absurd cc
    parts (Some w) None e a b = absurd cc
    parts (Some w) (Some vs) e a b = (w, vs, a, b, cc)

links_back : (ts : List Token) (ls : List ItemLink) (rest : List Token) (ws : List Word) → SpellsList item_link.spells ts ls rest → bare_names (map (λ y. y.1) ls) ≡ Some ws
    → (vs : List WordLink) × SpellsList word_link.spells ts vs rest × (map (λ y. y.1) vs ≡ ws)
links_back ts [] rest ws s e = ([], s, cc)
links_back ts (l ∷ ls) rest ws (mid, (m, c, s), more) e =
    let p = bare_parts l.1 (map (λ y. y.1) ls) ws e in
    let q = links_back mid ls rest p.1 more p.3 in
    ((l.0, p.0) ∷ q.0, (mid, (m, c, plain_item m l.1 p.0 mid s p.2), q.1), ap (λ (vs : List Word). p.0 ∷ vs) q.2 ∙ p.4)

-- one plain name
only_there : (ts : List Token) (w : Word) (rest : List Token) → name.spells ts w rest → names.spells ts (plain w ∷ []) rest
unfolding names
only_there ts w rest s = ((plain w, []), (rest, item_plain ts w rest s, refl), refl)

only_back : (ts : List Token) (is : List Item) (w : Word) (rest : List Token) → names.spells ts is rest → only_name is ≡ Some w → name.spells ts w rest
unfolding names
only_back ts is w rest ((i, []), (mid, s, d), z) e = subst (λ (m : List Token). name.spells ts w m) d (plain_item ts i w mid s (ap only_name z ∙ e))
only_back ts is w rest ((i, l ∷ ls), s, z) e = none_some w (ap only_name z ∙ e)

-- plain names
words_there : (ts : List Token) (ws : List Word) (rest : List Token) → (each_apart_by Comma name).spells ts ws rest → (is : List Item) × names.spells ts is rest × (bare_names is ≡ Some ws)
unfolding names
words_there ts ws rest ((w, ls), (mid, s, more), z) =
    (plain w ∷ map (λ y. y.1) (map plain_link ls), ((plain w, map plain_link ls), (mid, item_plain ts w mid s, links_there mid ls rest more), refl), rw (bare_plain ls) (ap Some z))

words_back : (ts : List Token) (is : List Item) (ws : List Word) (rest : List Token) → names.spells ts is rest → bare_names is ≡ Some ws → (each_apart_by Comma name).spells ts ws rest
unfolding names
words_back ts is ws rest ((i, ls), (mid, s, more), z) e =
    let p = bare_parts i (map (λ y. y.1) ls) ws (ap bare_names z ∙ e) in
    let q = links_back mid ls rest p.1 more p.3 in
    ((p.0, q.0), (mid, plain_item ts i p.0 mid s p.2, q.1), ap (λ (vs : List Word). p.0 ∷ vs) q.2 ∙ p.4)

word_begins : (us : List Token) → name.begins us → names.begins us
unfolding names
word_begins us h = inl (item_begins us h)

words_begin : (us : List Token) → (each_apart_by Comma name).begins us → names.begins us
unfolding names
words_begin us (inl h) = inl (item_begins us h)
words_begin us (inr (w, mid, s, (ls, m, more, inl h))) = inr (plain w, mid, item_plain us w mid s, (map plain_link ls, m, links_there mid ls m more, inl h))
words_begin us (inr (w, mid, s, (ls, m, more, inr (c, k, t, h)))) = inr (plain w, mid, item_plain us w mid s, (map plain_link ls, m, links_there mid ls m more, inr (c, k, t, item_begins k h)))

-- ---- each kind of declaration

module _ (whole : (us : List Token) (is : List Item) → names.spells us is [] → names.begins us) where
  device_spelled : (o : Option Word) (mid : List Token) (t : Declaration) (rest : List Token) → (device_behind o).spells mid t rest → (w : Word) × (o ≡ Some w) × (device_behind (Some w)).spells mid t rest
  device_spelled None mid t rest s = absurd s
  device_spelled (Some w) mid t rest s = (w, refl, s)

  device_begun : (o : Option Word) (mid : List Token) → (device_behind o).begins mid → (mid ≡ []) ⊎ ((w : Word) × (o ≡ Some w) × (device_behind (Some w)).begins mid)
  device_begun None mid h = inl h
  device_begun (Some w) mid h = inr (w, refl, h)

  device_narrow : Narrow device names (λ is. device_behind (only_name is))
  unfolding device
  device_narrow = record {
    there = λ ts t rest s. (plain s.0.0 ∷ [], s.1.0, only_there ts s.0.0 s.1.0 s.1.1, (s.0.1, s.1.2, s.2));
    back = λ ts is mid t rest s z. let k = device_spelled (only_name is) mid t rest z in ((k.0, k.2.0), (mid, only_back ts is k.0 mid s k.1, k.2.1), k.2.2);
    begins_there = λ us s. elim s [ inl h ↦ inl (word_begins us h) | inr (w, mid, h, k) ↦ inr (plain w ∷ [], mid, only_there us w mid h, k) ];
    begins_back = λ us is mid s z. elim (device_begun (only_name is) mid z) [
      | inl e ↦ inr (whole us is (subst (λ (m : List Token). names.spells us is m) e s))
      | inr (w, e, h) ↦ inl (inr (w, mid, only_back us is w mid s e, h))
    ];
  }

  constants_spelled : (e : Form Token Tree) (o : Option (List Word)) (mid : List Token) (t : Declaration) (rest : List Token) → (constants_behind o e).spells mid t rest
      → (ws : List Word) × (o ≡ Some ws) × (constants_behind (Some ws) e).spells mid t rest
  constants_spelled e None mid t rest s = absurd s
  constants_spelled e (Some ws) mid t rest s = (ws, refl, s)

  constants_begun : (e : Form Token Tree) (o : Option (List Word)) (mid : List Token) → (constants_behind o e).begins mid → (mid ≡ []) ⊎ ((ws : List Word) × (o ≡ Some ws) × (constants_behind (Some ws) e).begins mid)
  constants_begun e None mid h = inl h
  constants_begun e (Some ws) mid h = inr (ws, refl, h)

  constants_narrow : (e : Form Token Tree) → Narrow (constants e) names (λ is. constants_behind (bare_names is) e)
  unfolding constants
  constants_narrow e = record {
    there = λ ts t rest s.
        let k = words_there ts s.0.0 s.1.0 s.1.1 in
        (k.0, s.1.0, k.1, subst (λ (o : Option (List Word)). (constants_behind o e).spells s.1.0 t rest) (sym k.2) (s.0.1, s.1.2, s.2));
    back = λ ts is mid t rest s z. let k = constants_spelled e (bare_names is) mid t rest z in ((k.0, k.2.0), (mid, words_back ts is k.0 mid s k.1, k.2.1), k.2.2);
    begins_there = λ us s. elim s [
      | inl h ↦ inl (words_begin us h)
      | inr (ws, mid, h, b) ↦ let k = words_there us ws mid h in inr (k.0, mid, k.1, subst (λ (o : Option (List Word)). (constants_behind o e).begins mid) (sym k.2) b)
    ];
    begins_back = λ us is mid s z. elim (constants_begun e (bare_names is) mid z) [
      | inl d ↦ inr (whole us is (subst (λ (m : List Token). names.spells us is m) d s))
      | inr (ws, d, h) ↦ inl (inr (ws, mid, words_back us is ws mid s d, h))
    ];
  }

  pins_narrow : Narrow pins names (λ is. made (λ x. pins_of (is, x)) (kept Pin))
  unfolding pins
  pins_narrow = narrow_plain pins_of names (kept Pin)

  nodes_narrow : Narrow nodes names (λ is. made (λ x. nodes_of (is, x)) (kept Node))
  unfolding nodes
  nodes_narrow = narrow_plain nodes_of names (kept Node)

  attributes_narrow : Narrow attributes names (λ is. made (λ x. attributes_of (is, x)) (istype then one Semicolon))
  unfolding attributes
  attributes_narrow = narrow_plain attributes_of names (istype then one Semicolon)

  pins_begin : (us : List Token) → names.begins us → pins.begins us
  unfolding pins
  pins_begin us h = inl h

  pub naming_same : (n : ℕ) → Same (naming n) (naming_read n)
  unfolding naming
  naming_same n =
      narrow_same _ names (declared n) declared_in (λ x. refl)
      (narrow_either _ _ names _ _ device_narrow
      (narrow_either _ _ names _ _ pins_narrow
      (narrow_either _ _ names _ _ nodes_narrow
      (narrow_either _ _ names _ _ attributes_narrow (constants_narrow (expr n))))))
      (λ us h. inr (inl (pins_begin us h)))
