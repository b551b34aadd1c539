-- If no node becomes a pin, no more registers are declared `buffer` than before.
use Rattle.std.proofs.Common.{◌≡◌, ℕ, zero, suc, ◌+◌, Bool, true, false, not, ◌&&◌, Option, None, Some, List, [], ◌∷◌, ◌++◌, map, filter, if◌then◌else◌, cond, refl, sym, ap, ap₂, subst, ◌∙◌, append_assoc, is_some, slice_get, bytes_eq}
use Rattle.placer.proofs.Common.{list_all, flat_map, position_from, position_from-zero, append-nil, Table, Word, Named, Assigned, meant, named_after, named_of, list_assigns, section_assigns, sections_assign, is_clocked_target, Kind, APin, ANode, AConstant, ADeviceName, Words, Entry, find, is_signal, names_any, Declaration, ADevice, SomePins, SomeNodes, SomeAttributes, SomeConstants, SomeOptions, DontCareFor, Statement, SectionTree, Declarations, Equations, ATable, ADiagram, SomeVectors, DontCareSection, ModuleTree, GivenName, given_names, all_said, section_declarations, declared_names, is_registered, always_inverts, buffered, all_buffered, is_register_at, buffers_refused, module_buffers_refused, names_once, read_refusals, names_behind, items_refused, parts_refused, declaration_refused, declarations_refused, none_left, none_right, module_accepted, items_signals, Pinned, node_declaration, unpinned, unpinned_items, placed_declaration, placed_declarations, placed_section, placed_module, with_equations}
use Rattle.decls.specs.declared.fault.NameFault.TheVariants as fault
use Rattle.decls.specs.AllDeclarations.{all_declarations}
use Rattle.declared_names.proofs.Buffers.{registered_by, declared_at}
use Rattle.placer.proofs.DeclarationParts.{given_single}
use Rattle.placer.proofs.PlacedNames.{IsPlacedKind, placed_words, ArePlaced, kind_signal}
use Rattle.placer.proofs.PlacedSections.{IsReadSo}

-- ---- what sections assign

-- a name represents the same as a target
meant_same : (p n : Option ℕ) (k l : Kind) → IsPlacedKind p n k l → (ks : List Named) (s : ℕ) → meant ks s l ≡ meant ks s k
meant_same p n (APin pin negated) l is ks s = ap (meant ks s) is
meant_same p None (ANode i) l is ks s = ap (meant ks s) is.1.1
meant_same p (Some q) (ANode i) l is ks s = ap (meant ks s) is
meant_same p n (AConstant value) l is ks s = ap (meant ks s) is
meant_same p n ADeviceName l is ks s = ap (meant ks s) is

module _ (pins nodes : Pinned) (dc : List ℕ → Bool) where
  after_same : (es fs : List Entry) → ArePlaced pins nodes dc es fs → (ks : List Named) (s : ℕ) → named_after ks s fs ≡ named_after ks s es
  after_same [] [] are ks s = refl
  after_same [] (f ∷ fs) are ks s = absurd are
  after_same (e ∷ es) [] are ks s = absurd are
  after_same (e ∷ es) (f ∷ fs) are ks s =
      ap₂ (λ (n : List ℕ) ss. named_after (ks ++ record { name = n; signals = ss } ∷ []) (suc s) fs) are.0.name (meant_same (pins e.name) (nodes e.name) e.kind f.kind are.0.kind ks s)
      ∙ after_same es fs are.1 (ks ++ record { name = e.name; signals = meant ks s e.kind } ∷ []) (suc s)

  pub named_same : (es fs : List Entry) → ArePlaced pins nodes dc es fs → named_of fs ≡ named_of es
  named_same es fs are = after_same es fs are [] 0

  pub assigns_same : (ks : List Named) (xs : List SectionTree) (more : List Statement) → list_assigns ks more ≡ [] → sections_assign ks (map (placed_section pins nodes dc) xs ++ with_equations more) ≡ sections_assign ks xs
  assigns_same ks [] [] quiet = refl
  assigns_same ks [] (s ∷ ss) quiet = ap (λ l. l ++ []) quiet
  assigns_same ks (Declarations ds ∷ xs) more quiet = assigns_same ks xs more quiet
  assigns_same ks (Equations ss ∷ xs) more quiet = ap (λ l. section_assigns ks (Equations ss) ++ l) (assigns_same ks xs more quiet)
  assigns_same ks (ATable p inputs clocked outputs rows ∷ xs) more quiet = ap (λ l. section_assigns ks (ATable p inputs clocked outputs rows) ++ l) (assigns_same ks xs more quiet)
  assigns_same ks (ADiagram p registers states ∷ xs) more quiet = ap (λ l. section_assigns ks (ADiagram p registers states) ++ l) (assigns_same ks xs more quiet)
  assigns_same ks (SomeVectors text p inputs outputs rows ∷ xs) more quiet = assigns_same ks xs more quiet
  assigns_same ks (DontCareSection d ∷ xs) more quiet = assigns_same ks xs more quiet

-- ---- the names of strings that say `buffer`

-- whatever is declared before
abbrev said_buffer : Declaration → List GivenName
said_buffer (SomePins names numbers attributes) = if (all_said attributes).buffer then given_names names else []
said_buffer (SomeNodes names numbers attributes) = if (all_said attributes).buffer then given_names names else []
said_buffer (SomeAttributes names attributes) = if (all_said attributes).buffer then given_names names else []
said_buffer _ = []

all_kept : (p : GivenName → Bool) (xs : List GivenName) → list_all p xs ≡ true → filter p xs ≡ xs
all_kept p [] all = refl
all_kept p (x ∷ xs) all = by (p x) all (all_kept p xs)
  where
    by : (b : Bool) → (b && list_all p xs) ≡ true → (list_all p xs ≡ true → filter p xs ≡ xs) → (if b then x ∷ filter p xs else filter p xs) ≡ x ∷ xs
    by true rest later = ap (λ l. x ∷ l) (later rest)
    by false rest later = absurd cc

buffered_said : (before : List Declaration) (es : List Entry) (d : Declaration) → parts_refused before es d ≡ [] → buffered es d ≡ said_buffer d
buffered_said before es (ADevice name text) none = refl
buffered_said before es (SomePins names numbers attributes) none = refl
buffered_said before es (SomeNodes names numbers attributes) none = refl
buffered_said before es (SomeAttributes names attributes) none =
    ap (λ l. if (all_said attributes).buffer then l else []) (all_kept (λ (x : GivenName). names_any is_signal es x.name) (given_names names) (items_signals es names (none_left (items_refused es names) _ none)))
buffered_said before es (SomeConstants names values) none = refl
buffered_said before es (SomeOptions words) none = refl
buffered_said before es (DontCareFor directive) none = refl

all_said_buffer : (t : Table) (before ds : List Declaration) → declarations_refused t before ds ≡ [] → all_buffered before ds ≡ flat_map said_buffer ds
all_said_buffer t before [] none = refl
all_said_buffer t before (d ∷ ds) none =
    ap₂ (λ a b. a ++ b) (buffered_said before (names_behind before) d (none_left (parts_refused before (names_behind before) d) _ (none_left (declaration_refused t before d) _ none)))
    (all_said_buffer t (before ++ d ∷ []) ds (none_right (declaration_refused t before d) _ none))

flat_append : (f : Declaration → List GivenName) (xs ys : List Declaration) → flat_map f (xs ++ ys) ≡ flat_map f xs ++ flat_map f ys
flat_append f [] ys = refl
flat_append f (x ∷ xs) ys = ap (λ l. f x ++ l) (flat_append f xs ys) ∙ sym (append_assoc (f x) (flat_map f xs) (flat_map f ys))

module _ (pins nodes : Pinned) (dc : List ℕ → Bool) (none_pinned : (name : List ℕ) → nodes name ≡ None) where
  single_said : (attributes : List Word) (x : GivenName) → said_buffer (node_declaration nodes dc attributes x) ≡ (if (all_said attributes).buffer then x ∷ [] else [])
  single_said attributes x = rw (none_pinned x.name) refl

  singles_said : (attributes : List Word) (xs : List GivenName) → flat_map said_buffer (map (node_declaration nodes dc attributes) xs) ≡ (if (all_said attributes).buffer then xs else [])
  singles_said attributes [] = both (all_said attributes).buffer
    where
      both : (b : Bool) → ◌≡◌ {A = List GivenName} [] (if b then [] else [])
      both true = refl
      both false = refl
  singles_said attributes (x ∷ xs) = ap₂ (λ a b. a ++ b) (single_said attributes x) (singles_said attributes xs) ∙ both (all_said attributes).buffer
    where
      both : (b : Bool) → ((if b then x ∷ [] else []) ++ (if b then xs else [])) ≡ (if b then x ∷ xs else [])
      both true = refl
      both false = refl

  all_unpinned : (xs : List GivenName) → list_all (λ (x : GivenName). not (is_some (nodes x.name))) xs ≡ true
  all_unpinned [] = refl
  all_unpinned (x ∷ xs) = ap₂ (λ a b. not (is_some a) && b) (none_pinned x.name) (all_unpinned xs)

  placed_said : (d : Declaration) → flat_map said_buffer (placed_declaration pins nodes dc d) ≡ said_buffer d
  placed_said (ADevice name text) = refl
  placed_said (SomePins names [] attributes) = append-nil (said_buffer (SomePins names [] attributes))
  placed_said (SomePins names (n ∷ ns) attributes) = append-nil (said_buffer (SomePins names (n ∷ ns) attributes))
  placed_said (SomeNodes names numbers attributes) = singles_said attributes (given_names names)
  placed_said (SomeAttributes names attributes) =
      append-nil (said_buffer (SomeAttributes (unpinned_items nodes names) attributes))
      ∙ ap (λ l. if (all_said attributes).buffer then l else []) (given_single (unpinned nodes names) ∙ all_kept (λ (x : GivenName). not (is_some (nodes x.name))) (given_names names) (all_unpinned (given_names names)))
  placed_said (SomeConstants names values) = refl
  placed_said (SomeOptions words) = refl
  placed_said (DontCareFor directive) = refl

  all_placed_said : (ds : List Declaration) → flat_map said_buffer (placed_declarations pins nodes dc ds) ≡ flat_map said_buffer ds
  all_placed_said [] = refl
  all_placed_said (d ∷ ds) = flat_append said_buffer (placed_declaration pins nodes dc d) (placed_declarations pins nodes dc ds) ∙ ap₂ (λ a b. a ++ b) (placed_said d) (all_placed_said ds)

  sections_said : (xs : List SectionTree) (more : List Statement) → flat_map said_buffer (section_declarations (map (placed_section pins nodes dc) xs ++ with_equations more)) ≡ flat_map said_buffer (section_declarations xs)
  sections_said [] [] = refl
  sections_said [] (s ∷ ss) = refl
  sections_said (Declarations ds ∷ xs) more =
      flat_append said_buffer (placed_declarations pins nodes dc ds) (section_declarations (map (placed_section pins nodes dc) xs ++ with_equations more))
      ∙ (ap₂ (λ a b. a ++ b) (all_placed_said ds) (sections_said xs more) ∙ sym (flat_append said_buffer ds (section_declarations xs)))
  sections_said (Equations ss ∷ xs) more = sections_said xs more
  sections_said (ATable p inputs clocked outputs rows ∷ xs) more = sections_said xs more
  sections_said (ADiagram p registers states ∷ xs) more = sections_said xs more
  sections_said (SomeVectors text p inputs outputs rows ∷ xs) more = sections_said xs more
  sections_said (DontCareSection d ∷ xs) more = sections_said xs more

  module_said : (m : ModuleTree) (more : List Statement) → flat_map said_buffer (all_declarations (placed_module pins nodes dc more m)) ≡ flat_map said_buffer (all_declarations m)
  module_said m more =
      flat_append said_buffer (placed_declarations pins nodes dc m.decls) (section_declarations (map (placed_section pins nodes dc) m.sections ++ with_equations more))
      ∙ (ap₂ (λ a b. a ++ b) (all_placed_said m.decls) (sections_said m.sections more) ∙ sym (flat_append said_buffer m.decls (section_declarations m.sections)))

  -- ---- registers by their names

  find_from : (es fs : List Entry) → ArePlaced pins nodes dc es fs → (name : List ℕ) (i : ℕ) → position_from (λ (e : Entry). bytes_eq name e.name) i fs ≡ position_from (λ (e : Entry). bytes_eq name e.name) i es
  find_from [] [] are name i = refl
  find_from [] (f ∷ fs) are name i = absurd are
  find_from (e ∷ es) [] are name i = absurd are
  find_from (e ∷ es) (f ∷ fs) are name i = ap₂ (λ n o. cond (bytes_eq name n) (Some i) o) are.0.name (find_from es fs are.1 name (i + 1))

  find_same : (es fs : List Entry) → ArePlaced pins nodes dc es fs → (name : List ℕ) → find fs name ≡ find es name
  find_same es fs are name = position_from-zero (λ (e : Entry). bytes_eq name e.name) fs ∙ (find_from es fs are name 0 ∙ sym (position_from-zero (λ (e : Entry). bytes_eq name e.name) es))

  registered_same : (es fs : List Entry) → ArePlaced pins nodes dc es fs → (found : List Assigned) (s n : ℕ) → registered_by found s (slice_get fs n) ≡ registered_by found s (slice_get es n)
  registered_same [] [] are found s n = refl
  registered_same [] (f ∷ fs) are found s n = absurd are
  registered_same (e ∷ es) [] are found s n = absurd are
  registered_same (e ∷ es) (f ∷ fs) are found s zero =
      ap₂ (λ b (w : Words). b && is_registered w (is_clocked_target found s)) (kind_signal pins nodes dc (pins e.name) (nodes e.name) e.kind f.kind are.0.kind)
      (are.0.words ∙ ap (λ o. placed_words o (dc e.name) e.words) (none_pinned e.name))
  registered_same (e ∷ es) (f ∷ fs) are found s (suc n) = registered_same es fs are.1 found s n

  register_same : (es fs : List Entry) → ArePlaced pins nodes dc es fs → (found : List Assigned) (o : Option ℕ) → is_register_at found fs o ≡ is_register_at found es o
  register_same es fs are found None = refl
  register_same es fs are found (Some n) = sym (declared_at found fs n) ∙ (registered_same es fs are found n n ∙ declared_at found es n)

  buffers_same : (es fs : List Entry) → ArePlaced pins nodes dc es fs → (found : List Assigned) (xs : List GivenName) → buffers_refused found fs xs ≡ buffers_refused found es xs
  buffers_same es fs are found [] = refl
  buffers_same es fs are found (x ∷ xs) =
      ap₂ (λ b l. (if b then fault.BadAttribute x.place ∷ [] else []) ++ l) (ap (is_register_at found fs) (find_same es fs are x.name) ∙ register_same es fs are found (find es x.name)) (buffers_same es fs are found xs)

-- ---- the module

pub buffers_none : (t : Table) (pins nodes : Pinned) (dc : List ℕ → Bool) (m : ModuleTree) (more : List Statement) → ((ks : List Named) → list_assigns ks more ≡ []) → (always_inverts t ≡ true → (name : List ℕ) → nodes name ≡ None)
    → read_refusals t m ≡ [] → IsReadSo t pins nodes dc m (placed_module pins nodes dc more m) → module_buffers_refused t m ≡ [] → module_buffers_refused t (placed_module pins nodes dc more m) ≡ []
buffers_none t pins nodes dc m more quiet unpinned_if none so buffers = by (always_inverts t) refl
  where
    by : (b : Bool) → always_inverts t ≡ b → module_buffers_refused t (placed_module pins nodes dc more m) ≡ []
    by false is = ap (λ b. if b then buffers_refused (sections_assign (named_of (names_once (placed_module pins nodes dc more m))) (placed_module pins nodes dc more m).sections) (names_once (placed_module pins nodes dc more m)) (all_buffered [] (all_declarations (placed_module pins nodes dc more m))) else []) is
    by true is =
        let es = declared_names m in
        let fs = declared_names (placed_module pins nodes dc more m) in
        let a = module_accepted t m none in
        let b = module_accepted t (placed_module pins nodes dc more m) so.none in
        let named = unpinned_if is in
        let old : buffers_refused (sections_assign (named_of es) m.sections) es (all_buffered [] (all_declarations m)) ≡ [] =
        subst (λ l. buffers_refused (sections_assign (named_of l) m.sections) l (all_buffered [] (all_declarations m)) ≡ []) a.sure.once
        (sym (ap (λ c. if c then buffers_refused (sections_assign (named_of (names_once m)) m.sections) (names_once m) (all_buffered [] (all_declarations m)) else []) is) ∙ buffers) in
        let found : sections_assign (named_of fs) (placed_module pins nodes dc more m).sections ≡ sections_assign (named_of es) m.sections =
        ap (λ ks. sections_assign ks (placed_module pins nodes dc more m).sections) (named_same pins nodes dc es fs so.names) ∙ assigns_same pins nodes dc (named_of es) m.sections more (quiet (named_of es)) in
        let said : all_buffered [] (all_declarations (placed_module pins nodes dc more m)) ≡ all_buffered [] (all_declarations m) =
        all_said_buffer t [] (all_declarations (placed_module pins nodes dc more m)) b.unrefused ∙ (module_said pins nodes dc named m more ∙ sym (all_said_buffer t [] (all_declarations m) a.unrefused)) in
        ap (λ c. if c then buffers_refused (sections_assign (named_of (names_once (placed_module pins nodes dc more m))) (placed_module pins nodes dc more m).sections) (names_once (placed_module pins nodes dc more m)) (all_buffered [] (all_declarations (placed_module pins nodes dc more m))) else []) is
        ∙ (ap (λ l. buffers_refused (sections_assign (named_of l) (placed_module pins nodes dc more m).sections) l (all_buffered [] (all_declarations (placed_module pins nodes dc more m)))) b.sure.once
        ∙ (ap₂ (λ k l. buffers_refused k fs l) found said
        ∙ (buffers_same pins nodes dc named es fs so.names (sections_assign (named_of es) m.sections) (all_buffered [] (all_declarations m)) ∙ old)))
