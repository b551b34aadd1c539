-- The steps of declarations are what is refused of them, and what they declare.
use Rattle.std.proofs.Common.{◌≡◌, ℕ, cond, Bool, true, false, ◌||◌, List, [], ◌∷◌, ◌++◌, fold, map, zip, filter, drop, length, if◌then◌else◌, refl, sym, ap, ap₂, subst, ◌∙◌, append_assoc}
use Rattle.decls.proofs.Common.{list_any, append-nil, length-map, fold-append, drop-append_seam, Table, Item, Span, Word, ADeviceName, Entry, is_signal, names_any, passes, numbers_of, Tree, Declaration, ADevice, SomePins, SomeNodes, SomeAttributes, SomeConstants, SomeOptions, DontCareFor, SectionTree, Declarations, Equations, ATable, ADiagram, SomeVectors, DontCareSection, ModuleTree, Use, all_uses, section_uses, GivenName, given_names, entry, no_words, all_said, pin_entries, node_entries, constant_entries, node_count, with_words, declared, section_declarations, NameFault, all_declarations, strings_refused, names_behind, added, words_of_names, sections_refused, buffered, all_buffered, refused_if, name_refused, names_refused, ranges_refused, counts_refused, counts_differ, has_numbers, items_refused, is_device, given_count, parts_refused, declaration_refused, declarations_refused, uses_refused, Progress, nothing, refuse_if, refuse_all, used, entered, device_entered, pin_step, node_step, with_numbers, new_checked, signals_among, signals_wait, items_checked, declaration_step, section_step, module_steps}
use Rattle.decls.specs.declared.fault.NameFault.TheVariants as fault
use Rattle.decls.proofs.Folded.{any_append}
use Rattle.decls.proofs.FirstNames.{names_first, items_first, words_first}
use Rattle.decls.proofs.Goes.{Reached, Goes, followed, stays, refuses, plain_goes, uses_go}
use Rattle.decls.proofs.ManyGo.{pins_go, nodes_go, constants_go}
use Rattle.decls.proofs.Telling.{AreOnce, once_first, kind_told, told_progress, first_told, count_told, taken_told}

-- after these declarations all is as their definitions say
pub record Behind (t : Table) (ds : List Declaration) (s : Progress) : Type 0 where
  pub reached : Reached t (names_behind ds) s
  pub device : s.device ≡ list_any is_device ds
  pub waiting : s.waiting ≡ all_buffered [] ds

-- one more declaration refuses these more
pub record Moves (t : Table) (ds : List Declaration) (d : Declaration) (s n : Progress) : Type 0 where
  pub reached : Reached t (names_behind (ds ++ d ∷ [])) n
  pub faults : n.faults ≡ s.faults ++ declaration_refused t ds d
  pub device : n.device ≡ (list_any is_device ds || is_device d)
  pub waiting : n.waiting ≡ s.waiting ++ buffered (names_behind ds) d

pub behind_push : (ds : List Declaration) (d : Declaration) → names_behind (ds ++ d ∷ []) ≡ declared (names_behind ds) d
behind_push ds d = fold-append declared [] ds (d ∷ [])

-- the names that a declaration adds
pub added_is : (es : List Entry) (d : Declaration) (new : List Entry) → declared es d ≡ es ++ new → added es d ≡ new
added_is es d new e = ap (drop (length es)) e ∙ drop-append_seam es new

or_false : (a : Bool) → a ≡ (a || false)
or_false true = refl
or_false false = refl

or_true : (a : Bool) → true ≡ (a || true)
or_true true = refl
or_true false = refl

filter_same : (p q : GivenName → Bool) (xs : List GivenName) → ((x : GivenName) → p x ≡ q x) → filter p xs ≡ filter q xs
filter_same p q [] f = refl
filter_same p q (x ∷ xs) f = ap₂ (λ b (ys : List GivenName). cond b (x ∷ ys) ys) (f x) (filter_same p q xs f)

module _ (t : Table) (ds : List Declaration) (s : Progress) (b : Behind t ds s) where
  abbrev es : List Entry
  es = names_behind ds

  -- parts, and then names, so many of which have numbers
  move : (d : Declaration) (n : Progress) (given : ℕ) (new : List Entry) → given_count (names_behind ds) d ≡ given → declared (names_behind ds) d ≡ names_behind ds ++ new → Reached t (names_behind ds ++ new) n
      → n.faults ≡ s.faults ++ (parts_refused ds (names_behind ds) d ++ names_refused t (names_behind ds) given new) → n.device ≡ (list_any is_device ds || is_device d) → n.waiting ≡ s.waiting ++ buffered (names_behind ds) d → Moves t ds d s n
  move d n given new c e r f dev w = record {
    reached = subst (λ l. Reached t l n) (sym (behind_push ds d ∙ e)) r;
    faults = f ∙ ap₂ (λ k l. s.faults ++ (parts_refused ds (names_behind ds) d ++ names_refused t (names_behind ds) k l)) (sym c) (sym (added_is (names_behind ds) d new e));
    device = dev;
    waiting = w;
  }

  checked_goes : (wrong : Bool) (names : List Item) (attributes : List Word) → Goes t s (ranges_refused names ++ (counts_refused wrong names ++ strings_refused (no_words ∷ []) no_words attributes)) es (new_checked wrong names attributes s)
  checked_goes wrong names attributes =
      let strings = strings_refused (no_words ∷ []) no_words attributes in
      let one = refuses t s (ranges_refused names) es b.reached in
      let two = refuses t (refuse_all (ranges_refused names) s) (counts_refused wrong names) es one.reached in
      let three = refuses t (refuse_all (counts_refused wrong names) (refuse_all (ranges_refused names) s)) strings es two.reached in
      subst (λ fs. Goes t s fs es (new_checked wrong names attributes s)) (append_assoc (ranges_refused names) (counts_refused wrong names) strings)
      (followed t s (refuse_all (counts_refused wrong names) (refuse_all (ranges_refused names) s)) (new_checked wrong names attributes s) (ranges_refused names ++ counts_refused wrong names) strings es es
      (followed t s (refuse_all (ranges_refused names) s) (refuse_all (counts_refused wrong names) (refuse_all (ranges_refused names) s)) (ranges_refused names) (counts_refused wrong names) es es one two) three)

  waits : (l : List Entry) (m : Progress) (ws : List GivenName) → Reached t l m → Reached t l (record m { waiting = ws })
  waits l m ws r = record { entries = r.entries; nodes = r.nodes; taken = r.taken }

  no_device : (d : Declaration) (n : Progress) → is_device d ≡ false → n.device ≡ s.device → n.device ≡ (list_any is_device ds || is_device d)
  no_device d n i e = e ∙ (b.device ∙ (or_false (list_any is_device ds) ∙ ap (λ c. list_any is_device ds || c) (sym i)))

  -- a device
  device_moves : (name text : Word) → Moves t ds (ADevice name text) s (device_entered name s)
  device_moves name text =
      let f = fault.Redeclared name.place name.text in
      let e = entry name.text name.place ADeviceName no_words in
      let s1 = record s { device = true } in
      let r1 : Reached t es s1 = record { entries = b.reached.entries; nodes = b.reached.nodes; taken = b.reached.taken } in
      let g1 = counted s.device name s1 r1 in
      let g2 = plain_goes t es (refuse_if s.device f s1) g1.reached name.text name.place no_words in
      let g : Goes t s1 (refused_if s.device f ++ name_refused t es true e) (es ++ e ∷ []) (device_entered name s) =
      subst (λ m. Goes t s1 (refused_if s.device f ++ name_refused t es true e) (es ++ e ∷ []) (entered name.text name.place ADeviceName no_words m)) (sym (counted_same s.device name))
      (followed t s1 (refuse_if s.device f s1) (entered name.text name.place ADeviceName no_words (refuse_if s.device f s1)) (refused_if s.device f) (name_refused t es true e) es (es ++ e ∷ []) g1 g2) in
      move (ADevice name text) (device_entered name s) 1 (e ∷ []) (ap length (added_is es (ADevice name text) (e ∷ []) refl)) refl g.reached
      (g.faults ∙ ap₂ (λ c l. s.faults ++ (refused_if c f ++ l)) b.device (sym (append-nil (name_refused t es true e))))
      (g.device ∙ or_true (list_any is_device ds))
      (g.waiting ∙ sym (append-nil s.waiting))
    where
      counted : (c : Bool) (name : Word) (m : Progress) → Reached t es m → Goes t m (refused_if c (fault.Redeclared name.place name.text)) es (refuse_if c (fault.Redeclared name.place name.text) m)
      counted true name m r = refuses t m (fault.Redeclared name.place name.text ∷ []) es r
      counted false name m r = stays t m es r

      counted_same : (c : Bool) (name : Word) → record (refuse_if c (fault.Redeclared name.place name.text) s) { device = true } ≡ refuse_if c (fault.Redeclared name.place name.text) (record s { device = true })
      counted_same true name = refl
      counted_same false name = refl

  pins_moves : (names : List Item) (numbers : List Span) (attributes : List Word) → Moves t ds (SomePins names numbers attributes) s (declaration_step t s (SomePins names numbers attributes))
  pins_moves names numbers attributes =
      let w = all_said attributes in
      let xs = given_names names in
      let ns = numbers_of (length xs) numbers in
      let d = SomePins names numbers attributes in
      let m = new_checked (counts_differ names numbers) names attributes s in
      let g1 = checked_goes (counts_differ names numbers) names attributes in
      let n = fold (pin_step t w) m (with_numbers xs ns) in
      let new = pin_entries w xs ns in
      let g = followed t s m n (parts_refused ds es d) (names_refused t es (length ns) new) es (es ++ new) g1 (pins_go t w xs ns es m g1.reached) in
      move d (declaration_step t s d) (length ns) new refl refl
      (waits (es ++ new) n (n.waiting ++ (if w.buffer then xs else [])) g.reached)
      g.faults
      (no_device d (declaration_step t s d) refl g.device)
      (ap (λ l. l ++ (if w.buffer then xs else [])) g.waiting)

  nodes_moves : (names : List Item) (numbers : List Span) (attributes : List Word) → Moves t ds (SomeNodes names numbers attributes) s (declaration_step t s (SomeNodes names numbers attributes))
  nodes_moves names numbers attributes =
      let w = all_said attributes in
      let xs = given_names names in
      let new = node_entries w (node_count es) xs in
      let d = SomeNodes names numbers attributes in
      let m = new_checked (has_numbers numbers) names attributes s in
      let g1 = checked_goes (has_numbers numbers) names attributes in
      let n = fold (node_step w) m xs in
      let g = followed t s m n (parts_refused ds es d) (names_refused t es (length new) new) es (es ++ new) g1 (nodes_go t w xs (node_count es) es m g1.reached (sym g1.reached.nodes)) in
      move d (declaration_step t s d) (length new) new (ap length (added_is es d new refl)) refl
      (waits (es ++ new) n (n.waiting ++ (if w.buffer then xs else [])) g.reached)
      g.faults
      (no_device d (declaration_step t s d) refl g.device)
      (ap (λ l. l ++ (if w.buffer then xs else [])) g.waiting)

  constants_moves : (names : List Word) (values : List Tree) → Moves t ds (SomeConstants names values) s (declaration_step t s (SomeConstants names values))
  constants_moves names values =
      let new = constant_entries (zip names values) in
      let d = SomeConstants names values in
      let m = fold used s (all_uses values) in
      let g1 = uses_go t es s (all_uses values) b.reached in
      let g = followed t s m (declaration_step t s d) (parts_refused ds es d) (names_refused t es (length new) new) es (es ++ new) g1 (constants_go t (zip names values) es m g1.reached) in
      move d (declaration_step t s d) (length new) new (ap length (added_is es d new refl)) refl g.reached g.faults (no_device d (declaration_step t s d) refl g.device) (g.waiting ∙ sym (append-nil s.waiting))

  idle_moves : (d : Declaration) → declared es d ≡ es → given_count es d ≡ length (added es d) → parts_refused ds es d ≡ [] → is_device d ≡ false → buffered es d ≡ [] → Moves t ds d s s
  idle_moves d e c p i w =
      let none : declared es d ≡ es ++ [] = e ∙ sym (append-nil es) in
      move d s 0 [] (c ∙ ap length (added_is es d [] none)) none (subst (λ l. Reached t l s) (sym (append-nil es)) b.reached)
      (sym (append-nil s.faults) ∙ ap (λ l. s.faults ++ (l ++ [])) (sym p))
      (no_device d s i refl)
      (sym (append-nil s.waiting) ∙ ap (λ l. s.waiting ++ l) (sym w))

  -- more words
  items_goes : (names : List Item) (attributes : List Word) → Goes t s (items_refused es names ++ strings_refused (words_of_names es (given_names names)) no_words attributes) es (items_checked names attributes s)
  items_goes names attributes =
      let strings = strings_refused (words_of_names s.entries (given_names names)) no_words attributes in
      let one = refuses t s (items_refused s.entries names) es b.reached in
      let two = refuses t (refuse_all (items_refused s.entries names) s) strings es one.reached in
      subst (λ fs. Goes t s fs es (items_checked names attributes s))
      (ap₂ (λ fs ws. fs ++ strings_refused ws no_words attributes)
      (ap (λ l. items_refused l names) b.reached.entries ∙ items_first es names)
      (ap (λ l. words_of_names l (given_names names)) b.reached.entries ∙ words_first es (given_names names)))
      (followed t s (refuse_all (items_refused s.entries names) s) (items_checked names attributes s) (items_refused s.entries names) strings es es one two)

  nothing_added : (names : List Item) (attributes : List Word) → added es (SomeAttributes names attributes) ≡ []
  nothing_added names attributes =
      let f = with_words (given_names names) (all_said attributes) in
      let n : length es ≡ length (map f es) = sym (length-map es f) in
      ap (λ k. drop k (map f es)) n ∙ (ap (drop (length (map f es))) (sym (append-nil (map f es))) ∙ drop-append_seam (map f es) [])

  attributes_moves : (names : List Item) (attributes : List Word) → Moves t ds (SomeAttributes names attributes) s (declaration_step t s (SomeAttributes names attributes))
  attributes_moves names attributes =
      let w = all_said attributes in
      let xs = given_names names in
      let d = SomeAttributes names attributes in
      let f = with_words xs w in
      let m = items_checked names attributes s in
      let g = items_goes names attributes in
      let told = told_progress w xs m (subst AreOnce (sym g.reached.entries) (once_first es)) in
      let n = record m { entries = map f m.entries } in
      let r : Reached t (map f es) n = record {
        entries = ap (map f) g.reached.entries ∙ first_told xs w es;
        nodes = g.reached.nodes ∙ sym (count_told xs w es);
        taken = λ k h. g.reached.taken k h ∙ sym (taken_told xs w es k);
      } in
      let among : signals_among (map f m.entries) xs ≡ filter (λ (x : GivenName). names_any is_signal es x.name) xs =
      filter_same (λ (x : GivenName). names_any is_signal (map f m.entries) x.name) (λ (x : GivenName). names_any is_signal es x.name) xs
      (λ (x : GivenName). ap (passes is_signal) (kind_told xs w m.entries x.name) ∙ (ap (λ l. names_any is_signal l x.name) g.reached.entries ∙ names_first is_signal es x.name)) in
      subst (λ p. Moves t ds d s (signals_wait w.buffer xs p)) (sym told)
      (record {
        reached = subst (λ l. Reached t l (signals_wait w.buffer xs n)) (sym (behind_push ds d)) (record { entries = r.entries; nodes = r.nodes; taken = r.taken });
        faults = g.faults ∙ ap (λ l. s.faults ++ l) (sym (append-nil (parts_refused ds es d)) ∙ ap (λ l. parts_refused ds es d ++ names_refused t es (length l) l) (sym (nothing_added names attributes)));
        device = no_device d (signals_wait w.buffer xs n) refl g.device;
        waiting = ap₂ (λ l k. l ++ (if w.buffer then k else [])) g.waiting among;
      })

  pub declaration_moves : (d : Declaration) → Moves t ds d s (declaration_step t s d)
  declaration_moves (ADevice name text) = device_moves name text
  declaration_moves (SomePins names numbers attributes) = pins_moves names numbers attributes
  declaration_moves (SomeNodes names numbers attributes) = nodes_moves names numbers attributes
  declaration_moves (SomeAttributes names attributes) = attributes_moves names attributes
  declaration_moves (SomeConstants names values) = constants_moves names values
  declaration_moves (SomeOptions words) = idle_moves (SomeOptions words) refl refl refl refl refl
  declaration_moves (DontCareFor directive) = idle_moves (DontCareFor directive) refl refl refl refl refl

-- ---- all declarations

pub buffered_push : (before ds : List Declaration) (d : Declaration) → all_buffered before (ds ++ d ∷ []) ≡ all_buffered before ds ++ buffered (names_behind (before ++ ds)) d
buffered_push before [] d = append-nil (buffered (names_behind before) d) ∙ ap (λ l. buffered (names_behind l) d) (sym (append-nil before))
buffered_push before (x ∷ ds) d =
    ap (λ l. buffered (names_behind before) x ++ l) (buffered_push (before ++ x ∷ []) ds d ∙ ap (λ l. all_buffered (before ++ x ∷ []) ds ++ buffered (names_behind l) d) (append_assoc before (x ∷ []) ds))
    ∙ sym (append_assoc (buffered (names_behind before) x) (all_buffered (before ++ x ∷ []) ds) (buffered (names_behind (before ++ x ∷ ds)) d))

moved : (t : Table) (ds : List Declaration) (d : Declaration) (s n : Progress) → Behind t ds s → Moves t ds d s n → Behind t (ds ++ d ∷ []) n
moved t ds d s n b m = record {
  reached = m.reached;
  device = m.device ∙ (ap (λ c. list_any is_device ds || c) (or_false (is_device d)) ∙ sym (any_append is_device ds (d ∷ [])));
  waiting = m.waiting ∙ (ap (λ l. l ++ buffered (names_behind ds) d) b.waiting ∙ sym (buffered_push [] ds d));
}

pub record Read (t : Table) (ds : List Declaration) (fs : List NameFault) (n : Progress) : Type 0 where
  pub behind : Behind t ds n
  pub faults : n.faults ≡ fs

pub declarations_go : (t : Table) (before rest : List Declaration) (s : Progress) → Behind t before s → Read t (before ++ rest) (s.faults ++ declarations_refused t before rest) (fold (declaration_step t) s rest)
declarations_go t before [] s b = record { behind = subst (λ l. Behind t l s) (sym (append-nil before)) b; faults = sym (append-nil s.faults) }
declarations_go t before (d ∷ rest) s b =
    let m = declaration_moves t before s b d in
    let r = declarations_go t (before ++ d ∷ []) rest (declaration_step t s d) (moved t before d s (declaration_step t s d) b m) in
    record {
      behind = subst (λ l. Behind t l (fold (declaration_step t) s (d ∷ rest))) (append_assoc before (d ∷ []) rest) r.behind;
      faults = r.faults ∙ (ap (λ l. l ++ declarations_refused t (before ++ d ∷ []) rest) m.faults ∙ append_assoc s.faults (declaration_refused t before d) (declarations_refused t (before ++ d ∷ []) rest));
    }

-- ---- sections

uses_read : (t : Table) (before : List Declaration) (s : Progress) (us : List Use) → Behind t before s → Read t before (s.faults ++ uses_refused (names_behind before) us) (fold used s us)
uses_read t before s us b =
    let g = uses_go t (names_behind before) s us b.reached in
    record { behind = record { reached = g.reached; device = g.device ∙ b.device; waiting = g.waiting ∙ b.waiting }; faults = g.faults }

-- a section that declares nothing, and then the others
other_then : (t : Table) (before : List Declaration) (x : SectionTree) (s : Progress) (fs : List NameFault) (ds : List Declaration) (n : Progress) → Behind t before s → (Behind t before (fold used s (section_uses x)) → Read t ds ((fold used s (section_uses x)).faults ++ fs) n) → Read t ds (s.faults ++ (uses_refused (names_behind before) (section_uses x) ++ fs)) n
other_then t before x s fs ds n b f =
    let u = uses_read t before s (section_uses x) b in
    let r = f u.behind in
    record { behind = r.behind; faults = r.faults ∙ (ap (λ l. l ++ fs) u.faults ∙ append_assoc s.faults (uses_refused (names_behind before) (section_uses x)) fs) }

pub sections_go : (t : Table) (before : List Declaration) (xs : List SectionTree) (s : Progress) → Behind t before s → Read t (before ++ section_declarations xs) (s.faults ++ sections_refused t before xs) (fold (section_step t) s xs)
sections_go t before [] s b = record { behind = subst (λ l. Behind t l s) (sym (append-nil before)) b; faults = sym (append-nil s.faults) }
sections_go t before (Declarations ds ∷ xs) s b =
    let m = declarations_go t before ds s b in
    let r = sections_go t (before ++ ds) xs (fold (declaration_step t) s ds) m.behind in
    record {
      behind = subst (λ l. Behind t l (fold (section_step t) s (Declarations ds ∷ xs))) (append_assoc before ds (section_declarations xs)) r.behind;
      faults = r.faults ∙ (ap (λ l. l ++ sections_refused t (before ++ ds) xs) m.faults ∙ append_assoc s.faults (declarations_refused t before ds) (sections_refused t (before ++ ds) xs));
    }
sections_go t before (Equations ss ∷ xs) s b = other_then t before (Equations ss) s (sections_refused t before xs) _ _ b (λ c. sections_go t before xs _ c)
sections_go t before (ATable p inputs clocked outputs rows ∷ xs) s b = other_then t before (ATable p inputs clocked outputs rows) s (sections_refused t before xs) _ _ b (λ c. sections_go t before xs _ c)
sections_go t before (ADiagram p registers states ∷ xs) s b = other_then t before (ADiagram p registers states) s (sections_refused t before xs) _ _ b (λ c. sections_go t before xs _ c)
sections_go t before (SomeVectors text p inputs outputs rows ∷ xs) s b = other_then t before (SomeVectors text p inputs outputs rows) s (sections_refused t before xs) _ _ b (λ c. sections_go t before xs _ c)
sections_go t before (DontCareSection d ∷ xs) s b = other_then t before (DontCareSection d) s (sections_refused t before xs) _ _ b (λ c. sections_go t before xs _ c)

-- ---- the module

empty : (t : Table) → Behind t [] nothing
empty t = record { reached = record { entries = refl; nodes = refl; taken = λ n h. refl }; device = refl; waiting = refl }

pub module_go : (t : Table) (m : ModuleTree) → Read t (all_declarations m) (declarations_refused t [] m.decls ++ sections_refused t m.decls m.sections) (module_steps t m)
module_go t m =
    let d = declarations_go t [] m.decls nothing (empty t) in
    let r = sections_go t m.decls m.sections (fold (declaration_step t) nothing m.decls) d.behind in
    record { behind = r.behind; faults = r.faults ∙ ap (λ l. l ++ sections_refused t m.decls m.sections) d.faults }
