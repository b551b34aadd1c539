-- A module, and the same with its pins: if nothing is refused of what is declared and used in the one, nothing is in the
-- other.
use Rattle.std.proofs.Common.{◌≡◌, ℕ, Bool, true, false, ◌||◌, List, [], ◌∷◌, ◌++◌, map, zip, length, refl, sym, ap, ap₂, subst, ◌∙◌, append_assoc}
use Rattle.placer.proofs.Common.{list_any, append-nil, fold-append, Table, ADeviceName, Entry, numbers_of, Declaration, ADevice, SomePins, SomeNodes, SomeAttributes, SomeConstants, SomeOptions, DontCareFor, Statement, SectionTree, Declarations, Equations, ATable, ADiagram, SomeVectors, DontCareSection, ModuleTree, Use, section_uses, list_uses, given_names, entry, no_words, all_said, pin_entries, node_entries, constant_entries, node_count, declared, section_declarations, declared_names, names_behind, is_on_pin, is_taken, sections_refused, read_refusals, is_device, declaration_refused, declarations_refused, uses_refused, any_append, none_left, none_right, extends_behind, Pinned, placed_declaration, placed_declarations, placed_section, placed_module, with_equations}
use Rattle.decls.proofs.Telling.{taken_told}
use Rattle.placer.proofs.Entering.{IsWithin, HasPins}
use Rattle.placer.proofs.PlacedDeclarations.{IsAlong, placed_step}
use Rattle.placer.proofs.PlacedNames.{ArePlaced, uses_same}

-- ---- names stay within those of the whole module

taken_append : (es new : List Entry) (n : ℕ) → is_taken es n ≡ true → is_taken (es ++ new) n ≡ true
taken_append es new n on = any_append (λ (e : Entry). is_on_pin n e.kind) es new ∙ ap (λ b. b || is_taken new n) on

taken_more : (es : List Entry) (d : Declaration) (n : ℕ) → is_taken es n ≡ true → is_taken (declared es d) n ≡ true
taken_more es (ADevice name text) n on = taken_append es (entry name.text name.place ADeviceName no_words ∷ []) n on
taken_more es (SomePins names numbers attributes) n on = taken_append es (pin_entries (all_said attributes) (given_names names) (numbers_of (length (given_names names)) numbers)) n on
taken_more es (SomeNodes names numbers attributes) n on = taken_append es (node_entries (all_said attributes) (node_count es) (given_names names)) n on
taken_more es (SomeAttributes names attributes) n on = taken_told (given_names names) (all_said attributes) es n ∙ on
taken_more es (SomeConstants names values) n on = taken_append es (constant_entries (zip names values)) n on
taken_more es (SomeOptions words) n on = on
taken_more es (DontCareFor directive) n on = on

taken_behind : (front back : List Declaration) (n : ℕ) → is_taken (names_behind front) n ≡ true → is_taken (names_behind (front ++ back)) n ≡ true
taken_behind front [] n on = subst (λ l. is_taken (names_behind l) n ≡ true) (sym (append-nil front)) on
taken_behind front (d ∷ back) n on =
    subst (λ l. is_taken (names_behind l) n ≡ true) (append_assoc front (d ∷ []) back)
    (taken_behind (front ++ d ∷ []) back n (ap (λ l. is_taken l n) (fold-append declared [] front (d ∷ [])) ∙ taken_more (names_behind front) d n on))

-- the names after some of these declarations are within those after all of them
within_behind : (front back : List Declaration) → IsWithin (names_behind front) (names_behind (front ++ back))
within_behind front back = record { kinds = extends_behind front back; taken = taken_behind front back }

within_all : (ds front back rest : List Declaration) → ds ≡ front ++ back → IsWithin (names_behind front) (names_behind (ds ++ rest))
within_all ds front back rest same = subst (λ l. IsWithin (names_behind front) (names_behind l)) (sym (ap (λ l. l ++ rest) same ∙ append_assoc front back rest)) (within_behind front (back ++ rest))

module _ (t : Table) (whole : List Entry) (pins nodes : Pinned) (dc : List ℕ → Bool) (has : HasPins t whole pins nodes) where
  -- the walk over a front of the declarations
  pub record Walked (before after : List Declaration) (none : Type 0) : Type 0 where
    pub unrefused : none
    pub along : IsAlong t whole pins nodes dc has (names_behind before) (list_any is_device before) after

  push_names : (before : List Declaration) (d : Declaration) → names_behind (before ++ d ∷ []) ≡ declared (names_behind before) d
  push_names before d = fold-append declared [] before (d ∷ [])

  push_device : (before : List Declaration) (d : Declaration) → list_any is_device (before ++ d ∷ []) ≡ (list_any is_device before || is_device d)
  push_device before d = any_append is_device before (d ∷ []) ∙ ap (λ b. list_any is_device before || b) (or_false (is_device d))
    where
      or_false : (b : Bool) → (b || false) ≡ b
      or_false true = refl
      or_false false = refl

  refused_then : (after ds rest : List Declaration) → declarations_refused t after ds ≡ [] → declarations_refused t (after ++ ds) rest ≡ [] → declarations_refused t after (ds ++ rest) ≡ []
  refused_then after [] rest first second = subst (λ l. declarations_refused t l rest ≡ []) (append-nil after) second
  refused_then after (d ∷ ds) rest first second =
      ap₂ (λ a b. a ++ b) (none_left (declaration_refused t after d) _ first)
      (refused_then (after ++ d ∷ []) ds rest (none_right (declaration_refused t after d) _ first) (subst (λ l. declarations_refused t l rest ≡ []) (sym (append_assoc after (d ∷ []) ds)) second))

  pub declarations_walked : (before after ds : List Declaration) → ((front back : List Declaration) → ds ≡ front ++ back → IsWithin (names_behind (before ++ front)) whole)
      → IsAlong t whole pins nodes dc has (names_behind before) (list_any is_device before) after → declarations_refused t before ds ≡ []
      → Walked (before ++ ds) (after ++ placed_declarations pins nodes dc ds) (declarations_refused t after (placed_declarations pins nodes dc ds) ≡ [])
  declarations_walked before after [] within along none = record {
    unrefused = refl;
    along = subst (λ l. IsAlong t whole pins nodes dc has (names_behind l) (list_any is_device l) (after ++ [])) (sym (append-nil before)) (subst (λ l. IsAlong t whole pins nodes dc has (names_behind before) (list_any is_device before) l) (sym (append-nil after)) along);
  }
  declarations_walked before after (d ∷ ds) within along none =
      let here = none_left (declaration_refused t before d) _ none in
      let front = placed_declaration pins nodes dc d in
      let back = placed_declarations pins nodes dc ds in
      let step = placed_step t whole pins nodes dc has before after d along (subst (λ l. IsWithin l whole) (push_names before d) (within (d ∷ []) ds refl)) here in
      let next : IsAlong t whole pins nodes dc has (names_behind (before ++ d ∷ [])) (list_any is_device (before ++ d ∷ [])) (after ++ front) =
      subst (λ l. IsAlong t whole pins nodes dc has l (list_any is_device (before ++ d ∷ [])) (after ++ front)) (sym (push_names before d))
      (subst (λ b. IsAlong t whole pins nodes dc has (declared (names_behind before) d) b (after ++ front)) (sym (push_device before d)) step.along) in
      let rest = declarations_walked (before ++ d ∷ []) (after ++ front) ds
      (λ f b same. subst (λ l. IsWithin (names_behind l) whole) (sym (append_assoc before (d ∷ []) f)) (within (d ∷ f) b (ap (λ l. d ∷ l) same)))
      next (none_right (declaration_refused t before d) _ none) in
      record {
        unrefused = refused_then after front back step.none rest.unrefused;
        along =
            subst (λ l. IsAlong t whole pins nodes dc has (names_behind l) (list_any is_device l) (after ++ (front ++ back))) (append_assoc before (d ∷ []) ds)
            (subst (λ l. IsAlong t whole pins nodes dc has (names_behind ((before ++ d ∷ []) ++ ds)) (list_any is_device ((before ++ d ∷ []) ++ ds)) l) (append_assoc after front back) rest.along);
      }

  -- ---- sections

  -- nothing is refused of what they declare and use, and they declare the same with pins
  pub record SectionsWalked (before after : List Declaration) (xs : List SectionTree) : Type 0 where
    pub unrefused : (more : List SectionTree) → sections_refused t (after ++ section_declarations (map (placed_section pins nodes dc) xs)) more ≡ [] → sections_refused t after (map (placed_section pins nodes dc) xs ++ more) ≡ []
    pub along : IsAlong t whole pins nodes dc has (names_behind (before ++ section_declarations xs)) (list_any is_device (before ++ section_declarations xs)) (after ++ section_declarations (map (placed_section pins nodes dc) xs))

  uses_none : (before after : List Declaration) (us : List Use) → IsAlong t whole pins nodes dc has (names_behind before) (list_any is_device before) after → uses_refused (names_behind before) us ≡ [] → uses_refused (names_behind after) us ≡ []
  uses_none before after us along none = uses_same pins nodes dc (names_behind before) (names_behind after) along.names us ∙ none

  used_walked : (before after : List Declaration) (us : List Use) (xs : List SectionTree) → IsAlong t whole pins nodes dc has (names_behind before) (list_any is_device before) after → uses_refused (names_behind before) us ≡ [] → SectionsWalked before after xs
      → (more : List SectionTree) → sections_refused t (after ++ section_declarations (map (placed_section pins nodes dc) xs)) more ≡ [] → uses_refused (names_behind after) us ++ sections_refused t after (map (placed_section pins nodes dc) xs ++ more) ≡ []
  used_walked before after us xs along none rest more h = ap₂ (λ a b. a ++ b) (uses_none before after us along none) (rest.unrefused more h)

  pub sections_walked : (before after : List Declaration) (xs : List SectionTree) → ((front back : List Declaration) → section_declarations xs ≡ front ++ back → IsWithin (names_behind (before ++ front)) whole)
      → IsAlong t whole pins nodes dc has (names_behind before) (list_any is_device before) after → sections_refused t before xs ≡ [] → SectionsWalked before after xs
  sections_walked before after [] within along none = record {
    unrefused = λ more h. subst (λ l. sections_refused t l more ≡ []) (append-nil after) h;
    along = subst (λ l. IsAlong t whole pins nodes dc has (names_behind l) (list_any is_device l) (after ++ [])) (sym (append-nil before)) (subst (λ l. IsAlong t whole pins nodes dc has (names_behind before) (list_any is_device before) l) (sym (append-nil after)) along);
  }
  sections_walked before after (Declarations ds ∷ xs) within along none =
      let front = placed_declarations pins nodes dc ds in
      let back = section_declarations (map (placed_section pins nodes dc) xs) in
      let one = declarations_walked before after ds (λ f b same. within f (b ++ section_declarations xs) (ap (λ l. l ++ section_declarations xs) same ∙ append_assoc f b (section_declarations xs))) along (none_left (declarations_refused t before ds) _ none) in
      let rest = sections_walked (before ++ ds) (after ++ front) xs
      (λ f b same. subst (λ l. IsWithin (names_behind l) whole) (sym (append_assoc before ds f)) (within (ds ++ f) b (ap (λ l. ds ++ l) same ∙ sym (append_assoc ds f b))))
      one.along (none_right (declarations_refused t before ds) _ none) in
      record {
        unrefused = λ more h. ap₂ (λ a b. a ++ b) one.unrefused (rest.unrefused more (subst (λ l. sections_refused t l more ≡ []) (sym (append_assoc after front back)) h));
        along =
            subst (λ l. IsAlong t whole pins nodes dc has (names_behind l) (list_any is_device l) (after ++ (front ++ back))) (append_assoc before ds (section_declarations xs))
            (subst (λ l. IsAlong t whole pins nodes dc has (names_behind ((before ++ ds) ++ section_declarations xs)) (list_any is_device ((before ++ ds) ++ section_declarations xs)) l) (append_assoc after front back) rest.along);
      }
  sections_walked before after (Equations ss ∷ xs) within along none =
      let us = section_uses (Equations ss) in
      let rest = sections_walked before after xs within along (none_right (uses_refused (names_behind before) us) _ none) in
      record { unrefused = used_walked before after us xs along (none_left (uses_refused (names_behind before) us) _ none) rest; along = rest.along }
  sections_walked before after (ATable p inputs clocked outputs rows ∷ xs) within along none =
      let us = section_uses (ATable p inputs clocked outputs rows) in
      let rest = sections_walked before after xs within along (none_right (uses_refused (names_behind before) us) _ none) in
      record { unrefused = used_walked before after us xs along (none_left (uses_refused (names_behind before) us) _ none) rest; along = rest.along }
  sections_walked before after (ADiagram p registers states ∷ xs) within along none =
      let us = section_uses (ADiagram p registers states) in
      let rest = sections_walked before after xs within along (none_right (uses_refused (names_behind before) us) _ none) in
      record { unrefused = used_walked before after us xs along (none_left (uses_refused (names_behind before) us) _ none) rest; along = rest.along }
  sections_walked before after (SomeVectors text p inputs outputs rows ∷ xs) within along none =
      let us = section_uses (SomeVectors text p inputs outputs rows) in
      let rest = sections_walked before after xs within along (none_right (uses_refused (names_behind before) us) _ none) in
      record { unrefused = used_walked before after us xs along (none_left (uses_refused (names_behind before) us) _ none) rest; along = rest.along }
  sections_walked before after (DontCareSection d ∷ xs) within along none =
      let us = section_uses (DontCareSection d) in
      let rest = sections_walked before after xs within along (none_right (uses_refused (names_behind before) us) _ none) in
      record { unrefused = used_walked before after us xs along (none_left (uses_refused (names_behind before) us) _ none) rest; along = rest.along }

-- ---- the module

-- nothing is refused of what the placed module declares and uses, and its names are the module's with pins
pub record IsReadSo (t : Table) (pins nodes : Pinned) (dc : List ℕ → Bool) (m placed : ModuleTree) : Type 0 where
  pub none : read_refusals t placed ≡ []
  pub names : ArePlaced pins nodes dc (declared_names m) (declared_names placed)

pub module_read : (t : Table) (pins nodes : Pinned) (dc : List ℕ → Bool) (m : ModuleTree) (more : List Statement) → HasPins t (declared_names m) pins nodes → read_refusals t m ≡ []
    → uses_refused (declared_names m) (list_uses more) ≡ [] → IsReadSo t pins nodes dc m (placed_module pins nodes dc more m)
module_read t pins nodes dc m more has none known =
    let rest = section_declarations m.sections in
    let decls = placed_declarations pins nodes dc m.decls in
    let one = declarations_walked t (declared_names m) pins nodes dc has [] [] m.decls (λ front back same. within_all m.decls front back rest same) (record { names = tt; device_is = refl }) (none_left (declarations_refused t [] m.decls) _ none) in
    let two = sections_walked t (declared_names m) pins nodes dc has m.decls decls m.sections
    (λ front back same. subst (λ l. IsWithin (names_behind (m.decls ++ front)) (names_behind (m.decls ++ l))) (sym same) (subst (λ l. IsWithin (names_behind (m.decls ++ front)) (names_behind l)) (append_assoc m.decls front back) (within_behind (m.decls ++ front) back)))
    one.along (none_right (declarations_refused t [] m.decls) _ none) in
    record {
      none = ap₂ (λ a b. a ++ b) one.unrefused (two.unrefused (with_equations more) (equations_none (decls ++ section_declarations (map (placed_section pins nodes dc) m.sections)) more (uses_same pins nodes dc (declared_names m) (names_behind (decls ++ section_declarations (map (placed_section pins nodes dc) m.sections))) two.along.names (list_uses more) ∙ known)));
      names = subst (λ l. ArePlaced pins nodes dc (declared_names m) (names_behind (decls ++ l))) (sym (sections_same (map (placed_section pins nodes dc) m.sections) more)) two.along.names;
    }
  where
    equations_none : (before : List Declaration) (ss : List Statement) → uses_refused (names_behind before) (list_uses ss) ≡ [] → sections_refused t before (with_equations ss) ≡ []
    equations_none before [] h = refl
    equations_none before (s ∷ ss) h = ap₂ (λ a b. a ++ b) h refl

    sections_same : (xs : List SectionTree) (ss : List Statement) → section_declarations (xs ++ with_equations ss) ≡ section_declarations xs
    sections_same [] [] = refl
    sections_same [] (s ∷ ss) = refl
    sections_same (Declarations ds ∷ xs) ss = ap (λ l. ds ++ l) (sections_same xs ss)
    sections_same (Equations qs ∷ xs) ss = sections_same xs ss
    sections_same (ATable p inputs clocked outputs rows ∷ xs) ss = sections_same xs ss
    sections_same (ADiagram p registers states ∷ xs) ss = sections_same xs ss
    sections_same (SomeVectors text p inputs outputs rows ∷ xs) ss = sections_same xs ss
    sections_same (DontCareSection d ∷ xs) ss = sections_same xs ss
