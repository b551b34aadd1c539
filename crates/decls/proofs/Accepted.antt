-- If nothing is refused of a module, its names are sound, and each name that is used is known.
use Rattle.std.proofs.Common.{◌≡◌, true, List, [], ◌∷◌, ◌++◌, map, zip, length, refl, sym, ap, ap₂, subst, ◌∙◌, append_assoc}
use Rattle.decls.proofs.Common.{All, All-nil, append-nil, Table, ADeviceName, Entry, numbers_of, are_named, declaration_uses, declarations_uses, sections_uses, module_uses, Declaration, ADevice, SomePins, SomeNodes, SomeAttributes, SomeConstants, SomeOptions, DontCareFor, SectionTree, Declarations, Equations, ATable, ADiagram, SomeVectors, DontCareSection, ModuleTree, Use, all_uses, section_uses, given_names, entry, no_words, all_said, pin_entries, node_entries, constant_entries, node_count, with_words, declared, section_declarations, all_declarations, all_buffered, buffered, sections_refused, read_refusals, names_behind, parts_refused, declaration_refused, declarations_refused, uses_refused}
use Rattle.decls.proofs.DeclarationsGo.{behind_push, buffered_push}
use Rattle.decls.proofs.NoRefusals.{none_left, none_right}
use Rattle.decls.proofs.NamesAlike.{Extends, extends_same, extends_then, extends_append, extends_alike, alike_told, named_more}
use Rattle.decls.proofs.Named.{uses_known, named_append}
use Rattle.decls.proofs.SaidBuffers.{IsTold, told_declaration}
use Rattle.decls.proofs.SureNames.{Sure, sure_declaration}

-- ---- one declaration

extends_declaration : (es : List Entry) (d : Declaration) → Extends es (declared es d)
extends_declaration es (ADevice name text) = extends_append es (entry name.text name.place ADeviceName no_words ∷ [])
extends_declaration es (SomePins names numbers attributes) = extends_append es (pin_entries (all_said attributes) (given_names names) (numbers_of (length (given_names names)) numbers))
extends_declaration es (SomeNodes names numbers attributes) = extends_append es (node_entries (all_said attributes) (node_count es) (given_names names))
extends_declaration es (SomeAttributes names attributes) =
    let f = with_words (given_names names) (all_said attributes) in
    extends_alike es (map f es) (alike_told (given_names names) (all_said attributes) es)
extends_declaration es (SomeConstants names values) = extends_append es (constant_entries (zip names values))
extends_declaration es (SomeOptions words) = extends_same es
extends_declaration es (DontCareFor directive) = extends_same es

declaration_known : (before : List Declaration) (es : List Entry) (d : Declaration) → parts_refused before es d ≡ [] → are_named es (declaration_uses d) ≡ true
declaration_known before es (ADevice name text) p = refl
declaration_known before es (SomePins names numbers attributes) p = refl
declaration_known before es (SomeNodes names numbers attributes) p = refl
declaration_known before es (SomeAttributes names attributes) p = refl
declaration_known before es (SomeConstants names values) p = uses_known es (all_uses values) p
declaration_known before es (SomeOptions words) p = refl
declaration_known before es (DontCareFor directive) p = refl

-- ---- declarations

pub extends_behind : (before rest : List Declaration) → Extends (names_behind before) (names_behind (before ++ rest))
extends_behind before [] = subst (λ l. Extends (names_behind before) (names_behind l)) (sym (append-nil before)) (extends_same (names_behind before))
extends_behind before (d ∷ rest) =
    subst (λ l. Extends (names_behind before) (names_behind l)) (append_assoc before (d ∷ []) rest)
    (extends_then (names_behind before) (names_behind (before ++ d ∷ [])) (names_behind ((before ++ d ∷ []) ++ rest))
    (subst (Extends (names_behind before)) (sym (behind_push before d)) (extends_declaration (names_behind before) d))
    (extends_behind (before ++ d ∷ []) rest))

pub refused_append : (t : Table) (before ds es : List Declaration) → declarations_refused t before (ds ++ es) ≡ declarations_refused t before ds ++ declarations_refused t (before ++ ds) es
refused_append t before [] es = ap (λ l. declarations_refused t l es) (sym (append-nil before))
refused_append t before (d ∷ ds) es =
    let here = declaration_refused t before d in
    let rest = declarations_refused t (before ++ d ∷ []) ds in
    ap (λ l. here ++ l) (refused_append t (before ++ d ∷ []) ds es ∙ ap (λ l. rest ++ declarations_refused t l es) (append_assoc before (d ∷ []) ds))
    ∙ sym (append_assoc here rest (declarations_refused t (before ++ d ∷ ds) es))

-- these declarations are accepted, and these uses after them
pub record Accepted (t : Table) (ds : List Declaration) (us : List Use) : Type 0 where
  pub sure : Sure t (names_behind ds)
  pub told : All (IsTold (all_buffered [] ds)) (names_behind ds)
  pub known : are_named (names_behind ds) us ≡ true
  pub unrefused : declarations_refused t [] ds ≡ []

moved : (t : Table) (ds es : List Declaration) (us vs : List Use) → ds ≡ es → us ≡ vs → Accepted t ds us → Accepted t es vs
moved t ds es us vs e f a = subst (λ l. Accepted t l vs) e (subst (Accepted t ds) f a)

declaration_accepted : (t : Table) (ds : List Declaration) (us : List Use) (d : Declaration) → Accepted t ds us → declaration_refused t ds d ≡ [] → Accepted t (ds ++ d ∷ []) (us ++ declaration_uses d)
declaration_accepted t ds us d a h =
    let es = names_behind ds in
    let parts = none_left (parts_refused ds es d) _ h in
    let now = sym (behind_push ds d) in
    let more = λ (vs : List Use). named_more es (declared es d) vs (extends_declaration es d) in
    record {
      sure = subst (Sure t) now (sure_declaration t ds es d a.sure parts (none_right (parts_refused ds es d) _ h));
      told =
          subst (λ xs. All (IsTold xs) (names_behind (ds ++ d ∷ []))) (sym (buffered_push [] ds d))
          (subst (All (IsTold (all_buffered [] ds ++ buffered es d))) now (told_declaration t.pins es d (all_buffered [] ds) a.sure.sound a.told));
      known =
          subst (λ l. are_named l (us ++ declaration_uses d) ≡ true) now
          (named_append (declared es d) us (declaration_uses d) (more us a.known) (more (declaration_uses d) (declaration_known ds es d parts)));
      unrefused = refused_append t [] ds (d ∷ []) ∙ ap₂ (λ l r. l ++ r) a.unrefused (append-nil (declaration_refused t ds d) ∙ h);
    }

declarations_accepted : (t : Table) (ds : List Declaration) (us : List Use) (rest : List Declaration) → Accepted t ds us → declarations_refused t ds rest ≡ [] → Accepted t (ds ++ rest) (us ++ declarations_uses rest)
declarations_accepted t ds us [] a h = moved t ds (ds ++ []) us (us ++ []) (sym (append-nil ds)) (sym (append-nil us)) a
declarations_accepted t ds us (d ∷ rest) a h =
    moved t ((ds ++ d ∷ []) ++ rest) (ds ++ d ∷ rest) ((us ++ declaration_uses d) ++ declarations_uses rest) (us ++ declarations_uses (d ∷ rest)) (append_assoc ds (d ∷ []) rest) (append_assoc us (declaration_uses d) (declarations_uses rest))
    (declarations_accepted t (ds ++ d ∷ []) (us ++ declaration_uses d) rest (declaration_accepted t ds us d a (none_left (declaration_refused t ds d) _ h)) (none_right (declaration_refused t ds d) _ h))

-- ---- sections

uses_accepted : (t : Table) (ds : List Declaration) (us vs : List Use) → Accepted t ds us → uses_refused (names_behind ds) vs ≡ [] → Accepted t ds (us ++ vs)
uses_accepted t ds us vs a h = record {
  sure = a.sure;
  told = a.told;
  known = named_append (names_behind ds) us vs a.known (uses_known (names_behind ds) vs h);
  unrefused = a.unrefused;
}

uses_then : (t : Table) (ds : List Declaration) (us vs : List Use) (xs : List SectionTree) → Accepted t ds us → (Accepted t ds (us ++ vs) → sections_refused t ds xs ≡ [] → Accepted t (ds ++ section_declarations xs) ((us ++ vs) ++ sections_uses xs))
    → uses_refused (names_behind ds) vs ++ sections_refused t ds xs ≡ [] → Accepted t (ds ++ section_declarations xs) (us ++ (vs ++ sections_uses xs))
uses_then t ds us vs xs a rest h =
    subst (Accepted t (ds ++ section_declarations xs)) (append_assoc us vs (sections_uses xs))
    (rest (uses_accepted t ds us vs a (none_left (uses_refused (names_behind ds) vs) _ h)) (none_right (uses_refused (names_behind ds) vs) _ h))

sections_accepted : (t : Table) (ds : List Declaration) (us : List Use) (xs : List SectionTree) → Accepted t ds us → sections_refused t ds xs ≡ [] → Accepted t (ds ++ section_declarations xs) (us ++ sections_uses xs)
sections_accepted t ds us [] a h = moved t ds (ds ++ []) us (us ++ []) (sym (append-nil ds)) (sym (append-nil us)) a
sections_accepted t ds us (Declarations es ∷ xs) a h =
    moved t ((ds ++ es) ++ section_declarations xs) (ds ++ (es ++ section_declarations xs)) ((us ++ declarations_uses es) ++ sections_uses xs) (us ++ (declarations_uses es ++ sections_uses xs)) (append_assoc ds es (section_declarations xs)) (append_assoc us (declarations_uses es) (sections_uses xs))
    (sections_accepted t (ds ++ es) (us ++ declarations_uses es) xs (declarations_accepted t ds us es a (none_left (declarations_refused t ds es) _ h)) (none_right (declarations_refused t ds es) _ h))
sections_accepted t ds us (Equations ss ∷ xs) a h = uses_then t ds us (section_uses (Equations ss)) xs a (sections_accepted t ds (us ++ section_uses (Equations ss)) xs) h
sections_accepted t ds us (ATable p inputs clocked outputs rows ∷ xs) a h = uses_then t ds us (section_uses (ATable p inputs clocked outputs rows)) xs a (sections_accepted t ds (us ++ section_uses (ATable p inputs clocked outputs rows)) xs) h
sections_accepted t ds us (ADiagram p registers states ∷ xs) a h = uses_then t ds us (section_uses (ADiagram p registers states)) xs a (sections_accepted t ds (us ++ section_uses (ADiagram p registers states)) xs) h
sections_accepted t ds us (SomeVectors text p inputs outputs rows ∷ xs) a h = uses_then t ds us (section_uses (SomeVectors text p inputs outputs rows)) xs a (sections_accepted t ds (us ++ section_uses (SomeVectors text p inputs outputs rows)) xs) h
sections_accepted t ds us (DontCareSection d ∷ xs) a h = uses_then t ds us (section_uses (DontCareSection d)) xs a (sections_accepted t ds (us ++ section_uses (DontCareSection d)) xs) h

-- ---- the module

pub module_accepted : (t : Table) (m : ModuleTree) → read_refusals t m ≡ [] → Accepted t (all_declarations m) (module_uses m)
module_accepted t m h =
    let none : Accepted t [] [] = record { sure = record { once = refl; same = refl; sound = tt }; told = All-nil (IsTold []); known = refl; unrefused = refl } in
    sections_accepted t m.decls (declarations_uses m.decls) m.sections
    (declarations_accepted t [] [] m.decls none (none_left (declarations_refused t [] m.decls) _ h)) (none_right (declarations_refused t [] m.decls) _ h)
