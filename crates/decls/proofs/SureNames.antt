-- If nothing is refused, each name is declared once, the table keeps it as it is, and it is sound.
use Rattle.std.proofs.Common.{◌≡◌, ℕ, zero, suc, Bool, true, false, List, [], ◌∷◌, ◌++◌, map, zip, length, if◌then◌else◌, refl, sym, ap, ap₂, subst, ◌∙◌, append_assoc, is_some}
use Rattle.decls.proofs.Common.{true≢false, append-nil, map-append, Table, ADeviceName, Words, Entry, kind_of, numbers_of, IsSoundKind, Declaration, ADevice, SomePins, SomeNodes, SomeAttributes, SomeConstants, SomeOptions, DontCareFor, all_uses, GivenName, given_names, entry, no_words, all_said, is_unnumbered, pin_entries, node_entries, constant_entries, node_count, with_words, declared, first_entries, added, number_refused, name_refused, names_refused, given_count, parts_refused, kept, kept_kind}
use Rattle.decls.specs.declared.fault.NameFault.TheVariants as fault
use Rattle.decls.proofs.DeclarationsGo.{added_is}
use Rattle.decls.proofs.FirstNames.{first_push, kind_first}
use Rattle.decls.proofs.Named.{uses_known}
use Rattle.decls.proofs.NamesAlike.{Extends, alike_told, extends_append, extends_same, extends_then}
use Rattle.decls.proofs.NoRefusals.{none_left, none_right, not_refused, kept_number, kept_unnumbered, RestIsUnnumbered, no_rest, pins_rest}
use Rattle.decls.proofs.SoundEntries.{AreNamedKinds, AreSound, IsNewPin, constants_named, nodes_named, one_new, one_sound, pins_named, sound_alike, sound_append, unnumbered_new}
use Rattle.decls.proofs.Telling.{first_told}

-- each name is declared once, kept, and sound
pub record Sure (t : Table) (es : List Entry) : Type 0 where
  pub once : first_entries es ≡ es
  pub same : map (kept t) es ≡ es
  pub sound : AreSound t.pins [] es

-- ---- names

sure_name : (t : Table) (es : List Entry) (given : Bool) (e : Entry) → Sure t es → kept_kind t e.kind ≡ e.kind → (is_unnumbered e.kind ≡ false → IsSoundKind t.pins es e.kind) → IsNewPin es e.kind → name_refused t es given e ≡ [] → Sure t (es ++ e ∷ [])
sure_name t es given e s k kind pin h =
    let free : is_some (kind_of es e.name) ≡ false = not_refused (is_some (kind_of es e.name)) (fault.Redeclared e.place e.name) (none_right (if given then number_refused t es e e.kind else []) _ h) in
    record {
      once =
          first_push es e
          ∙ (ap (λ b. if b then first_entries es else first_entries es ++ e ∷ []) (ap is_some (kind_first es e.name) ∙ free)
          ∙ ap (λ l. l ++ e ∷ []) s.once);
      same = map-append (kept t) es (e ∷ []) ∙ ap₂ (λ l k2. l ++ (record e { kind = k2 }) ∷ []) s.same k;
      sound = sound_append t.pins [] es (e ∷ []) s.sound (record { kind = kind; pin = pin; name = free }, tt);
    }

-- so many of which have numbers, the first ones, after names that were known before
sure_names : (t : Table) (given : ℕ) (base es new : List Entry) → Extends base es → AreNamedKinds base new → RestIsUnnumbered given new → Sure t es → names_refused t es given new ≡ [] → Sure t (es ++ new)
sure_names t given base es [] f named rest s h = subst (Sure t) (sym (append-nil es)) s
sure_names t zero base es (e ∷ new) f named rest s h =
    let next = sure_name t es false e s (kept_unnumbered t e.kind rest.0) (λ numbered. absurd (true≢false (sym rest.0 ∙ numbered))) (unnumbered_new es e.kind rest.0) (none_left (name_refused t es false e) _ h) in
    subst (Sure t) (append_assoc es (e ∷ []) new)
    (sure_names t zero base (es ++ e ∷ []) new (extends_then base es (es ++ e ∷ []) f (extends_append es (e ∷ []))) named.1 rest.1 next (none_right (name_refused t es false e) _ h))
sure_names t (suc given) base es (e ∷ new) f named rest s h =
    let here = none_left (name_refused t es true e) _ h in
    let number = none_left (number_refused t es e e.kind) _ here in
    let next = sure_name t es true e s (kept_number t es e e.kind number) (λ numbered. one_sound t base es e e.kind f named.0 number) (one_new t es e e.kind number) here in
    subst (Sure t) (append_assoc es (e ∷ []) new)
    (sure_names t given base (es ++ e ∷ []) new (extends_then base es (es ++ e ∷ []) f (extends_append es (e ∷ []))) named.1 rest next (none_right (name_refused t es true e) _ h))

-- ---- declarations

sure_rest : (t : Table) (es : List Entry) (d : Declaration) (given : ℕ) (new : List Entry) → given_count es d ≡ given → declared es d ≡ es ++ new → AreNamedKinds es new → RestIsUnnumbered given new → Sure t es → names_refused t es (given_count es d) (added es d) ≡ [] → Sure t (declared es d)
sure_rest t es d given new c e named rest s h =
    subst (Sure t) (sym e) (sure_names t given es es new (extends_same es) named rest s (sym (ap₂ (names_refused t es) c (added_is es d new e)) ∙ h))

-- if all have numbers
sure_all : (t : Table) (es : List Entry) (d : Declaration) (new : List Entry) → given_count es d ≡ length (added es d) → declared es d ≡ es ++ new → AreNamedKinds es new → Sure t es → names_refused t es (given_count es d) (added es d) ≡ [] → Sure t (declared es d)
sure_all t es d new c e named s h = sure_rest t es d (length new) new (c ∙ ap length (added_is es d new e)) e named (no_rest new) s h

kept_told : (t : Table) (xs : List GivenName) (w : Words) (es : List Entry) → map (kept t) (map (with_words xs w) es) ≡ map (with_words xs w) (map (kept t) es)
kept_told t xs w [] = refl
kept_told t xs w (e ∷ es) = ap (λ (l : List Entry). with_words xs w (kept t e) ∷ l) (kept_told t xs w es)

pub sure_declaration : (t : Table) (before : List Declaration) (es : List Entry) (d : Declaration) → Sure t es → parts_refused before es d ≡ [] → names_refused t es (given_count es d) (added es d) ≡ [] → Sure t (declared es d)
sure_declaration t before es (ADevice name text) s p h = sure_all t es (ADevice name text) (entry name.text name.place ADeviceName no_words ∷ []) refl refl (tt, tt) s h
sure_declaration t before es (SomePins names numbers attributes) s p h =
    let xs = given_names names in
    let ns = numbers_of (length xs) numbers in
    sure_rest t es (SomePins names numbers attributes) (length ns) (pin_entries (all_said attributes) xs ns) refl refl (pins_named es (all_said attributes) xs ns) (pins_rest (all_said attributes) xs ns) s h
sure_declaration t before es (SomeNodes names numbers attributes) s p h =
    sure_all t es (SomeNodes names numbers attributes) (node_entries (all_said attributes) (node_count es) (given_names names)) refl refl (nodes_named es (all_said attributes) (node_count es) (given_names names)) s h
sure_declaration t before es (SomeAttributes names attributes) s p h =
    let xs = given_names names in
    let w = all_said attributes in
    let f = with_words xs w in
    record {
      once = sym (first_told xs w es) ∙ ap (map f) s.once;
      same = kept_told t xs w es ∙ ap (map f) s.same;
      sound = sound_alike t.pins [] [] es (map f es) tt (alike_told xs w es) s.sound;
    }
sure_declaration t before es (SomeConstants names values) s p h =
    sure_all t es (SomeConstants names values) (constant_entries (zip names values)) refl refl (constants_named es names values (uses_known es (all_uses values) p)) s h
sure_declaration t before es (SomeOptions words) s p h = s
sure_declaration t before es (DontCareFor directive) s p h = s
