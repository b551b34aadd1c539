-- What is refused of names asks of a device for its pins, its ground, and whether it always inverts.
use Rattle.std.proofs.Common.{◌≡◌, ℕ, zero, suc, ◌==◌, Bool, true, false, not, ◌&&◌, List, [], ◌∷◌, ◌++◌, if◌then◌else◌, is_some, nat_lt, refl, ap, ap₂}
use Rattle.decls.proofs.Common.{Kind, APin, ANode, AConstant, ADeviceName, Entry, Table, Declaration, SectionTree, ModuleTree, Declarations, Equations, ATable, ADiagram, SomeVectors, DontCareSection, kind_of, section_uses, all_declarations}
use Rattle.abel_tree.specs.Assigned.{named_of, sections_assign}
use Rattle.abel_meaning.specs.SignalPins.{is_signal_pin, is_taken}
use Rattle.decls.specs.Alike.{TakeNamesAlike}
use Rattle.decls.specs.NameRefusals.{all_buffered, buffers_refused, name_refusals, names_once, sections_refused}
use Rattle.decls.specs.NamesBefore.{added, names_behind}
use Rattle.decls.specs.Refused.{declaration_refused, declarations_refused, given_count, name_refused, names_refused, number_refused, parts_refused, refused_if, uses_refused}
use Rattle.decls.specs.declared.fault.NameFault.TheVariants as fault

module _ (t u : Table) (alike : TakeNamesAlike t u) where
  pin_alike : (n : ℕ) → is_signal_pin t n ≡ is_signal_pin u n
  pin_alike n = ap₂ (λ ground pins. not (n == 0) && not (n == ground) && nat_lt n pins) alike.ground alike.pins

  number_alike : (es : List Entry) (e : Entry) (k : Kind) → number_refused t es e k ≡ number_refused u es e k
  number_alike es e (APin n negated) =
      ap (λ good. if good then refused_if (is_taken es n) (fault.PinTaken e.place e.name) else fault.BadPin e.place e.name ∷ []) (pin_alike n)
  number_alike es e (ANode n) = refl
  number_alike es e (AConstant value) = refl
  number_alike es e ADeviceName = refl

  name_alike : (es : List Entry) (given : Bool) (e : Entry) → name_refused t es given e ≡ name_refused u es given e
  name_alike es given e =
      ap (λ fs. (if given then fs else []) ++ refused_if (is_some (kind_of es e.name)) (fault.Redeclared e.place e.name)) (number_alike es e e.kind)

  names_alike : (es : List Entry) (given : ℕ) (xs : List Entry) → names_refused t es given xs ≡ names_refused u es given xs
  names_alike es given [] = refl
  names_alike es zero (x ∷ xs) = ap₂ (λ fs gs. fs ++ gs) (name_alike es false x) (names_alike (es ++ x ∷ []) zero xs)
  names_alike es (suc given) (x ∷ xs) = ap₂ (λ fs gs. fs ++ gs) (name_alike es true x) (names_alike (es ++ x ∷ []) given xs)

  declaration_alike : (before : List Declaration) (d : Declaration) → declaration_refused t before d ≡ declaration_refused u before d
  declaration_alike before d =
      ap (λ fs. parts_refused before (names_behind before) d ++ fs)
      (names_alike (names_behind before) (given_count (names_behind before) d) (added (names_behind before) d))

  declarations_alike : (before ds : List Declaration) → declarations_refused t before ds ≡ declarations_refused u before ds
  declarations_alike before [] = refl
  declarations_alike before (d ∷ ds) = ap₂ (λ fs gs. fs ++ gs) (declaration_alike before d) (declarations_alike (before ++ d ∷ []) ds)

  sections_alike : (before : List Declaration) (xs : List SectionTree) → sections_refused t before xs ≡ sections_refused u before xs
  sections_alike before [] = refl
  sections_alike before (Declarations ds ∷ xs) = ap₂ (λ fs gs. fs ++ gs) (declarations_alike before ds) (sections_alike (before ++ ds) xs)
  sections_alike before (Equations ss ∷ xs) = ap (λ fs. uses_refused (names_behind before) (section_uses (Equations ss)) ++ fs) (sections_alike before xs)
  sections_alike before (ATable place inputs clocked outputs rows ∷ xs) = ap (λ fs. uses_refused (names_behind before) (section_uses (ATable place inputs clocked outputs rows)) ++ fs) (sections_alike before xs)
  sections_alike before (ADiagram place registers states ∷ xs) = ap (λ fs. uses_refused (names_behind before) (section_uses (ADiagram place registers states)) ++ fs) (sections_alike before xs)
  sections_alike before (SomeVectors text place inputs outputs rows ∷ xs) = ap (λ fs. uses_refused (names_behind before) (section_uses (SomeVectors text place inputs outputs rows)) ++ fs) (sections_alike before xs)
  sections_alike before (DontCareSection directive ∷ xs) = ap (λ fs. uses_refused (names_behind before) (section_uses (DontCareSection directive)) ++ fs) (sections_alike before xs)

  pub refused_alike : (m : ModuleTree) → name_refusals t m ≡ name_refusals u m
  refused_alike m =
      ap₂ (λ fs gs. fs ++ gs)
      (ap₂ (λ fs gs. fs ++ gs) (declarations_alike [] m.decls) (sections_alike m.decls m.sections))
      (ap (λ inverts. if inverts then buffers_refused (sections_assign (named_of (names_once m)) m.sections) (names_once m) (all_buffered [] (all_declarations m)) else []) alike.inverts)
