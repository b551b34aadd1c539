-- The first DEVICE declaration of a list that is made of parts.
use Rattle.std.proofs.Common.{◌≡◌, Option, Some, None, List, [], ◌∷◌, ◌++◌, refl, sym, ap, ap₂, ◌∙◌, append_assoc, ℕ, ◌+◌, ◌<◌, length, take, drop, map, get_or}
use Rattle.decls.proofs.Common.{take_more, map-append, take-append-drop, Decl, Section, view_decl, view_section, DeviceName, Word, Declaration, ADevice, SomePins, SomeNodes, SomeAttributes, SomeConstants, SomeOptions, DontCareFor, SectionTree, Declarations, Equations, ATable, ADiagram, SomeVectors, DontCareSection, section_declarations, first_device, unquoted, named_device, first_string}

abbrev pub or_string : Option Word → Option Word → Option Word
or_string None o = o
or_string (Some w) o = Some w

pub string_append : (xs ys : List Declaration) → first_string (xs ++ ys) ≡ or_string (first_string xs) (first_string ys)
string_append [] ys = refl
string_append (ADevice n t ∷ xs) ys = refl
string_append (SomePins a b c ∷ xs) ys = string_append xs ys
string_append (SomeNodes a b c ∷ xs) ys = string_append xs ys
string_append (SomeAttributes a b ∷ xs) ys = string_append xs ys
string_append (SomeConstants a b ∷ xs) ys = string_append xs ys
string_append (SomeOptions a ∷ xs) ys = string_append xs ys
string_append (DontCareFor a ∷ xs) ys = string_append xs ys

pub sections_append : (xs ys : List SectionTree) → section_declarations (xs ++ ys) ≡ section_declarations xs ++ section_declarations ys
sections_append [] ys = refl
sections_append (Declarations ds ∷ xs) ys = ap (λ l. ds ++ l) (sections_append xs ys) ∙ sym (append_assoc ds (section_declarations xs) (section_declarations ys))
sections_append (Equations a ∷ xs) ys = sections_append xs ys
sections_append (ATable a b c d e ∷ xs) ys = sections_append xs ys
sections_append (ADiagram a b c ∷ xs) ys = sections_append xs ys
sections_append (SomeVectors a b c d e ∷ xs) ys = sections_append xs ys
sections_append (DontCareSection a ∷ xs) ys = sections_append xs ys

abbrev pub device_by : Option Word → Option DeviceName
device_by None = None
device_by (Some w) = named_device (unquoted w.text)

-- the first device is that of the first string
pub device_of_string : (ds : List Declaration) → first_device ds ≡ device_by (first_string ds)
device_of_string [] = refl
device_of_string (ADevice n t ∷ ds) = refl
device_of_string (SomePins a b c ∷ ds) = device_of_string ds
device_of_string (SomeNodes a b c ∷ ds) = device_of_string ds
device_of_string (SomeAttributes a b ∷ ds) = device_of_string ds
device_of_string (SomeConstants a b ∷ ds) = device_of_string ds
device_of_string (SomeOptions a ∷ ds) = device_of_string ds
device_of_string (DontCareFor a ∷ ds) = device_of_string ds

-- ---- lists read one by one

module _ {A : Type 0} (f : List A → Option Word) (parts : (xs ys : List A) → f (xs ++ ys) ≡ or_string (f xs) (f ys)) where
  pub none_more : (xs : List A) (k : ℕ) (x : A) → k < length xs → x ≡ get_or xs k x → f (take k xs) ≡ None → f (x ∷ []) ≡ None → f (take (k + 1) xs) ≡ None
  none_more xs k x h i n e =
      ap f (take_more xs k x h ∙ ap (λ y. take k xs ++ y ∷ []) (sym i)) ∙ (parts (take k xs) (x ∷ []) ∙ ap₂ or_string n e)

  pub found_here : (xs : List A) (k : ℕ) (x : A) (w : Word) → k < length xs → x ≡ get_or xs k x → f (take k xs) ≡ None → Some w ≡ f (x ∷ []) → Some w ≡ f xs
  found_here xs k x w h i n e =
      let here : f (take (k + 1) xs) ≡ Some w = ap f (take_more xs k x h ∙ ap (λ y. take k xs ++ y ∷ []) (sym i)) ∙ (parts (take k xs) (x ∷ []) ∙ ap₂ or_string n (sym e)) in
      sym (ap f (sym (take-append-drop (k + 1) xs)) ∙ (parts (take (k + 1) xs) (drop (k + 1) xs) ∙ ap (λ o. or_string o (f (drop (k + 1) xs))) here))

-- declarations and sections, as the tree has them
pub decls_parts : (xs ys : List Decl) → first_string (map view_decl (xs ++ ys)) ≡ or_string (first_string (map view_decl xs)) (first_string (map view_decl ys))
decls_parts xs ys = ap first_string (map-append view_decl xs ys) ∙ string_append (map view_decl xs) (map view_decl ys)

abbrev pub sections_string : List Section → Option Word
sections_string xs = first_string (section_declarations (map view_section xs))

pub sections_parts : (xs ys : List Section) → sections_string (xs ++ ys) ≡ or_string (sections_string xs) (sections_string ys)
sections_parts xs ys =
    ap (λ l. first_string (section_declarations l)) (map-append view_section xs ys)
    ∙ (ap first_string (sections_append (map view_section xs) (map view_section ys))
    ∙ string_append (section_declarations (map view_section xs)) (section_declarations (map view_section ys)))

-- ---- the first string of both parts

pub first_part : (xs ys : List Declaration) (w : Word) → Some w ≡ first_string xs → Some w ≡ first_string (xs ++ ys)
first_part xs ys w e = sym (string_append xs ys ∙ ap (λ o. or_string o (first_string ys)) (sym e))

pub second_part : (xs ys : List Declaration) (o : Option Word) → first_string xs ≡ None → o ≡ first_string ys → o ≡ first_string (xs ++ ys)
second_part xs ys o n e = sym (string_append xs ys ∙ (ap (λ p. or_string p (first_string ys)) n ∙ sym e))

-- ---- what the string says

pub known : (ds : List Declaration) (w : Word) (d : DeviceName) → Some w ≡ first_string ds → Some d ≡ named_device (unquoted w.text) → first_device ds ≡ Some d
known ds w d e f = device_of_string ds ∙ (ap device_by (sym e) ∙ sym f)

pub unknown : (ds : List Declaration) (w : Word) → Some w ≡ first_string ds → None ≡ named_device (unquoted w.text) → first_device ds ≡ None
unknown ds w e f = device_of_string ds ∙ (ap device_by (sym e) ∙ sym f)

pub unsaid : (ds : List Declaration) → None ≡ first_string ds → first_device ds ≡ None
unsaid ds e = device_of_string ds ∙ ap device_by (sym e)
