-- Each name as it is declared first.
use Rattle.std.proofs.Common.{◌≡◌, ℕ, Bool, true, false, Option, Some, None, List, [], ◌∷◌, ◌++◌, fold, if◌then◌else◌, refl, sym, ap, ap₂, ◌∙◌, append_assoc, is_some}
use Rattle.decls.proofs.Common.{bytes_eq, append-nil, fold-append, bytes_eq-Decides, Place, Kind, Entry, kind_of, passes, names_any, is_signal, is_value, Use, OneName, Range, ends_agree, names_between, item_names, is_bad, Item, GivenName, enter, first_entries, words_named, words_of_names, refused_if, first_undeclared, use_refused, uses_refused, items_refused}
use Rattle.decls.specs.declared.fault.NameFault.TheVariants as fault

pub same_bytes : (xs ys : List ℕ) → bytes_eq xs ys ≡ true → xs ≡ ys
same_bytes xs ys e = (bytes_eq-Decides xs ys).0 e

abbrev pub or_else : {A : Type 0} → Option A → Option A → Option A
or_else None q = q
or_else (Some x) q = Some x

pub kind_append : (xs ys : List Entry) (name : List ℕ) → kind_of (xs ++ ys) name ≡ or_else (kind_of xs name) (kind_of ys name)
kind_append [] ys name = refl
kind_append (x ∷ xs) ys name = pick (bytes_eq name x.name) (kind_append xs ys name)
  where
    pick : (b : Bool) → kind_of (xs ++ ys) name ≡ or_else (kind_of xs name) (kind_of ys name) → (if b then Some x.kind else kind_of (xs ++ ys) name) ≡ or_else (if b then Some x.kind else kind_of xs name) (kind_of ys name)
    pick true e = refl
    pick false e = e

-- a name that is known again adds nothing
known_again : (xs ys : List Entry) (e : Entry) (name : List ℕ) → is_some (kind_of xs e.name) ≡ true → kind_of (xs ++ ys) name ≡ kind_of (xs ++ e ∷ ys) name
known_again xs ys e name h = kind_append xs ys name ∙ (by (bytes_eq name e.name) refl ∙ sym (kind_append xs (e ∷ ys) name))
  where
    hides : (o : Option Kind) (k : Kind) → is_some o ≡ true → or_else o (kind_of ys name) ≡ or_else o (Some k)
    hides None k g = absurd cc
    hides (Some x) k g = refl

    by : (b : Bool) → bytes_eq name e.name ≡ b → or_else (kind_of xs name) (kind_of ys name) ≡ or_else (kind_of xs name) (if b then Some e.kind else kind_of ys name)
    by true g = hides (kind_of xs name) e.kind (ap (λ n. is_some (kind_of xs n)) (same_bytes name e.name g) ∙ h)
    by false g = refl

kind_entered : (acc es : List Entry) (name : List ℕ) → kind_of (fold enter acc es) name ≡ kind_of (acc ++ es) name
kind_entered acc [] name = ap (λ xs. kind_of xs name) (sym (append-nil acc))
kind_entered acc (e ∷ es) name = kind_entered (enter acc e) es name ∙ by (is_some (kind_of acc e.name)) refl
  where
    by : (b : Bool) → is_some (kind_of acc e.name) ≡ b → kind_of ((if b then acc else acc ++ e ∷ []) ++ es) name ≡ kind_of (acc ++ e ∷ es) name
    by true h = known_again acc es e name h
    by false h = ap (λ xs. kind_of xs name) (append_assoc acc (e ∷ []) es)

pub kind_first : (es : List Entry) (name : List ℕ) → kind_of (first_entries es) name ≡ kind_of es name
kind_first es name = kind_entered [] es name

pub names_first : (test : Kind → Bool) (es : List Entry) (name : List ℕ) → names_any test (first_entries es) name ≡ names_any test es name
names_first test es name = ap (passes test) (kind_first es name)

pub first_push : (es : List Entry) (e : Entry) → first_entries (es ++ e ∷ []) ≡ enter (first_entries es) e
first_push es e = fold-append enter [] es (e ∷ [])

-- ---- uses by the names that are declared first

pub undeclared_first : (test : Kind → Bool) (es : List Entry) (p : Place) (names : List (List ℕ)) → first_undeclared test (first_entries es) p names ≡ first_undeclared test es p names
undeclared_first test es p [] = refl
undeclared_first test es p (name ∷ names) =
    ap₂ (λ b fs. if b then fs else fault.Undeclared p name ∷ []) (names_first test es name) (undeclared_first test es p names)

use_first : (es : List Entry) (u : Use) → use_refused (first_entries es) u ≡ use_refused es u
use_first es (OneName word) = undeclared_first is_value es word.place (word.text ∷ [])
use_first es (Range first last) = ap (λ fs. if ends_agree first.text last.text then fs else fault.BadRange first.place ∷ []) (undeclared_first is_value es first.place (names_between first.text last.text))

pub uses_first : (es : List Entry) (us : List Use) → uses_refused (first_entries es) us ≡ uses_refused es us
uses_first es [] = refl
uses_first es (u ∷ us) = ap₂ (λ a b. a ++ b) (use_first es u) (uses_first es us)

pub items_first : (es : List Entry) (is : List Item) → items_refused (first_entries es) is ≡ items_refused es is
items_first es [] = refl
items_first es (i ∷ is) =
    ap₂ (λ a b. a ++ b)
    (ap (λ fs. refused_if (is_bad i) (fault.BadRange i.first.place) ++ fs) (undeclared_first is_signal es i.first.place (item_names i)))
    (items_first es is)

-- ---- words of the names that are declared first

words_append : (xs ys : List Entry) (name : List ℕ) → is_some (kind_of xs name) ≡ false → words_named (xs ++ ys) name ≡ words_named ys name
words_append [] ys name h = refl
words_append (x ∷ xs) ys name h = pick (bytes_eq name x.name) refl (words_append xs ys name)
  where
    pick : (b : Bool) → bytes_eq name x.name ≡ b → (is_some (kind_of xs name) ≡ false → words_named (xs ++ ys) name ≡ words_named ys name) → (if b then x.words ∷ [] else words_named (xs ++ ys) name) ≡ words_named ys name
    pick true e f = absurd (let bad : true ≡ false = sym (ap (λ b. is_some (if b then Some x.kind else kind_of xs name)) e) ∙ h in cc)
    pick false e f = f (sym (ap (λ b. is_some (if b then Some x.kind else kind_of xs name)) e) ∙ h)

words_hidden : (xs ys : List Entry) (name : List ℕ) → is_some (kind_of xs name) ≡ true → words_named (xs ++ ys) name ≡ words_named xs name
words_hidden [] ys name h = absurd cc
words_hidden (x ∷ xs) ys name h = pick (bytes_eq name x.name) refl (words_hidden xs ys name)
  where
    pick : (b : Bool) → bytes_eq name x.name ≡ b → (is_some (kind_of xs name) ≡ true → words_named (xs ++ ys) name ≡ words_named xs name) → (if b then x.words ∷ [] else words_named (xs ++ ys) name) ≡ (if b then x.words ∷ [] else words_named xs name)
    pick true e f = refl
    pick false e f = f (sym (ap (λ b. is_some (if b then Some x.kind else kind_of xs name)) e) ∙ h)

words_again : (xs ys : List Entry) (e : Entry) (name : List ℕ) → is_some (kind_of xs e.name) ≡ true → words_named (xs ++ ys) name ≡ words_named (xs ++ e ∷ ys) name
words_again xs ys e name h = by (is_some (kind_of xs name)) refl
  where
    other : (b : Bool) → bytes_eq name e.name ≡ b → is_some (kind_of xs name) ≡ false → words_named ys name ≡ (if b then e.words ∷ [] else words_named ys name)
    other true g f = absurd (let bad : true ≡ false = sym (ap (λ n. is_some (kind_of xs n)) (same_bytes name e.name g) ∙ h) ∙ f in cc)
    other false g f = refl

    by : (b : Bool) → is_some (kind_of xs name) ≡ b → words_named (xs ++ ys) name ≡ words_named (xs ++ e ∷ ys) name
    by true f = words_hidden xs ys name f ∙ sym (words_hidden xs (e ∷ ys) name f)
    by false f = words_append xs ys name f ∙ (other (bytes_eq name e.name) refl f ∙ sym (words_append xs (e ∷ ys) name f))

words_entered : (acc es : List Entry) (name : List ℕ) → words_named (fold enter acc es) name ≡ words_named (acc ++ es) name
words_entered acc [] name = ap (λ xs. words_named xs name) (sym (append-nil acc))
words_entered acc (e ∷ es) name = words_entered (enter acc e) es name ∙ by (is_some (kind_of acc e.name)) refl
  where
    by : (b : Bool) → is_some (kind_of acc e.name) ≡ b → words_named ((if b then acc else acc ++ e ∷ []) ++ es) name ≡ words_named (acc ++ e ∷ es) name
    by true h = words_again acc es e name h
    by false h = ap (λ xs. words_named xs name) (append_assoc acc (e ∷ []) es)

pub words_first : (es : List Entry) (xs : List GivenName) → words_of_names (first_entries es) xs ≡ words_of_names es xs
words_first es [] = refl
words_first es (x ∷ xs) = ap₂ (λ a b. a ++ b) (words_entered [] es x.name) (words_first es xs)
