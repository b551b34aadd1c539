-- Strings one after the other.
use Rattle.std.proofs.Common.{◌≡◌, ℕ, ◌+◌, ◌<◌, Bool, true, false, ◌||◌, List, [], ◌∷◌, ◌++◌, map, fold, take, length, get_or, if◌then◌else◌, refl, sym, ap, ap₂, ◌∙◌, append_assoc}
use Rattle.decls.proofs.Common.{take_more, append-nil, fold-append, list_any, Word, Words, said_by_either, no_words, all_said, words_of, said_words, Said, StringWords, Tells, view_said, brings_clash, is_refused_string, string_refused, strings_refused, Progress, refuse, refuse_all}
use Rattle.decls.specs.declared.fault.NameFault.TheVariants as fault

abbrev pub said_behind : Words → List Word → Words
said_behind e xs = fold (λ (said : Words) (w : Word). said_by_either said (said_words (words_of w.text))) e xs

pub said_more : (xs : List Word) (k : ℕ) (x : Word) → k < length xs → x ≡ get_or xs k x → all_said (take (k + 1) xs) ≡ said_by_either (all_said (take k xs)) (said_words (words_of x.text))
said_more xs k x h i =
    ap all_said (take_more xs k x h ∙ ap (λ y. take k xs ++ y ∷ []) (sym i))
    ∙ fold-append (λ (said : Words) (w : Word). said_by_either said (said_words (words_of w.text))) no_words (take k xs) (x ∷ [])

strings_push : (bs : List Words) (e : Words) (xs : List Word) (x : Word) → strings_refused bs e (xs ++ x ∷ []) ≡ strings_refused bs e xs ++ string_refused bs (said_behind e xs) x
strings_push bs e [] x = append-nil (string_refused bs e x)
strings_push bs e (y ∷ xs) x =
    ap (λ fs. string_refused bs e y ++ fs) (strings_push bs (said_by_either e (said_words (words_of y.text))) xs x)
    ∙ sym (append_assoc (string_refused bs e y) (strings_refused bs (said_by_either e (said_words (words_of y.text))) xs) (string_refused bs (said_behind (said_by_either e (said_words (words_of y.text))) xs) x))

-- one string more
pub refused_more : (s : Progress) (bs : List Words) (xs : List Word) (k : ℕ) (x : Word) (e : Words) → k < length xs → x ≡ get_or xs k x → e ≡ all_said (take k xs)
    → refuse_all (string_refused bs e x) (refuse_all (strings_refused bs no_words (take k xs)) s) ≡ refuse_all (strings_refused bs no_words (take (k + 1) xs)) s
refused_more s bs xs k x e h i f =
    ap (λ fs. record s { faults = fs })
    (append_assoc s.faults (strings_refused bs no_words (take k xs)) (string_refused bs e x)
    ∙ ap (λ fs. s.faults ++ fs)
    (ap (λ w. strings_refused bs no_words (take k xs) ++ string_refused bs w x) f
    ∙ (sym (strings_push bs no_words (take k xs) x)
    ∙ ap (strings_refused bs no_words) (sym (take_more xs k x h ∙ ap (λ y. take k xs ++ y ∷ []) (sym i))))))

-- a string that is refused, or not
pub refused_one : (s : Progress) (bs : List Words) (e : Words) (x : Word) (b : Bool) → is_refused_string bs e (words_of x.text) ≡ b → (if b then refuse (fault.BadAttribute x.place) s else s) ≡ refuse_all (string_refused bs e x) s
refused_one s bs e x true h = rw h refl
refused_one s bs e x false h = rw h (ap (λ fs. record s { faults = fs }) (sym (append-nil s.faults)))

-- no string
pub none_refused_all : (s : Progress) → s ≡ refuse_all [] s
none_refused_all s = ap (λ fs. record s { faults = fs }) (sym (append-nil s.faults))

any_map : {A B : Type 0} (p : B → Bool) (f : A → B) (xs : List A) → list_any p (map f xs) ≡ list_any (λ x. p (f x)) xs
any_map p f [] = refl
any_map p f (x ∷ xs) = ap (λ b. p (f x) || b) (any_map p f xs)

-- a string is refused for an unknown word, or for a clash
pub refused_by : (befores : List Said) (earlier : Said) (w : StringWords) (ws : List (List ℕ)) (b : Bool) → Tells w ws → b ≡ list_any (λ x. brings_clash (view_said w.said) (said_by_either (view_said x) (view_said earlier))) befores
    → (w.unknown || b) ≡ is_refused_string (map view_said befores) (view_said earlier) ws
refused_by befores earlier w ws b h e =
    ap₂ (λ u c. u || c) h.unknown
    (e ∙ (ap (λ n. list_any (λ x. brings_clash n (said_by_either (view_said x) (view_said earlier))) befores) h.said
    ∙ sym (any_map (λ x. brings_clash (said_words ws) (said_by_either x (view_said earlier))) view_said befores)))
