-- What the bytes and words of a text list, one after the other.
use Rattle.std.proofs.Common.{◌≡◌, ℕ, not, List, [], ◌∷◌, ◌++◌, filter, Option, Some, None, option_map, inl, inr, refl, sym, ◌∙◌, ap, append_assoc}
use Rattle.jedec_reader.proofs.Common.{concat, slice_split, onto_first, cases_Bool, is_blank, has_bytes, words, each_of, level_of}

-- ---- the bytes of all words

-- the bytes that are no blanks
abbrev pub solid : List ℕ → List ℕ
solid = filter (λ b. not (is_blank b))

concat_real : (parts : List (List ℕ)) → concat (filter has_bytes parts) ≡ concat parts
concat_real [] = refl
concat_real ([] ∷ parts) = concat_real parts
concat_real ((b ∷ bs) ∷ parts) = ap (λ rest. (b ∷ bs) ++ rest) (concat_real parts)

concat_onto_first : (b : ℕ) (parts : List (List ℕ)) → concat (onto_first b parts) ≡ b ∷ concat parts
concat_onto_first b [] = refl
concat_onto_first b (part ∷ parts) = refl

concat_split : (text : List ℕ) → concat (slice_split is_blank text) ≡ solid text
concat_split [] = refl
concat_split (b ∷ bs) = elim (cases_Bool (is_blank b)) [
  | inl blank ↦ rw blank (concat_split bs)
  | inr other ↦ rw (other, concat_onto_first b (slice_split is_blank bs), concat_split bs) refl
]

pub concat_words : (text : List ℕ) → solid text ≡ concat (words text)
concat_words text = sym (concat_real (slice_split is_blank text) ∙ concat_split text)

-- ---- what was listed before, and what still is

abbrev pub behind : {A : Type 0} → List A → Option (List A) → Option (List A)
behind front listed = option_map (λ rest. front ++ rest) listed

pub behind_nothing : {A : Type 0} (listed : Option (List A)) → behind [] listed ≡ listed
behind_nothing None = refl
behind_nothing (Some rest) = refl

behind_more : {A : Type 0} (front : List A) (x : A) (listed : Option (List A)) → behind (front ++ x ∷ []) listed ≡ behind front (option_map (λ rest. x ∷ rest) listed)
behind_more front x None = refl
behind_more front x (Some rest) = ap (λ all. Some all) (append_assoc front (x ∷ []) rest)

-- one more that is something
pub each_next : {A B : Type 0} (of : A → Option B) (front : List B) (x : A) (y : B) (xs : List A) → of x ≡ Some y → behind front (each_of of (x ∷ xs)) ≡ behind (front ++ y ∷ []) (each_of of xs)
each_next of front x y xs is = rw is (sym (behind_more front y (each_of of xs)))

-- one that is nothing
pub each_none : {A B : Type 0} (of : A → Option B) (front : List B) (x : A) (xs : List A) → of x ≡ None → behind front (each_of of (x ∷ xs)) ≡ None
each_none of front x xs is = rw is refl

-- ---- levels

pub levels_begin : (text : List ℕ) → behind [] (each_of level_of (solid text)) ≡ each_of level_of (concat (words text))
levels_begin text = rw (behind_nothing (each_of level_of (solid text)), concat_words text) refl
