-- The words of a string, one after the other.
use Rattle.std.proofs.Common.{◌≡◌, ℕ, suc, ◌+◌, ◌<◌, ◌≤◌, Bool, true, false, nat_lt, List, [], ◌∷◌, ◌++◌, length, take, drop, Option, Some, None, cond, if◌then◌else◌, filter_map, refl, sym, ap, ◌∙◌, subst, arith, append_assoc}
use Rattle.std.proofs.lemmas.Bool.{ltb-false}
use Rattle.std.proofs.lemmas.List.{drop_all, take_all}
use Rattle.std.proofs.lemmas.List.Recursion.{is_position_or_len}
use Rattle.std.specs.List.{cons_option, position, position_or_len}
use Rattle.reports.proofs.Common.{option_to_list}
use Rattle.reports.specs.Warnings.{is_separator, with_first, words_in}
use Rattle.reports.specs.declared.warning.Warning.{Warning}

-- if the first separator is, or the end
abbrev ended : List ℕ → ℕ
ended [] = 0
ended (b ∷ bs) = if is_separator b then 0 else suc (ended bs)

ended_more : (n : ℕ) (s : Bool) → (if s then 0 else suc n) ≡ cond s 0 (1 + n)
ended_more n true = refl
ended_more n false = omega arith

ended_is : (text : List ℕ) → ended text ≡ position_or_len is_separator text
ended_is = is_position_or_len ended is_separator refl (λ b bs. ended_more (ended bs) (is_separator b))

first_more : (b : ℕ) (bs : List ℕ) (s : Bool) → is_separator b ≡ s
    → words_in bs ≡ take (ended bs) bs ∷ words_in (drop (suc (ended bs)) bs)
    → words_in (b ∷ bs) ≡ take (ended (b ∷ bs)) (b ∷ bs) ∷ words_in (drop (suc (ended (b ∷ bs))) (b ∷ bs))
first_more b bs true is before = rw is refl
first_more b bs false is before = rw is (ap (with_first b) before)

first_one : (b : ℕ) (s : Bool) → is_separator b ≡ s
    → words_in (b ∷ []) ≡ take (ended (b ∷ [])) (b ∷ []) ∷ words_in (drop (suc (ended (b ∷ []))) (b ∷ []))
first_one b true is = rw is refl
first_one b false is = rw is refl

first_word : (b : ℕ) (bs : List ℕ) → words_in (b ∷ bs) ≡ take (ended (b ∷ bs)) (b ∷ bs) ∷ words_in (drop (suc (ended (b ∷ bs))) (b ∷ bs))
first_word b [] = first_one b (is_separator b) refl
first_word b (c ∷ bs) = first_more b (c ∷ bs) (is_separator b) refl (first_word c bs)

some_there : (n k : ℕ) (within : Bool) → Some n ≡ cond within (Some k) None → n ≡ k
some_there n k true e = cc
some_there n k false e = absurd cc

none_there : (k : ℕ) (within : Bool) → None ≡ cond within (Some k) None → within ≡ false
none_there k true e = absurd cc
none_there k false e = refl

-- a word that a separator ends
pub word_ended : (text : List ℕ) (n : ℕ) → 0 < length text → Some n ≡ position is_separator text → words_in text ≡ take n text ∷ words_in (drop (n + 1) text)
word_ended [] n some is = absurd (omega (arith, some))
word_ended (b ∷ bs) n some is =
    let at = position_or_len is_separator (b ∷ bs) in
    let same : ended (b ∷ bs) ≡ n = ended_is (b ∷ bs) ∙ sym (some_there n at (nat_lt at (length (b ∷ bs))) is) in
    let next : suc n ≡ n + 1 = omega arith in
    subst (λ k. words_in (b ∷ bs) ≡ take n (b ∷ bs) ∷ words_in (drop k (b ∷ bs))) next
    (subst (λ k. words_in (b ∷ bs) ≡ take k (b ∷ bs) ∷ words_in (drop (suc k) (b ∷ bs))) same (first_word b bs))

-- the last word
pub word_whole : (text : List ℕ) → 0 < length text → None ≡ position is_separator text → words_in text ≡ text ∷ []
word_whole [] some is = absurd (omega (arith, some))
word_whole (b ∷ bs) some is =
    let at = position_or_len is_separator (b ∷ bs) in
    let past : length (b ∷ bs) ≤ at = ltb-false at (length (b ∷ bs)) (none_there at (nat_lt at (length (b ∷ bs))) is) in
    let le : length (b ∷ bs) ≤ ended (b ∷ bs) = omega (arith, past, ended_is (b ∷ bs)) in
    subst (λ (w : List ℕ). words_in (b ∷ bs) ≡ w ∷ []) (take_all (ended (b ∷ bs)) (b ∷ bs) le)
    (subst (λ (rest : List ℕ). words_in (b ∷ bs) ≡ take (ended (b ∷ bs)) (b ∷ bs) ∷ words_in rest) (drop_all (suc (ended (b ∷ bs))) (b ∷ bs) (omega (arith, le))) (first_word b bs))

option_first : {X : Type 0} (o : Option X) (xs : List X) → cons_option o xs ≡ option_to_list o ++ xs
option_first None xs = refl
option_first (Some x) xs = refl

-- one word more is reported
pub word_told : (h : List ℕ → Option Warning) (word : List ℕ) (text behind : List ℕ) (before after all : List Warning) → words_in text ≡ word ∷ words_in behind
    → after ≡ before ++ option_to_list (h word) → before ++ filter_map h (words_in text) ≡ all → after ++ filter_map h (words_in behind) ≡ all
word_told h word text behind before after all first told so =
    ap (λ (ws : List Warning). ws ++ filter_map h (words_in behind)) told
    ∙ append_assoc before (option_to_list (h word)) (filter_map h (words_in behind))
    ∙ ap (λ (ws : List Warning). before ++ ws) (sym (option_first (h word) (filter_map h (words_in behind))))
    ∙ ap (λ (ws : List (List ℕ)). before ++ filter_map h ws) (sym first)
    ∙ so
