-- A block in which arguments represent parameters, part by part.
use Rattle.std.proofs.Common.{◌≡◌, ◌+◌, ◌<◌, ◌≤◌, ℕ, zero, suc, Bool, true, false, List, [], ◌∷◌, ◌++◌, Option, Some, None, inl, inr, length, take, drop, refl, sym, ap, ◌∙◌, arith, append-nil, append_assoc, add-one, length-append, length-drop, if◌then◌else◌, ◌==◌, Result, Ok, Err, IfErr, IfSome, IfNone}
use Rattle.text_rewriting.proofs.Common.{count_by, drop-drop, take-add, bool_cases, Vec, starts_byte, rest_of, is_name_later, shaped_len, asked, replaced, standing_for, texts, each_replaced}
use Rattle.std.proofs.lemmas.List.Sums.{sum_by-cons}
use Rattle.abel_lexer.specs.Kinds.{word_head}
use Rattle.abel_macros.proofs.Passed.{take_within}

past : {A : Type 0} (ws : List A) (i : ℕ) → length ws ≤ i → drop i ws ≡ []
past [] zero h = refl
past [] (suc i) h = refl
past (w ∷ ws) zero h = absurd (omega arith)
past (w ∷ ws) (suc i) h = past ws i (omega arith)

-- a step where something is ahead
pub some_step : (r : Option ℕ) (w v : List ℕ) {n : ℕ} → IfSome r (λ b. w ≡ b ∷ v) → IfNone r (w ≡ []) → 0 < n → n ≡ length w → (b : ℕ) × (w ≡ b ∷ v)
some_step (Some b) w v s z h l = (b, s)
some_step None w v s z h l = absurd (omega (arith, h, l, ap length z))

-- ---- a `?` and the name after it

pub drop_next : (w : List ℕ) (p x : ℕ) (xs : List ℕ) → drop p w ≡ x ∷ xs → drop (suc p) w ≡ xs
drop_next [] zero x xs e = absurd cc
drop_next [] (suc p) x xs e = absurd cc
drop_next (y ∷ w) zero x xs e = ap (drop 1) e
drop_next (y ∷ w) (suc p) x xs e = drop_next w p x xs e

pub take_next : (w : List ℕ) (p x : ℕ) (xs : List ℕ) → drop p w ≡ x ∷ xs → take (suc p) w ≡ take p w ++ x ∷ []
take_next [] zero x xs e = absurd cc
take_next [] (suc p) x xs e = absurd cc
take_next (y ∷ w) zero x xs e = ap (λ (z : List ℕ). take 1 z) e
take_next (y ∷ w) (suc p) x xs e = ap (λ (z : List ℕ). y ∷ z) (take_next w p x xs e)

-- a byte that is nowhere isn't the first, and is nowhere after it
no_first : (b : ℕ) (w : List ℕ) → count_by (λ c. c == 63) (b ∷ w) ≡ 0 → ((b == 63) ≡ false) × (count_by (λ c. c == 63) w ≡ 0)
no_first b w e =
    let split = sum_by-cons (λ c. if c == 63 then 1 else 0) b w in
    elim (bool_cases (b == 63)) [
      | inl t ↦ absurd (omega (arith, e, split, ap {B = ℕ} (λ (x : Bool). if x then 1 else 0) t))
      | inr g ↦ (g, omega (arith, e, split, ap {B = ℕ} (λ (x : Bool). if x then 1 else 0) g))
    ]

pub gone : (w look : List ℕ) (n k : ℕ) → look ≡ drop n w → drop (n + k) w ≡ drop k look
gone w look n k d = sym (drop-drop k n w) ∙ ap (drop k) (sym d)

module _ (f : List ℕ → Option (List ℕ)) where
  -- bytes of a replaced name are left out
  left_out : (n : ℕ) (v : List ℕ) → replaced f n v ≡ replaced f 0 (drop n v)
  left_out zero [] = refl
  left_out (suc n) [] = refl
  left_out zero (b ∷ bs) = refl
  left_out (suc n) (b ∷ bs) = left_out n bs

  abbrev replaced_by : ℕ → List ℕ → Option (List ℕ) → List ℕ
  replaced_by b bs o = elim o [ None ↦ b ∷ replaced f 0 bs | Some a ↦ a ++ replaced f (length (asked bs)) bs ]

  abbrev replaced_at : ℕ → List ℕ → Bool → List ℕ
  replaced_at b bs t = elim t [ false ↦ b ∷ replaced f 0 bs | true ↦ replaced_by b bs (f (asked bs)) ]

  here : (w a : List ℕ) (n : ℕ) → starts_byte 63 w ≡ true → f (asked (rest_of w)) ≡ Some a → n ≡ suc (length (asked (rest_of w))) → replaced f 0 w ≡ a ++ replaced f 0 (drop n w)
  here [] a n s e m = absurd cc
  here (b ∷ bs) a n s e m =
      ap (replaced_at b bs) s ∙ ap (replaced_by b bs) e ∙ ap (λ (v : List ℕ). a ++ v) (left_out (length (asked bs)) bs)
      ∙ ap (λ (k : ℕ). a ++ replaced f 0 (drop k (b ∷ bs))) (sym m)

  mark : (w : List ℕ) → starts_byte 63 w ≡ true → f (asked (rest_of w)) ≡ None → replaced f 0 w ≡ take 1 w ++ replaced f 0 (drop 1 w)
  mark [] s e = absurd cc
  mark (b ∷ bs) s e = ap (replaced_at b bs) s ∙ ap (replaced_by b bs) e

  -- a byte stays that is no `?`, or has no parameter after it
  pub unmarked_stays : (w : List ℕ) → starts_byte 63 w ≡ false → replaced f 0 w ≡ take 1 w ++ replaced f 0 (drop 1 w)
  unmarked_stays [] s = refl
  unmarked_stays (b ∷ bs) s = ap (replaced_at b bs) s

  pub unasked_stays : (w name : List ℕ) → starts_byte 63 w ≡ true → name ≡ asked (rest_of w) → f name ≡ None → replaced f 0 w ≡ take 1 w ++ replaced f 0 (drop 1 w)
  unasked_stays w name s n e = mark w s (ap f (sym n) ∙ e)

  -- one byte more that stays
  pub stays_next : (w look next : List ℕ) (b n : ℕ) → look ≡ drop n w → look ≡ b ∷ next → replaced f 0 look ≡ take 1 look ++ replaced f 0 (drop 1 look) → take n w ++ replaced f 0 (drop n w) ≡ replaced f 0 w
      → take (n + 1) w ++ replaced f 0 (drop (n + 1) w) ≡ replaced f 0 w
  stays_next w look next b n d e s t =
      let at : drop n w ≡ b ∷ next = sym d ∙ e in
      let one : replaced f 0 (b ∷ next) ≡ b ∷ replaced f 0 next = ap (replaced f 0) (sym e) ∙ s ∙ ap (λ (v : List ℕ). take 1 v ++ replaced f 0 (drop 1 v)) e in
      ap (λ (k : ℕ). take k w ++ replaced f 0 (drop k w)) (add-one n) ∙ ap (λ (v : List ℕ). v ++ replaced f 0 (drop (suc n) w)) (take_next w n b next at) ∙ ap (λ (v : List ℕ). (take n w ++ b ∷ []) ++ replaced f 0 v) (drop_next w n b next at)
      ∙ append_assoc (take n w) (b ∷ []) (replaced f 0 next) ∙ ap (λ (v : List ℕ). take n w ++ v) (sym one ∙ ap (replaced f 0) (sym at)) ∙ t

  -- bytes among which no `?` is
  run : (n : ℕ) (w : List ℕ) → count_by (λ b. b == 63) (take n w) ≡ 0 → take n w ++ replaced f 0 (drop n w) ≡ replaced f 0 w
  run zero w e = refl
  run (suc n) [] e = refl
  run (suc n) (b ∷ bs) e =
      let none = no_first b (take n bs) e in
      ap (λ (v : List ℕ). b ∷ v) (run n bs none.1) ∙ sym (ap (replaced_at b bs) none.0)

  pub run_stays : (w look next : List ℕ) (n k : ℕ) → look ≡ drop n w → next ≡ drop k look → count_by (λ b. b == 63) (take k look) ≡ 0 → take n w ++ replaced f 0 (drop n w) ≡ replaced f 0 w
      → take (n + k) w ++ replaced f 0 (drop (n + k) w) ≡ replaced f 0 w
  run_stays w look next n k d g z t =
      let all : drop (n + k) w ≡ drop k look = gone w look n k d in
      ap (λ (v : List ℕ). v ++ replaced f 0 (drop (n + k) w)) (take-add n k w ∙ ap (λ (v : List ℕ). take n w ++ take k v) (sym d)) ∙ ap (λ (v : List ℕ). (take n w ++ take k look) ++ replaced f 0 v) all
      ∙ append_assoc (take n w) (take k look) (replaced f 0 (drop k look)) ∙ ap (λ (v : List ℕ). take n w ++ v) (run k look z ∙ ap (replaced f 0) d) ∙ t

  behind : (text new part w v : List ℕ) → new ≡ text ++ part → replaced f 0 w ≡ part ++ replaced f 0 v → new ++ replaced f 0 v ≡ text ++ replaced f 0 w
  behind text new part w v n e = ap (λ (x : List ℕ). x ++ replaced f 0 v) n ∙ append_assoc text part (replaced f 0 v) ∙ ap (λ (x : List ℕ). text ++ x) (sym e)

  longer : (text part w v : List ℕ) (most : ℕ) → most < length (text ++ part) → replaced f 0 w ≡ part ++ replaced f 0 v → most < length (text ++ replaced f 0 w)
  longer text part w v most l e = omega (arith, ap length (behind text (text ++ part) part w v refl e), length-append (text ++ part) (replaced f 0 v))

  module _ (w name text : List ℕ) (s : starts_byte 63 w ≡ true) (n : name ≡ asked (rest_of w)) where
    count : 1 + length name ≡ suc (length (asked (rest_of w)))
    count = omega (arith, ap length n)

    pub asked_some : (v a new : List ℕ) → f name ≡ Some a → v ≡ drop (1 + length name) w → new ≡ text ++ a → new ++ replaced f 0 v ≡ text ++ replaced f 0 w
    asked_some v a new e d t = behind text new a w v t (here w a (1 + length name) s (ap f (sym n) ∙ e) count ∙ ap (λ (x : List ℕ). a ++ replaced f 0 x) (sym d))

    pub asked_long : (a : List ℕ) (most : ℕ) → f name ≡ Some a → most < length (text ++ a) → most < length (text ++ replaced f 0 w)
    asked_long a most e l = longer text a w (drop (1 + length name) w) most l (here w a (1 + length name) s (ap f (sym n) ∙ e) count)

    pub asked_none : (v new : List ℕ) → f name ≡ None → v ≡ drop 1 w → new ≡ text ++ take 1 w → new ++ replaced f 0 v ≡ text ++ replaced f 0 w
    asked_none v new e d t = behind text new (take 1 w) w v t (mark w s (ap f (sym n) ∙ e) ∙ ap (λ (x : List ℕ). take 1 w ++ replaced f 0 x) (sym d))

    pub none_long : (most : ℕ) → f name ≡ None → most < length (text ++ take 1 w) → most < length (text ++ replaced f 0 w)
    none_long most e l = longer text (take 1 w) w (drop 1 w) most l (mark w s (ap f (sym n) ∙ e))

  -- bytes that stay
  pub kept_run : (w v text new : List ℕ) (n : ℕ) → take n w ++ replaced f 0 (drop n w) ≡ replaced f 0 w → v ≡ drop n w → new ≡ text ++ take n w → new ++ replaced f 0 v ≡ text ++ replaced f 0 w
  kept_run w v text new n k d t = behind text new (take n w) w v t (sym k ∙ ap (λ (x : List ℕ). take n w ++ replaced f 0 x) (sym d))

  pub kept_long : (w text : List ℕ) (n most : ℕ) → take n w ++ replaced f 0 (drop n w) ≡ replaced f 0 w → most < length (text ++ take n w) → most < length (text ++ replaced f 0 w)
  kept_long w text n most k l = longer text (take n w) w (drop n w) most l (sym k)

  pub block_added : (rest text total : List ℕ) → length rest ≡ 0 → text ++ replaced f 0 rest ≡ total → text ≡ total
  block_added [] text total h e = sym (append-nil text) ∙ e
  block_added (b ∷ bs) text total h e = absurd (omega arith)

pub block_long : (text rest total : List ℕ) (f : List ℕ → Option (List ℕ)) (most : ℕ) → most < length (text ++ replaced f 0 rest) → text ++ replaced f 0 rest ≡ total → most < length total
block_long text rest total f most l e = omega (arith, l, ap length e)

-- the same too much, if a part was added before
pub both_long : (text new w v : List ℕ) (f : List ℕ → Option (List ℕ)) (most less : ℕ) → new ++ replaced f 0 v ≡ text ++ replaced f 0 w → less ≡ most → less < length (new ++ replaced f 0 v) → most < length (text ++ replaced f 0 w)
both_long text new w v f most less e m l = omega (arith, l, m, ap length e)

pub left_some : (w v : List ℕ) (n : ℕ) → v ≡ drop n w → 0 < length v → n < length w
left_some w v n e h = omega (arith, h, ap length e, length-drop n w)

pub marked : (w : List ℕ) → starts_byte 63 w ≡ true → 0 < length w
marked [] s = absurd cc
marked (b ∷ bs) s = omega arith

pub shorter : (w v : List ℕ) (n : ℕ) → v ≡ drop n w → 0 < n → 0 < length w → length v < length w
shorter w v n e h k = omega (arith, ap length e, length-drop n w)

-- the name after a mark, in one piece or read
pub asked_front : (w look front name : List ℕ) (b n : ℕ) → w ≡ b ∷ look → n ≡ shaped_len word_head is_name_later look → take (length front) look ≡ front → n ≤ length front → name ≡ take n front → name ≡ asked (rest_of w)
asked_front w look front name b n e c f h t =
    t ∙ ap (take n) (sym f) ∙ take_within n (length front) look h ∙ ap (λ (k : ℕ). take k look) c ∙ ap asked (sym (ap rest_of e))

pub asked_read : (w look name : List ℕ) (b n : ℕ) → w ≡ b ∷ look → n ≡ shaped_len word_head is_name_later look → name ≡ take n look → name ≡ asked (rest_of w)
asked_read w look name b n e c t = t ∙ ap (λ (k : ℕ). take k look) c ∙ ap asked (sym (ap rest_of e))

-- ---- a block once for each argument

module _ (n b : List ℕ) where
  each_split : (found : List (Vec (List ℕ))) (i : ℕ) → i < length found
      → each_replaced n (texts (drop i found)) b ≡ replaced (standing_for (n ∷ []) (texts (take 1 (drop i found)))) 0 b ++ each_replaced n (texts (drop (suc i) found)) b
  each_split [] i h = absurd (omega arith)
  each_split (a ∷ found) zero h = refl
  each_split (a ∷ found) (suc i) h = each_split found i (omega arith)

  pub each_next : (found : List (Vec (List ℕ))) (i : ℕ) (text new total : List ℕ) → i < length found → new ≡ text ++ replaced (standing_for (n ∷ []) (texts (take 1 (drop i found)))) 0 b
      → text ++ each_replaced n (texts (drop i found)) b ≡ total → new ++ each_replaced n (texts (drop (i + 1) found)) b ≡ total
  each_next found i text new total h t e =
      ap (λ (k : ℕ). new ++ each_replaced n (texts (drop k found)) b) (add-one i) ∙ ap (λ (x : List ℕ). x ++ each_replaced n (texts (drop (suc i) found)) b) t
      ∙ append_assoc text (replaced (standing_for (n ∷ []) (texts (take 1 (drop i found)))) 0 b) (each_replaced n (texts (drop (suc i) found)) b)
      ∙ ap (λ (x : List ℕ). text ++ x) (sym (each_split found i h)) ∙ e

  pub each_long : (found : List (Vec (List ℕ))) (i : ℕ) (text total : List ℕ) (most : ℕ) → i < length found → most < length (text ++ replaced (standing_for (n ∷ []) (texts (take 1 (drop i found)))) 0 b)
      → text ++ each_replaced n (texts (drop i found)) b ≡ total → most < length total
  each_long found i text total most h l e =
      let part : List ℕ = replaced (standing_for (n ∷ []) (texts (take 1 (drop i found)))) 0 b in
      omega (arith, ap length (each_next found i text (text ++ part) total h refl e), length-append (text ++ part) (each_replaced n (texts (drop (i + 1) found)) b))

  pub each_added : (found : List (Vec (List ℕ))) (i : ℕ) (text total : List ℕ) → length found ≤ i → text ++ each_replaced n (texts (drop i found)) b ≡ total → text ≡ total
  each_added found i text total h e = sym (append-nil text) ∙ ap (λ (ws : List (Vec (List ℕ))). text ++ each_replaced n (texts ws) b) (sym (past found i h)) ∙ e

-- what is too long makes more too long
pub err_longer : {A E : Type 0} (r : Result A E) (f : E) (P Q : Type 0) → (P → Q) → IfErr r (λ e. e ≡ f → P) → IfErr r (λ e. e ≡ f → Q)
err_longer (Ok x) f P Q g h = tt
err_longer (Err e) f P Q g h = λ t. g (h t)
