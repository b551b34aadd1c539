-- Texts in pieces against bytes, and the result of a call that was kept.
use Rattle.std.proofs.Common.{◌≡◌, ◌+◌, ◌<◌, ◌≤◌, ℕ, zero, suc, List, [], ◌∷◌, ◌++◌, length, take, drop, get_or, refl, sym, ap, ◌∙◌, subst, arith, add-one, append-nil, append_assoc, Option, true, bytes_eq}
use Rattle.abel_macros.proofs.Common.{bytes_eq-Decides, Vec, take-suc, map_more, take-append-drop, joined, joined-push, names, texts, Macro, IsResult}
use Rattle.abel_macros.proofs.Lists.{names_push}

pub all_taken : {A : Type 0} (ws : List A) (i : ℕ) → length ws ≤ i → take i ws ≡ ws
all_taken [] zero h = refl
all_taken [] (suc i) h = refl
all_taken (w ∷ ws) zero h = absurd (omega arith)
all_taken {A = A} (w ∷ ws) (suc i) h = ap (λ (x : List A). w ∷ x) (all_taken ws i (omega arith))

-- ---- one text

pub taken_more : (ps : List (List ℕ)) (i : ℕ) (d : List ℕ) → i < length ps → joined (take (i + 1) ps) ≡ joined (take i ps) ++ get_or ps i d
taken_more ps i d h = ap (λ (n : ℕ). joined (take n ps)) (add-one i) ∙ ap joined (take-suc ps i d h) ∙ joined-push (take i ps) (get_or ps i d)

-- what follows a front of a text
pub stripped : (left p more : List ℕ) → bytes_eq (take (length p) left) p ≡ true → more ≡ drop (length p) left → left ≡ p ++ more
stripped left p more e m = sym (take-append-drop (length p) left) ∙ ap (λ (w : List ℕ). w ++ drop (length p) left) ((bytes_eq-Decides (take (length p) left) p).0 e) ∙ ap (λ (w : List ℕ). p ++ w) (sym m)

pub bytes_next : (ps : List (List ℕ)) (i : ℕ) (d text new : List ℕ) → i < length ps → text ≡ joined (take i ps) → new ≡ text ++ get_or ps i d → new ≡ joined (take (i + 1) ps)
bytes_next ps i d text new h t n = n ∙ ap (λ (w : List ℕ). w ++ get_or ps i d) t ∙ sym (taken_more ps i d h)

pub bytes_all : (ps : List (List ℕ)) (i : ℕ) (text : List ℕ) → length ps ≤ i → text ≡ joined (take i ps) → text ≡ joined ps
bytes_all ps i text h t = t ∙ ap joined (all_taken ps i h)

module _ (ps : List (List ℕ)) (i : ℕ) (left text : List ℕ) where
  pub text_next : (d : List ℕ) (more : List ℕ) → i < length ps → left ≡ (get_or ps i d) ++ more → joined (take i ps) ++ left ≡ text → joined (take (i + 1) ps) ++ more ≡ text
  text_next d more h e t =
      ap (λ (w : List ℕ). w ++ more) (taken_more ps i d h) ∙ append_assoc (joined (take i ps)) (get_or ps i d) more ∙ ap (λ (w : List ℕ). joined (take i ps) ++ w) (sym e) ∙ t

  pub text_all : length ps ≤ i → left ≡ [] → joined (take i ps) ++ left ≡ text → joined ps ≡ text
  text_all h z t = ap joined (sym (all_taken ps i h)) ∙ sym (append-nil (joined (take i ps))) ∙ ap (λ (w : List ℕ). joined (take i ps) ++ w) (sym z) ∙ t

-- ---- texts

module _ (vs : List (Vec (List ℕ))) (ws : List (Vec ℕ)) (i : ℕ) where
  pub texts_next : (d : Vec (List ℕ)) (e : Vec ℕ) → i < length vs → i < length ws → joined (get_or vs i d).items ≡ (get_or ws i e).items → texts (take i vs) ≡ names (take i ws) → texts (take (i + 1) vs) ≡ names (take (i + 1) ws)
  texts_next d e h k same t =
      map_more (λ v. joined v.items) vs i d h ∙ ap (λ (x : List ℕ). texts (take i vs) ++ x ∷ []) same ∙ ap (λ (x : List (List ℕ)). x ++ (get_or ws i e).items ∷ []) t ∙ sym (map_more (λ v. v.items) ws i e k)

  pub texts_all : length vs ≡ length ws → length ws ≤ i → texts (take i vs) ≡ names (take i ws) → texts vs ≡ names ws
  texts_all n h t = ap texts (sym (all_taken vs i (omega (arith, n, h)))) ∙ t ∙ ap names (all_taken ws i h)

pub arguments_next : (vs : List (Vec (List ℕ))) (ws new : List (Vec ℕ)) (i : ℕ) (d : Vec (List ℕ)) (w : Vec ℕ) → i < length vs → w.items ≡ joined (get_or vs i d).items → new ≡ ws ++ w ∷ [] → names ws ≡ texts (take i vs)
    → names new ≡ texts (take (i + 1) vs)
arguments_next vs ws new i d w h b n t =
    ap names n ∙ names_push ws w ∙ ap (λ (x : List (List ℕ)). x ++ w.items ∷ []) t ∙ ap (λ (x : List ℕ). texts (take i vs) ++ x ∷ []) b ∙ sym (map_more (λ v. joined v.items) vs i d h)

pub arguments_all : (vs : List (Vec (List ℕ))) (ws : List (Vec ℕ)) (i : ℕ) → length vs ≤ i → names ws ≡ texts (take i vs) → names ws ≡ texts vs
arguments_all vs ws i h t = t ∙ ap texts (all_taken vs i h)

-- ---- a call that was kept

pub same_call : (macros : List ℕ → Option Macro) (name called : List ℕ) (found kept : List (List ℕ)) (result w : List ℕ) → IsResult macros called kept result → name ≡ called → found ≡ kept → w ≡ result → IsResult macros name found w
same_call macros name called found kept result w r n a e =
    subst (λ (x : List ℕ). IsResult macros x found w) (sym n) (subst (λ (x : List (List ℕ)). IsResult macros called x w) (sym a) (subst (λ (x : List ℕ). IsResult macros called kept x) (sym e) r))
