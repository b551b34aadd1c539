-- From the laws at each depth to the verdict on all tokens.
use Rattle.std.proofs.Common.{◌≡◌, ℕ, zero, suc, ◌+◌, ◌-◌, ◌≤◌, Bool, List, [], ◌∷◌, ◌++◌, length, take, Result, Ok, Err, refl, sym, ap, subst, ◌∙◌, append_assoc, add-one, arith, length-append}
use Rattle.abel_grammar.proofs.Common.{append-nil, take_at, Form, Stop, Syntax, TooDeep, Reader, Spells, Begins, SyntaxAt, TooDeepAt}
use Rattle.abel_grammar.proofs.Laws.{Within, Lawful}

abbrev deeper : ℕ → ℕ → ℕ
deeper zero n = n
deeper (suc j) n = suc (deeper j n)

deeper_sum : (j n : ℕ) → deeper j n ≡ j + n
deeper_sum zero n = omega arith
deeper_sum (suc j) n = omega (arith, deeper_sum j n)

deeper_swap : (j n : ℕ) → deeper j n ≡ deeper n j
deeper_swap j n = omega (arith, deeper_sum j n, deeper_sum n j)

abbrev ok_at : (X : Type 0) {T : Type 0} → T × List X → Result (T × List X) (Stop X)
ok_at X x = Ok x

abbrev read_all : (X : Type 0) {T : Type 0} → T → Result (T × List X) (Stop X)
read_all X t = Ok (t, [])

pair_is : {X T : Type 0} (x y : T × List X) → ok_at X x ≡ ok_at X y → x ≡ y
pair_is x y e = cc

same_tree : {X T : Type 0} (u t : T) → read_all X u ≡ read_all X t → u ≡ t
same_tree {X} {T} u t e = let is = pair_is {X = X} (u, []) (t, []) e in ap (λ (p : T × List X). p.0) is

module _ {X T : Type 0} (form : ℕ → Form X T) (read : ℕ → Reader X T) (first : X → Bool) (goes : T → X → Bool) (null : Bool)
    (laws : (n : ℕ) → Lawful (form n) (form (suc n)) (read n) (read (suc n)) first goes null) where
  spells_deeper : (j n : ℕ) (ts : List X) (t : T) (rest : List X) → (form n).spells ts t rest → (form (deeper j n)).spells ts t rest
  spells_deeper zero n ts t rest s = s
  spells_deeper (suc j) n ts t rest s = (laws (deeper j n)).grows ts t rest (spells_deeper j n ts t rest s)

  begins_deeper : (j n : ℕ) (us : List X) → (form n).begins us → (form (deeper j n)).begins us
  begins_deeper zero n us h = h
  begins_deeper (suc j) n us h = (laws (deeper j n)).grows_begins us (begins_deeper j n us h)

  ok_deeper : (j n : ℕ) (ts : List X) (x : T × List X) → read n ts ≡ Ok x → read (deeper j n) ts ≡ Ok x
  ok_deeper zero n ts x e = e
  ok_deeper (suc j) n ts x e = (laws (deeper j n)).same_ok ts x (ok_deeper j n ts x e)

  syntax_deeper : (j n : ℕ) (ts left : List X) → read n ts ≡ Err (Syntax left) → read (deeper j n) ts ≡ Err (Syntax left)
  syntax_deeper zero n ts left e = e
  syntax_deeper (suc j) n ts left e = (laws (deeper j n)).same_err ts left (syntax_deeper j n ts left e)

  -- what is spelled at another depth is spelled at a depth above both
  spells_both : (n k : ℕ) (ts : List X) (t : T) → (form k).spells ts t [] → (form (deeper k n)).spells ts t []
  spells_both n k ts t s = subst (λ (m : ℕ). (form m).spells ts t []) (deeper_swap n k) (spells_deeper n k ts t [] s)

  begins_both : (n k : ℕ) (us : List X) → (form k).begins us → (form (deeper k n)).begins us
  begins_both n k us h = subst (λ (m : ℕ). (form m).begins us) (deeper_swap n k) (begins_deeper n k us h)

  pub tree_only : (n : ℕ) (ts : List X) (t : T) → read n ts ≡ Ok (t, []) → (u : T) → Spells form ts u → u ≡ t
  tree_only n ts t e u (k, s) =
      let one : read (deeper k n) ts ≡ Ok (t, []) = ok_deeper k n ts (t, []) e in
      let two : read (deeper k n) ts ≡ Ok (u, []) = (laws (deeper k n)).only ts u [] (spells_both n k ts u s) refl in
      same_tree u t (sym two ∙ one)

  pub tree_spelled : (n : ℕ) (ts : List X) (t : T) → read n ts ≡ Ok (t, []) → Spells form ts t
  tree_spelled n ts t e = (n, (laws n).sound ts (t, []) e)

  -- a place in the tokens
  at_place : (ts c left : List X) → ts ≡ c ++ left → take (length ts - length left) ts ≡ c
  at_place ts c left e =
      let n : length ts - length left ≡ length c = omega (arith, ap length e, length-append c left) in
      rw n (ap (take (length c)) e ∙ take_at c left (length c) refl)

  past_place : (ts c : List X) (x : X) (rest : List X) → ts ≡ c ++ x ∷ rest → take (length ts - length (x ∷ rest) + 1) ts ≡ c ++ x ∷ []
  past_place ts c x rest e =
      let whole : ts ≡ (c ++ x ∷ []) ++ rest = e ∙ sym (append_assoc c (x ∷ []) rest) in
      let n : length ts - length (x ∷ rest) + 1 ≡ length (c ++ x ∷ []) = omega (arith, ap length e, length-append c (x ∷ rest), length-append c (x ∷ [])) in
      rw n (ap (take (length (c ++ x ∷ []))) whole ∙ take_at (c ++ x ∷ []) rest (length (c ++ x ∷ [])) refl)

  -- nothing that begins the form goes past the tokens that are left
  not_past : (k : ℕ) (ts c : List X) (x : X) (rest : List X) (r : Result (T × List X) (Stop X)) → ts ≡ c ++ x ∷ rest → read k ts ≡ r → (Within rest r → ⊥) → (form k).begins (c ++ x ∷ []) → ⊥
  not_past k ts c x rest r e d never h =
      let whole : (c ++ x ∷ []) ++ rest ≡ ts = append_assoc c (x ∷ []) rest ∙ sym e in
      never (subst (λ (y : Result (T × List X) (Stop X)). Within rest y) (ap (read k) whole ∙ d) ((laws k).covers (c ++ x ∷ []) rest h))

  syntax_here : (n : ℕ) (ts c : List X) (x : X) (rest : List X) (r : Result (T × List X) (Stop X)) → ts ≡ c ++ x ∷ rest → ((j : ℕ) → read (deeper j n) ts ≡ r) → (Within rest r → ⊥)
      → Begins form (take (length ts - length (x ∷ rest) + 1) ts) → ⊥
  syntax_here n ts c x rest r e d never (k, h) =
      not_past (deeper k n) ts c x rest r e (d k) never (begins_both n k (c ++ x ∷ []) (subst (λ (m : List X). (form k).begins m) (past_place ts c x rest e) h))

  short : (ts c left : List X) → ts ≡ c ++ left → length left ≤ length ts
  short ts c left e = omega (arith, ap length e, length-append c left)

  -- the reader stopped
  pub stopped : (n : ℕ) (ts left : List X) → read n ts ≡ Err (Syntax left) → SyntaxAt form n ts (length ts - length left)
  stopped n ts [] e =
      let p = (laws n).front ts (Syntax []) e in
      record {
        within = omega arith;
        before = subst (λ (m : List X). (form n).begins m) (sym (at_place ts p.0 [] p.1)) p.2;
        here = λ lt h. omega arith;
        at_end = λ d t (k, s).
            let one : read (deeper k n) ts ≡ Err (Syntax []) = syntax_deeper k n ts [] e in
            let two : read (deeper k n) ts ≡ Ok (t, []) = (laws (deeper k n)).only ts t [] (spells_both n k ts t s) refl in
            cc;
      }
  stopped n ts (x ∷ rest) e =
      let p = (laws n).front ts (Syntax (x ∷ rest)) e in
      let le = short ts p.0 (x ∷ rest) p.1 in
      record {
        within = omega arith;
        before = subst (λ (m : List X). (form n).begins m) (sym (at_place ts p.0 (x ∷ rest) p.1)) p.2;
        here = λ lt h. syntax_here n ts p.0 x rest (Err (Syntax (x ∷ rest))) p.1 (λ j. syntax_deeper j n ts (x ∷ rest) e) (λ w. omega arith) h;
        at_end = λ d. absurd (omega arith);
      }

  -- tokens are left after a tree
  pub left_over : (n : ℕ) (ts : List X) (t : T) (x : X) (rest : List X) → read n ts ≡ Ok (t, x ∷ rest) → SyntaxAt form n ts (length ts - length (x ∷ rest))
  left_over n ts t x rest e =
      let s = (laws n).sound ts (t, x ∷ rest) e in
      let p = (laws n).place ts t (x ∷ rest) s in
      let le = short ts p.0 (x ∷ rest) p.1 in
      let all : (form n).begins p.0 = (laws n).whole p.0 t (subst (λ (m : List X). (form n).spells m t []) (append-nil p.0) (p.2 [])) in
      record {
        within = omega arith;
        before = subst (λ (m : List X). (form n).begins m) (sym (at_place ts p.0 (x ∷ rest) p.1)) all;
        here = λ lt h. syntax_here n ts p.0 x rest (Ok (t, x ∷ rest)) p.1 (λ j. ok_deeper j n ts (t, x ∷ rest) e) (λ w. omega arith) h;
        at_end = λ d. absurd (omega arith);
      }

  pub too_deep_at : (n : ℕ) (ts left : List X) → read n ts ≡ Err (TooDeep left) → TooDeepAt form n ts (length ts - length left)
  too_deep_at n ts left e =
      let q = (laws n).deep ts left e in
      let p = (laws n).front ts (TooDeep left) e in
      let x : X = q.1 in
      let rest : List X = q.2 in
      let is : left ≡ x ∷ rest = q.4 in
      let le = short ts q.0 (x ∷ rest) q.3 in
      let past : take (length ts - length left + 1) ts ≡ q.0 ++ x ∷ [] = ap (λ (m : List X). take (length ts - length m + 1) ts) is ∙ past_place ts q.0 x rest q.3 in
      record {
        within = omega (arith, ap length is);
        before = subst (λ (m : List X). (form n).begins m) (sym (at_place ts p.0 left p.1)) p.2;
        here = rw add-one (subst (λ (m : List X). (form (suc n)).begins m) (sym past) q.5);
        only_deeper = λ h. not_past n ts q.0 x rest (Err (TooDeep left)) q.3 e (λ w. omega (arith, ap length is)) (subst (λ (m : List X). (form n).begins m) past h);
      }
