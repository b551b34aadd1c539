-- The laws of forms, with lists of classes for what may start a form and what may go on after it.
use Rattle.std.proofs.Common.{◌≡◌, ℕ, ◌⊎◌, inl, inr, Bool, true, false, eqb, List, [], ◌∷◌, ◌++◌, Option, Some, None, Err, refl, sym, ◌∙◌, subst, ◌||◌, ◌&&◌, not}
use Rattle.abel_grammar.proofs.Common.{append-nil, Form, token, followed, ◌then◌, either, optional, repeated, made, separated, chain, grouped, entries_of, nothing, Syntax, Reader, starts, read_token, read_followed, ◌then_read◌, read_either, read_optional, read_repeated, read_made, read_separated, read_chain, read_deep}
use Rattle.std.proofs.lemmas.Bool.{eqb-true}
use Rattle.abel_grammar.specs.Classes.{among}
use Rattle.abel_grammar.proofs.Laws.{Lawful, or_left, or_right, or_false}
use Rattle.abel_grammar.proofs.FollowedLaws.{followed_laws}
use Rattle.abel_grammar.proofs.TokenLaws.{token_laws}
use Rattle.abel_grammar.proofs.EitherLaws.{either_laws}
use Rattle.abel_grammar.proofs.OptionalLaws.{optional_laws, behind_option}
use Rattle.abel_grammar.proofs.MadeLaws.{made_laws, relaxed_laws}
use Rattle.abel_grammar.proofs.DepthLaws.{deep_laws}
use Rattle.abel_grammar.proofs.RepeatedLaws.{repeated_laws}

module _ {X K : Type 0} (number : K → ℕ) (class : X → K) where
  -- no class of the list has the number
  abbrev pub lacks : List K → ℕ → Bool
  lacks [] n = true
  lacks (k ∷ ks) n = not (eqb (number k) n) && lacks ks n

  abbrev pub disjoint : List K → List K → Bool
  disjoint [] bs = true
  disjoint (k ∷ ks) bs = lacks bs (number k) && disjoint ks bs

  abbrev pub has : List K → ℕ → Bool
  has [] n = false
  has (k ∷ ks) n = eqb (number k) n || has ks n

  abbrev pub subset : List K → List K → Bool
  subset [] bs = true
  subset (k ∷ ks) bs = has bs (number k) && subset ks bs

  and_parts : (a b : Bool) → (a && b) ≡ true → (a ≡ true) × (b ≡ true)
  and_parts true b e = (refl, e)
  and_parts false b e = absurd cc

  or_parts : (a b : Bool) → (a || b) ≡ true → (a ≡ true) ⊎ (b ≡ true)
  or_parts true b e = inl refl
  or_parts false b e = inr e

  not_true : (b : Bool) → not b ≡ true → b ≡ false
  not_true true e = absurd cc
  not_true false e = refl

  or_both_false : (a b : Bool) → a ≡ false → b ≡ false → (a || b) ≡ false
  or_both_false true b e h = absurd cc
  or_both_false false b e h = h

  lacks_among : (ks : List K) (n : ℕ) (x : X) → number (class x) ≡ n → lacks ks n ≡ true → among number class ks x ≡ false
  lacks_among [] n x e h = refl
  lacks_among (k ∷ ks) n x e h =
      let p = and_parts (not (eqb (number k) n)) (lacks ks n) h in
      or_both_false (eqb (number k) (number (class x))) (among number class ks x) (rw e (not_true _ p.0)) (lacks_among ks n x e p.1)

  pub among_apart : (ls bs : List K) → disjoint ls bs ≡ true → (x : X) → among number class ls x ≡ true → among number class bs x ≡ false
  among_apart [] bs d x h = absurd cc
  among_apart (k ∷ ks) bs d x h =
      let p = and_parts (lacks bs (number k)) (disjoint ks bs) d in
      elim (or_parts (eqb (number k) (number (class x))) (among number class ks x) h) [
        | inl e ↦ lacks_among bs (number k) x (sym (eqb-true _ _ e)) p.0
        | inr e ↦ among_apart ks bs p.1 x e
      ]

  has_among : (ks : List K) (n : ℕ) (x : X) → number (class x) ≡ n → has ks n ≡ true → among number class ks x ≡ true
  has_among [] n x e h = h
  has_among (k ∷ ks) n x e h =
      elim (or_parts (eqb (number k) n) (has ks n) h) [
        | inl d ↦ or_left (eqb (number k) (number (class x))) (among number class ks x) (rw e d)
        | inr d ↦ or_right (eqb (number k) (number (class x))) (among number class ks x) (has_among ks n x e d)
      ]

  pub among_within : (ls bs : List K) → subset ls bs ≡ true → (x : X) → among number class ls x ≡ true → among number class bs x ≡ true
  among_within [] bs d x h = absurd cc
  among_within (k ∷ ks) bs d x h =
      let p = and_parts (has bs (number k)) (subset ks bs) d in
      elim (or_parts (eqb (number k) (number (class x))) (among number class ks x) h) [
        | inl e ↦ has_among bs (number k) x (sym (eqb-true _ _ e)) p.0
        | inr e ↦ among_within ks bs p.1 x e
      ]

  contra : (a b : Bool) → (a ≡ true → b ≡ true) → b ≡ false → a ≡ false
  contra true b h e = absurd (let t : b ≡ true = h refl in let no : ⊥ = cc in no)
  contra false b h e = refl

  pub outside : (ls bs : List K) → subset ls bs ≡ true → (x : X) → among number class bs x ≡ false → among number class ls x ≡ false
  outside ls bs d x e = contra (among number class ls x) (among number class bs x) (among_within ls bs d x) e

  among_append : (ls bs : List K) (x : X) → among number class (ls ++ bs) x ≡ (among number class ls x || among number class bs x)
  among_append [] bs x = refl
  among_append (k ∷ ks) bs x = elim (eqb (number k) (number (class x))) as (λ v. (v || among number class (ks ++ bs) x) ≡ ((v || among number class ks x) || among number class bs x)) [ true ↦ refl | false ↦ among_append ks bs x ]

  abbrev pub pick : Bool → List K → List K
  pick true ks = ks
  pick false ks = []

  first_picked : (n : Bool) (ls bs : List K) (x : X) → (among number class ls x || (n && among number class bs x)) ≡ true → among number class (ls ++ pick n bs) x ≡ true
  first_picked true ls bs x h = among_append ls bs x ∙ h
  first_picked false ls bs x h = among_append ls [] x ∙ h

  goes_picked : (n : Bool) (ls bs : List K) (x : X) → among number class (ls ++ pick n bs) x ≡ false → (among number class ls x || (n && among number class bs x)) ≡ false
  goes_picked true ls bs x h = sym (among_append ls bs x) ∙ h
  goes_picked false ls bs x h = sym (among_append ls [] x) ∙ h

  abbrev pub Obeys : {T : Type 0} → Form X T → Form X T → Reader X T → Reader X T → List K → List K → Bool → Type 0
  Obeys f f' r r' first goes null = Lawful f f' r r' (among number class first) (λ _ x. among number class goes x) null

  pub a_token : (ks : List K) → Obeys (token (among number class ks)) (token (among number class ks)) (read_token (among number class ks)) (read_token (among number class ks)) ks [] false
  a_token ks = token_laws (among number class ks)

  pub in_turn : {A B : Type 0} (a a' : Form X A) (b b' : A → Form X B) (ra ra' : Reader X A) (rb rb' : A → Reader X B) (fa ga fb gb : List K) (na nb : Bool)
      → Obeys a a' ra ra' fa ga na → ((t : A) → Obeys (b t) (b' t) (rb t) (rb' t) fb gb nb) → disjoint fb ga ≡ true
      → Obeys (followed a b) (followed a' b') (read_followed ra rb) (read_followed ra' rb') (fa ++ pick na fb) (gb ++ pick nb ga) (na && nb)
  in_turn {A} {B} a a' b b' ra ra' rb rb' fa ga fb gb na nb la lb d =
      relaxed_laws _ _ _ _ _ (among number class (fa ++ pick na fb)) _ (λ (t : A × B) (x : X). among number class (gb ++ pick nb ga) x) _
      (followed_laws a a' b b' ra ra' rb rb' (among number class fa) (λ (t : A). among number class fb) (among number class fb) (λ (t : A) (x : X). among number class ga x) (λ (t : A) (u : B) (x : X). among number class gb x) na nb
      la lb (λ t x h. among_apart fb ga d x h) (λ t x h. h))
      (λ x h. first_picked na fa fb x h)
      (λ t x h. goes_picked nb gb ga x h)

  pub one_of : {T : Type 0} (a a' b b' : Form X T) (ra ra' rb rb' : Reader X T) (fa fb ga gb : List K) → Obeys a a' ra ra' fa ga false → Obeys b b' rb rb' fb gb false → disjoint fb fa ≡ true
      → Obeys (either a b) (either a' b') (read_either (among number class fa) ra rb) (read_either (among number class fa) ra' rb') (fa ++ fb) (ga ++ gb) false
  one_of {T} a a' b b' ra ra' rb rb' fa fb ga gb la lb d =
      let goes : T → X → Bool = λ t x. among number class (ga ++ gb) x in
      let la' = relaxed_laws a a' ra ra' (among number class fa) (among number class fa) (λ t x. among number class ga x) goes false la (λ x h. h) (λ t x h. (or_false (among number class ga x) (among number class gb x) (sym (among_append ga gb x) ∙ h)).0) in
      let lb' = relaxed_laws b b' rb rb' (among number class fb) (among number class fb) (λ t x. among number class gb x) goes false lb (λ x h. h) (λ t x h. (or_false (among number class ga x) (among number class gb x) (sym (among_append ga gb x) ∙ h)).1) in
      relaxed_laws _ _ _ _ _ (among number class (fa ++ fb)) _ goes _ (either_laws a a' b b' ra ra' rb rb' (among number class fa) (among number class fb) goes la' lb' (λ x h. among_apart fb fa d x h)) (λ x h. among_append fa fb x ∙ h) (λ t x h. h)

  option_behind : {T : Type 0} (fa ga : List K) (t : Option T) (x : X) → among number class (fa ++ ga) x ≡ false → behind_option (among number class fa) (λ u y. among number class ga y) t x ≡ false
  option_behind fa ga None x h = (or_false (among number class fa x) (among number class ga x) (sym (among_append fa ga x) ∙ h)).0
  option_behind fa ga (Some t) x h = (or_false (among number class fa x) (among number class ga x) (sym (among_append fa ga x) ∙ h)).1

  pub perhaps : {T : Type 0} (a a' : Form X T) (ra ra' : Reader X T) (fa ga : List K) → Obeys a a' ra ra' fa ga false
      → Obeys (optional a) (optional a') (read_optional (among number class fa) ra) (read_optional (among number class fa) ra') fa (fa ++ ga) true
  perhaps {T} a a' ra ra' fa ga la =
      relaxed_laws _ _ _ _ _ (among number class fa) _ (λ (t : Option T) (x : X). among number class (fa ++ ga) x) _ (optional_laws a a' ra ra' (among number class fa) (λ t x. among number class ga x) la) (λ x h. h) (λ t x h. option_behind fa ga t x h)

  pub any_number : {T : Type 0} (a a' : Form X T) (ra ra' : Reader X T) (fa ga : List K) → Obeys a a' ra ra' fa ga false → disjoint fa ga ≡ true
      → Obeys (repeated a) (repeated a') (read_repeated (among number class fa) ra) (read_repeated (among number class fa) ra') fa (fa ++ ga) true
  any_number {T} a a' ra ra' fa ga la d =
      relaxed_laws _ _ _ _ _ (among number class fa) _ (λ (t : List T) (x : X). among number class (fa ++ ga) x) _
      (repeated_laws a a' ra ra' (among number class fa) (among number class ga) (λ t x. among number class ga x) la (λ t x h. h) (λ x h. among_apart fa ga d x h))
      (λ x h. h) (λ t x h. sym (among_append fa ga x) ∙ h)

  pub turned : {A B : Type 0} (f : A → B) (a a' : Form X A) (ra ra' : Reader X A) (fa ga : List K) (na : Bool) → Obeys a a' ra ra' fa ga na
      → Obeys (made f a) (made f a') (read_made f ra) (read_made f ra') fa ga na
  turned f a a' ra ra' fa ga na la = made_laws f a a' ra ra' (among number class fa) (λ t x. among number class ga x) (λ t x. among number class ga x) na la (λ t x h. h)

  pub too_deep : {T : Type 0} (a : Form X T) (ra : Reader X T) (fa ga : List K) → ((x : X) → among number class fa x ≡ true → a.begins (x ∷ [])) → a.begins []
      → ((ts : List X) → starts (among number class fa) ts ≡ false → ra ts ≡ Err (Syntax ts)) → Obeys nothing a (read_deep (among number class fa)) ra fa ga false
  too_deep a ra fa ga one nil miss = deep_laws a ra (among number class fa) (λ t x. among number class ga x) one nil miss

  -- entries with a sign between any two
  trimmed : {T : Type 0} (f f' : Form X T) (r r' : Reader X T) (first goes : List K) (null : Bool) → Obeys f f' r r' (first ++ []) (goes ++ []) null → Obeys f f' r r' first goes null
  trimmed f f' r r' first goes null laws =
      subst (λ (l : List K). Obeys f f' r r' l goes null) (append-nil first) (subst (λ (l : List K). Obeys f f' r r' (first ++ []) l null) (append-nil goes) laws)

  either_false : (a b : Bool) → (a || b) ≡ false → ((a || b) || b) ≡ false
  either_false true b e = absurd cc
  either_false false true e = absurd cc
  either_false false false e = refl

  all_three : (fs ga : List K) (x : X) → among number class (fs ++ ga) x ≡ false → among number class ((fs ++ ga) ++ ga) x ≡ false
  all_three fs ga x h =
      let e = among_append fs ga x in
      among_append (fs ++ ga) ga x ∙ rw e (either_false (among number class fs x) (among number class ga x) (sym e ∙ h))

  links_laws : {A : Type 0} (a a' : Form X A) (ra ra' : Reader X A) (signs fa ga : List K) → Obeys a a' ra ra' fa ga false → disjoint fa [] ≡ true
      → Obeys (token (among number class signs) then a) (token (among number class signs) then a') (read_token (among number class signs) then_read ra) (read_token (among number class signs) then_read ra') signs ga false
  links_laws a a' ra ra' signs fa ga la d =
      trimmed _ _ _ _ signs ga false (in_turn _ _ _ _ _ _ _ _ signs [] fa ga false false (a_token signs) (λ _. la) d)

  pub with_signs : {A : Type 0} (a a' : Form X A) (ra ra' : Reader X A) (signs fa ga : List K) → Obeys a a' ra ra' fa ga false → disjoint fa [] ≡ true → disjoint signs ga ≡ true
      → Obeys (separated (among number class signs) a) (separated (among number class signs) a') (read_separated (among number class signs) ra) (read_separated (among number class signs) ra') fa (signs ++ ga) false
  with_signs {A} a a' ra ra' signs fa ga la d e =
      let links = any_number _ _ _ _ signs ga (links_laws a a' ra ra' signs fa ga la d) e in
      let both = in_turn _ _ _ _ _ _ _ _ fa ga signs (signs ++ ga) false true la (λ _. links) e in
      made_laws entries_of _ _ _ _ (among number class fa) _ (λ t x. among number class (signs ++ ga) x) false
      (relaxed_laws _ _ _ _ _ (among number class fa) _ (λ t x. among number class (signs ++ ga) x) _ both
      (λ x h. subst (λ (l : List K). among number class l x ≡ true) (append-nil fa) h) (λ t x h. all_three signs ga x h)) (λ t x h. h)

  -- a form and what is joined to it from the left
  pub chained : {A B : Type 0} (join : A → B → A) (a a' : Form X A) (b b' : Form X B) (ra ra' : Reader X A) (rb rb' : Reader X B) (fa ga fb gb : List K) → Obeys a a' ra ra' fa ga false → Obeys b b' rb rb' fb gb false
      → disjoint fb ga ≡ true → disjoint fb gb ≡ true
      → Obeys (chain join a b) (chain join a' b') (read_chain join (among number class fb) ra rb) (read_chain join (among number class fb) ra' rb') fa ((fb ++ gb) ++ ga) false
  chained {A} {B} join a a' b b' ra ra' rb rb' fa ga fb gb la lb d e =
      let parts = any_number _ _ _ _ fb gb lb e in
      let both = in_turn _ _ _ _ _ _ _ _ fa ga fb (fb ++ gb) false true la (λ _. parts) d in
      made_laws (λ (x : A × List B). grouped join x.0 x.1) _ _ _ _ (among number class fa) _ (λ t x. among number class ((fb ++ gb) ++ ga) x) false
      (relaxed_laws _ _ _ _ _ (among number class fa) _ (λ t x. among number class ((fb ++ gb) ++ ga) x) _ both
      (λ x h. subst (λ (l : List K). among number class l x ≡ true) (append-nil fa) h) (λ t x h. h)) (λ t x h. h)
