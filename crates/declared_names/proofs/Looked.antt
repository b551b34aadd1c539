-- Names that represent what those before them do: marks find what they represent.
use Rattle.std.proofs.Common.{◌≡◌, ℕ, zero, suc, ◌+◌, ◌==◌, ◌<◌, ◌≤◌, Bool, true, false, ◌||◌, ◌&&◌, if◌then◌else◌, Option, Some, None, List, [], ◌∷◌, ◌++◌, take, length, get_or, refl, sym, ap, ap₂, subst, ◌∙◌, arith, cond, add-zero, suc-add, add-suc, zero-add, slice_get, bytes_eq}
use Rattle.declared_names.proofs.Common.{first_that, list_any, eq-eqb, eqb-true, length-take, slice_get-get_or, slice_get_within, and-false, or-false, Assigned, Entry, find, is_signal, SectionTree, no_name, Follow, below, earlier_number, value_at, value_of, all_marks, given_by, number_given, numbers_read, sections_give, uses_read, value_uses, find-append}
use Rattle.std.specs.Option.{option_or}
use Rattle.std.proofs.Math.Seq.{take-length, take-suc}
use Rattle.declared_names.proofs.Numbering.{below_more, beyond}
use Rattle.declared_names.proofs.Passing.{at, counted, found_in_the_end, lower, reach, reach_beyond, weighs}
use Rattle.declared_names.proofs.ReadsAlike.{ReadsAlike, marked_alike, sections_alike, uses_alike}

-- names that are made one by one, each by those before it, and what is read by them: what the first of a name gives
pub record Standing (K A : Type 0) : Type 0 where
  pub name_of : K → List ℕ
  pub gives : K → Bool → List A
  pub make : List K → ℕ → Entry → K
  pub named : (ks : List K) (s : ℕ) (e : Entry) → name_of (make ks s e) ≡ e.name
  pub look : List K → List ℕ → Bool → List A
  pub look_none : (name : List ℕ) (c : Bool) → look [] name c ≡ []
  pub look_first : (k : K) (ks : List K) (name : List ℕ) (c : Bool) → look (k ∷ ks) name c ≡ (if bytes_eq name (name_of k) then gives k c else look ks name c)
  pub after : List K → ℕ → List Entry → List K
  pub after_none : (ks : List K) (s : ℕ) → after ks s [] ≡ ks
  pub after_more : (ks : List K) (s : ℕ) (e : Entry) (es : List Entry) → after ks s (e ∷ es) ≡ after (ks ++ make ks s e ∷ []) (suc s) es

module _ {K A : Type 0} (d : Standing K A) where
  abbrev first : List K → List ℕ → Option K
  first ks name = first_that (λ k. bytes_eq name (d.name_of k)) ks

  abbrev gives_if : Option K → Bool → List A
  gives_if None c = []
  gives_if (Some k) c = d.gives k c

  looked : (ks : List K) (name : List ℕ) (c : Bool) → d.look ks name c ≡ gives_if (first ks name) c
  looked [] name c = d.look_none name c
  looked (k ∷ ks) name c = d.look_first k ks name c ∙ by (bytes_eq name (d.name_of k)) (looked ks name c)
    where
      by : (b : Bool) → d.look ks name c ≡ gives_if (first ks name) c → (if b then d.gives k c else d.look ks name c) ≡ gives_if (cond b (Some k) (first ks name)) c
      by true e = refl
      by false e = e

  after_push : (ks : List K) (s : ℕ) (l : List Entry) (e : Entry) → d.after ks s (l ++ e ∷ []) ≡ d.after ks s l ++ d.make (d.after ks s l) (s + length l) e ∷ []
  after_push ks s [] e =
      d.after_more ks s e []
      ∙ (d.after_none (ks ++ d.make ks s e ∷ []) (suc s) ∙ ap₂ (λ l n. l ++ d.make l n e ∷ []) (sym (d.after_none ks s)) (sym (add-zero s)))
  after_push ks s (x ∷ l) e =
      d.after_more ks s x (l ++ e ∷ [])
      ∙ (after_push (ks ++ d.make ks s x ∷ []) (suc s) l e
      ∙ ap₂ (λ l n. l ++ d.make l n e ∷ []) (sym (d.after_more ks s x l)) (suc-add s (length l) ∙ sym (add-suc s (length l))))

  abbrev all_of : List Entry → List K
  all_of es = d.after [] 0 es

  all_push : (l : List Entry) (e : Entry) (k : ℕ) → length l ≡ k → all_of (l ++ e ∷ []) ≡ all_of l ++ d.make (all_of l) k e ∷ []
  all_push l e k n = after_push [] 0 l e ∙ ap (λ j. all_of l ++ d.make (all_of l) j e ∷ []) (zero-add (length l) ∙ n)

  -- ---- that represent a signal

  module _ (way : Follow) (es : List Entry) (s : ℕ) (x : Entry) (here : slice_get es s ≡ Some x) (any : Bool) (p : A → Bool) where
    -- how a name counts that is the signal
    abbrev counts : Bool → Bool
    counts c = is_signal x.kind && (any || c)

    abbrev value_gives : ℕ → Bool → List Assigned
    value_gives k c = uses_read (numbers_read k es) c (value_uses way (value_at (slice_get es k)))

    abbrev stands : ℕ → ℕ → Bool → Bool
    stands k = reach s counts value_gives k

    own_at : (k : ℕ) (e : Entry) (c : Bool) → slice_get es k ≡ Some e → ((k == s) && counts c) ≡ (is_signal e.kind && ((k == s) && (any || c)))
    own_at k e c is = by (k == s) refl
      where
        signal_at : Option Entry → Bool
        signal_at None = false
        signal_at (Some y) = is_signal y.kind

        by : (b : Bool) → (k == s) ≡ b → (b && (is_signal x.kind && (any || c))) ≡ (is_signal e.kind && (b && (any || c)))
        by true h = ap (λ o. signal_at o && (any || c)) (sym here ∙ (ap (slice_get es) (sym (eqb-true k s h)) ∙ is))
        by false h = sym (and-false (is_signal e.kind))

    module _ (kinds : (ks : List K) (k : ℕ) (e : Entry) (c : Bool) → list_any p (d.gives (d.make ks k e) c) ≡ ((is_signal e.kind && ((k == s) && (any || c))) || list_any p (uses_read (d.look ks) c (value_uses way (value_of e.kind))))) where
      -- the first of a name and its number, of the first so many, say the same of the signal
      abbrev Same : ℕ → Option K → Option ℕ → Type 0
      Same k None None = Unit {0}
      Same k (Some y) (Some j) = (j < k) × ((c : Bool) → list_any p (d.gives y c) ≡ stands k j c)
      Same k _ _ = ⊥

      abbrev AllSame : ℕ → Type 0
      AllSame k = (name : List ℕ) → Same k (first (all_of (take k es)) name) (below k (find es name))

      look_alike : (k : ℕ) → AllSame k → ReadsAlike p (counted (stands k)) (d.look (all_of (take k es))) (numbers_read k es)
      look_alike k same name c = ap (list_any p) (looked (all_of (take k es)) name c) ∙ by (first (all_of (take k es)) name) (below k (find es name)) (same name)
        where
          by : (o : Option K) (m : Option ℕ) → Same k o m → list_any p (gives_if o c) ≡ list_any (counted (stands k)) (number_given m c)
          by None None h = refl
          by (Some y) (Some j) h = h.1 c ∙ sym (or-false (stands k j c))
          by _ _ h = absurd h

      next : (k : ℕ) → k < length es → AllSame k → AllSame (suc k)
      next k h same name =
          subst (λ o. Same (suc k) o (below (suc k) (find es name)))
          (sym (ap (λ l. first (all_of l) name) (take-suc es k no_name h)
          ∙ (ap (λ l. first l name) (all_push (take k es) e k (omega (arith, length-take k es, h)))
          ∙ (find-append (λ y. bytes_eq name (d.name_of y)) known (made ∷ []) ∙ ap (λ m. option_or (first known name) (cond (bytes_eq name m) (Some made) None)) (d.named known k e)))))
          (subst (Same (suc k) (option_or (first known name) (cond (bytes_eq name e.name) (Some made) None))) (sym (below_more name es k h)) (by (first known name) (below k (find es name)) (bytes_eq name e.name) (same name)))
        where
          e : Entry
          e = get_or es k no_name

          known : List K
          known = all_of (take k es)

          made : K
          made = d.make known k e

          -- a name before goes on to say what it did
          older : (j : ℕ) (c : Bool) → j < k → stands k j c ≡ stands (suc k) j c
          older j c less = sym (ap (λ b. stands k j c || (b && list_any (counted (stands k)) (value_gives k c))) (lower j k less) ∙ or-false (stands k j c))

          newest : (c : Bool) → list_any p (d.gives made c) ≡ stands (suc k) k c
          newest c =
              let is = slice_get-get_or es k no_name h in
              kinds known k e c
              ∙ ap₂ (λ a b. a || b) (sym (reach_beyond s counts value_gives k k c (omega arith) ∙ own_at k e c is))
              (uses_alike p (counted (stands k)) (d.look known) (numbers_read k es) (look_alike k same) c (value_uses way (value_of e.kind))
              ∙ (ap (λ o. list_any (counted (stands k)) (uses_read (numbers_read k es) c (value_uses way (value_at o)))) (sym is)
              ∙ ap (λ b. b && list_any (counted (stands k)) (value_gives k c)) (sym (eq-eqb k k refl))))

          by : (o : Option K) (m : Option ℕ) (b : Bool) → Same k o m → Same (suc k) (option_or o (cond b (Some made) None)) (earlier_number m (if b then Some k else None))
          by None None true same = (omega arith, newest)
          by None None false same = tt
          by (Some y) (Some j) b same = (omega (arith, same.0), λ c. same.1 c ∙ older j c same.0)
          by _ _ b same = absurd same

      all_same : (k : ℕ) → k ≤ length es → AllSame k
      all_same zero h = λ name. subst (λ ks. Same 0 (first ks name) (below 0 (find es name))) (sym (d.after_none [] 0)) (subst (Same 0 None) (sym (beyond name es 0 (omega arith))) tt)
      all_same (suc k) h = next k (omega (arith, h)) (all_same k (omega (arith, h)))

      -- the signal is marked in the end where what the sections name represents it
      pub marked_in_the_end : (xs : List SectionTree) → weighs counts (at (all_marks way es xs) s) ≡ list_any p (sections_give way (d.look (d.after [] 0 es)) xs)
      marked_in_the_end xs =
          let n = length es in
          let alike = subst (λ l. ReadsAlike p (counted (stands n)) (d.look (all_of l)) (numbers_read n es)) (take-length es) (look_alike n (all_same n (omega arith))) in
          found_in_the_end s counts value_gives n (slice_get_within es s x here) (given_by way es) (λ v k m. marked_alike (counted v) (numbers_read k es) (value_uses way (value_at (slice_get es k))) m) n (sections_give way (numbers_read n es) xs) (omega arith)
          ∙ sym (sections_alike p (counted (stands n)) (d.look (all_of es)) (numbers_read n es) alike way xs)
