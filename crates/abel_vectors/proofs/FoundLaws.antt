-- More that is found, after what was found before; and the first of what is refused of sections and of vectors.
use Rattle.std.proofs.Common.{◌≡◌, ◌≢◌, ℕ, Option, None, Some, List, [], ◌∷◌, ◌++◌, Result, Ok, Err, IfOk, refl, sym, ap, ap₂, ◌∙◌, subst, append_assoc, append-nil, IfErr}
use Rattle.abel_vectors.proofs.Common.{map-append, Vector, Table, all_chars, chars_of, first_refusal, earlier, earlier_assoc, earlier_none, first_append, none_refused, SectionFault, section_order, IsTold, told_of, Found, fault_in, Finds, IsFound, IsReadAs, NothingFound, if_none, OutOfMemory}

-- if nothing is refused now, nothing was before
both_none : (a : Option SectionFault) (rs : List SectionFault) → earlier section_order a (first_refusal section_order rs) ≡ None → (a ≡ None) × (rs ≡ [])
both_none None rs e = (refl, none_refused section_order rs (sym e))
both_none (Some f) rs e = absurd (let k = none_refused section_order (f ∷ rs) (sym e) in cc)

pub finds_none : (t : Table) (found : Found) → Finds t [] [] found found
finds_none t found = record { fault = sym (earlier_none section_order found.fault); list = λ e. sym (append-nil (all_chars t found.list.items)) }

pub finds_then : (t : Table) (rs qs : List SectionFault) (cs ds : List (List ℕ)) (old mid new : Found) → Finds t rs cs old mid → Finds t qs ds mid new → Finds t (rs ++ qs) (cs ++ ds) old new
finds_then t rs qs cs ds old mid new a b =
    record {
      fault = b.fault
          ∙ ap (λ f. earlier section_order f (first_refusal section_order qs)) a.fault
          ∙ earlier_assoc section_order old.fault (first_refusal section_order rs) (first_refusal section_order qs)
          ∙ ap (earlier section_order old.fault) (sym (first_append section_order rs qs));
      list = λ e.
          b.list e
          ∙ ap (λ xs. xs ++ ds) (a.list (both_none mid.fault qs (sym b.fault ∙ e)).0)
          ∙ append_assoc (all_chars t old.list.items) cs ds;
    }

-- refusals alone
pub finds_refusals : (t : Table) (rs : List SectionFault) (f : Option SectionFault) (old new : Found) → f ≡ first_refusal section_order rs → new.fault ≡ earlier section_order old.fault f → new.list.items ≡ old.list.items → Finds t rs [] old new
finds_refusals t rs f old new g e l = record { fault = e ∙ ap (earlier section_order old.fault) g; list = λ k. ap (all_chars t) l ∙ sym (append-nil (all_chars t old.list.items)) }

-- of all refusals of a thing the first one
pub finds_first : (t : Table) (rs : List SectionFault) (cs : List (List ℕ)) (f : SectionFault) (old new : Found) → first_refusal section_order rs ≡ Some f → new.fault ≡ earlier section_order old.fault (Some f) → Finds t rs cs old new
finds_first t rs cs f old new first fault =
    let same = fault ∙ ap (earlier section_order old.fault) (sym first) in
    record {
      fault = same;
      list = λ e. absurd (let bad = sym (ap (first_refusal section_order) (both_none old.fault rs (sym same ∙ e)).1) ∙ first in cc);
    }

-- a vector of which nothing is refused
pub finds_vector : (t : Table) (rs : List SectionFault) (text : List ℕ) (v : Vector) (old new : Found) → (rs ≡ []) × (chars_of t v ≡ text) → new.fault ≡ old.fault → new.list.items ≡ old.list.items ++ v ∷ [] → Finds t rs (text ∷ []) old new
finds_vector t rs text v old new is fault list =
    record {
      fault = fault ∙ sym (earlier_none section_order old.fault) ∙ ap (λ xs. earlier section_order old.fault (first_refusal section_order xs)) (sym is.0);
      list = λ e. ap (all_chars t) list ∙ map-append (chars_of t) old.list.items (v ∷ []) ∙ ap (λ cs. all_chars t old.list.items ++ cs ∷ []) is.1;
    }

-- refusals that are alone, and what follows none
pub first_alone : (xs ys : List SectionFault) (f : SectionFault) → first_refusal section_order xs ≡ Some f → first_refusal section_order (if_none xs ys) ≡ Some f
first_alone [] ys f e = absurd cc
first_alone (x ∷ xs) ys f e = e

pub behind_none : (xs ys : List SectionFault) → xs ≡ [] → if_none xs ys ≡ ys
behind_none [] ys e = refl
behind_none (x ∷ xs) ys e = absurd cc

-- what is refused of a thing that was read, and how two are
read_first : {A : Type 0} (rs : List SectionFault) (so : A → Type 0) (r : Result A SectionFault) → IsReadAs rs so r → fault_in r ≡ first_refusal section_order rs
read_first rs so (Ok x) is = sym (ap (first_refusal section_order) is.0)
read_first rs so (Err f) is = sym is

pub both_read : {A B : Type 0} (rs ss : List SectionFault) (so : A → Type 0) (to : B → Type 0) (x : Result A SectionFault) (y : Result B SectionFault) (r : Result (A × B) SectionFault) → IsReadAs rs so x → IsReadAs ss to y
    → IfOk r (λ z. (x ≡ Ok z.0) × (y ≡ Ok z.1)) → IfErr r (λ f. Some f ≡ earlier section_order (fault_in x) (fault_in y)) → IsReadAs (rs ++ ss) (λ z. so z.0 × to z.1) r
both_read rs ss so to x y (Ok z) a b is none =
    let first = subst (IsReadAs rs so) is.0 a in
    let second = subst (IsReadAs ss to) is.1 b in (
      ap₂ (λ xs ys. xs ++ ys) first.0 second.0,
      (first.1, second.1),
    )
both_read rs ss so to x y (Err f) a b is refused =
    first_append section_order rs ss ∙ sym (ap₂ (earlier section_order) (read_first rs so x a) (read_first ss to y b)) ∙ sym refused

-- all that is found, from nothing
pub all_found : (t : Table) (rs : List SectionFault) (cs : List (List ℕ)) (old new : Found) → NothingFound old → Finds t rs cs old new → IsFound t rs cs new
all_found t rs cs old new n a =
    record {
      fault = a.fault ∙ ap (λ f. earlier section_order f (first_refusal section_order rs)) n.fault;
      list = λ e. a.list e ∙ ap (λ xs. all_chars t xs ++ cs) n.list;
    }

-- ---- sections and vectors

-- what is reported of other than lack of memory is the first refusal
pub told_first : (rs : List SectionFault) (f : SectionFault) → f ≢ OutOfMemory → IsTold rs f → first_refusal section_order rs ≡ Some f
told_first rs OutOfMemory o h = absurd (o refl)
told_first rs f o h = h

pub first_told : (rs ss : List SectionFault) (f g r : SectionFault) → f ≢ OutOfMemory → g ≢ OutOfMemory → earlier section_order (Some f) (Some g) ≡ Some r → IsTold rs f → IsTold ss g → IsTold (rs ++ ss) r
first_told rs ss f g r o p e h k =
    told_of (rs ++ ss) r (first_append section_order rs ss ∙ ap₂ (earlier section_order) (told_first rs f o h) (told_first ss g p k) ∙ e)

-- if nothing else is refused
pub told_alone : (rs ss : List SectionFault) (f : SectionFault) → ss ≡ [] → IsTold rs f → IsTold (rs ++ ss) f
told_alone rs ss f e h = subst (λ xs. IsTold xs f) (sym (ap (λ ys. rs ++ ys) e ∙ append-nil rs)) h
