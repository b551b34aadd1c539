-- Steps amount to what their terms amount to, and work to terms: one more member, and work to be done
-- first.
use Rattle.std.proofs.Common.{◌≡◌, Option, None, Some, List, ◌∷◌, refl, arith, ℕ, false, Bool, [], ◌++◌, if◌then◌else◌, Result, IfOk, bytes_eq, codes, sym, ap, ap₂, ◌∙◌, subst}
use Rattle.expr_bits.proofs.Common.{Binary, Extension, Unary, Context, Term, Terms, extended, extended_each, extended_if, Part, Task, Push, Do, after_task, after_all, IfOk-weaker, Vec, Made, ◌>>=◌, Entry, Known, named_before, special_term, term_named, Work, ComesTo, Precedes, task_of, tasks_of, term_part, pushed, OutOfMemory}
use Rattle.abel_meaning.specs.Terms as term
use Rattle.expr_bits.proofs.Making.{made_is}
use Rattle.expr_bits.specs.declared.work.Step.TheVariants as step
use Rattle.expr_bits.specs.declared.work.Work.TheVariants as work
use Rattle.expr_bits.proofs.Extensions.{both_extended, under_extended}
use Rattle.expr_bits.proofs.Turns.{tasks_last}

-- ---- operators

pub unary_steps : (d : Context) (sign : Unary) (t : Term) (ss : List Task) (ps : List Part) → after_all d (Push (term.UnaryOf sign t) ∷ ss) ps ≡ after_all d (Push t ∷ Do (step.Under sign) ∷ ss) ps
unary_steps d sign t ss ps = made_is _ _ refl (omega arith)

pub binary_steps : (d : Context) (sign : Binary) (t u : Term) (ss : List Task) (ps : List Part) → after_all d (Push (term.BinaryOf sign t u) ∷ ss) ps ≡ after_all d (Push t ∷ Push u ∷ Do (step.Both sign) ∷ ss) ps
binary_steps d sign t u ss ps = made_is _ _ refl (omega arith)

-- ---- sets

set_first : (d : Context) (t : Term) (ts : Terms) (ss : List Task) (ps : List Part) → after_all d (Push (term.Set (term.Before t ts)) ∷ ss) ps ≡ after_all d (Push (term.Set ts) ∷ Push t ∷ Do step.Member ∷ ss) ps
set_first d t term.NoTerm ss ps = made_is _ _ refl (omega arith)
set_first d t (term.Before u us) ss ps = made_is _ _ refl (omega arith)

pub set_more : (d : Context) (e : Option Extension) (t : Term) (ts : Terms) (ss : List Task) (ps : List Part) → after_all d (Push (extended_if e (term.Set (term.Before t ts))) ∷ ss) ps ≡ after_all d (Push (extended_if e (term.Set ts)) ∷ Push (extended_if e t) ∷ Do step.Member ∷ ss) ps
set_more d None t ts ss ps = set_first d t ts ss ps
set_more d (Some e) t ts ss ps = set_first d (extended e t) (extended_each e ts) ss ps

pub set_none : (d : Context) (e : Option Extension) (ps : List Part) → after_task d (Do step.Empty) ps ≡ after_task d (Push (extended_if e (term.Set term.NoTerm))) ps
set_none d None ps = refl
set_none d (Some e) ps = refl

-- ---- members

-- a value before the members of the set that is built first
pub value_precedes : (es : List Entry) (e : Option Extension) (old mid new : List Work) (w : Work) (t : Term) (ts : Terms) → mid ≡ old ++ work.Do step.Member ∷ [] → new ≡ mid ++ w ∷ [] → ComesTo es w (extended_if e t) → Precedes es e new old ts (term.Before t ts)
value_precedes es e old mid new w t ts m n c d ps =
    let set = term_part d (extended_if e (term.Set ts)) in
    let rest = Do step.Member ∷ tasks_of es old in
    let tasks : tasks_of es new ≡ task_of es w ∷ rest = ap (tasks_of es) n ∙ tasks_last es mid w ∙ ap (λ xs. task_of es w ∷ xs) (ap (tasks_of es) m ∙ tasks_last es old (work.Do step.Member)) in
    ap (λ xs. after_all d (Push (extended_if e (term.Set ts)) ∷ xs) ps) tasks
    ∙ ap (λ (m : Made (List Part)). pushed set ps >>= λ qs. m >>= after_all d rest) (c d (set.what ∷ ps))
    ∙ sym (set_more d e t ts (tasks_of es old) ps)

pub precedes_then : (es : List Entry) (e : Option Extension) (old mid new : List Work) (ts us vs : Terms) → Precedes es e new mid ts us → Precedes es e mid old us vs → Precedes es e new old ts vs
precedes_then es e old mid new ts us vs a b d ps = a d ps ∙ b d ps

pub names_last : (ks : List Known) (names : List (List ℕ)) (n : List ℕ) (ts : Terms) → named_before ks (names ++ n ∷ []) ts ≡ named_before ks names (term.Before (term_named ks n) ts)
names_last ks [] n ts = refl
names_last ks (x ∷ names) n ts = ap (term.Before (term_named ks x)) (names_last ks names n ts)

-- ---- work to be done first

-- work that amounts to a term and what was to be done before
abbrev pub ComesFirst : List Entry → (new old : List Work) → Term → Type 0
ComesFirst es new old t = (d : Context) (ps : List Part) → after_all d (tasks_of es new) ps ≡ after_all d (Push t ∷ tasks_of es old) ps

pub same_first : (es : List Entry) (new old : List Work) (t u : Term) → t ≡ u → ComesFirst es new old t → ComesFirst es new old u
same_first es new old t u e c = subst (λ x. ComesFirst es new old x) e c

pub first_comes : (es : List Entry) (old new : List Work) (w : Work) (t : Term) → new ≡ old ++ w ∷ [] → ComesTo es w t → (d : Context) (ps : List Part) → after_all d (tasks_of es new) ps ≡ after_all d (Push t ∷ tasks_of es old) ps
first_comes es old new w t e c d ps =
    ap (λ ws. after_all d (tasks_of es ws) ps) e ∙ ap (λ ts. after_all d ts ps) (tasks_last es old w)
    ∙ ap (λ (m : Made (List Part)). m >>= after_all d (tasks_of es old)) (c d ps)

pub comes_if : (es : List Entry) (old : List Work) (w : Work) (t u : Term) (r : Result (Vec Work) OutOfMemory) → IfOk r (λ new. new.items ≡ old ++ w ∷ []) → t ≡ u → ComesTo es w t → IfOk r (λ new. ComesFirst es new.items old u)
comes_if es old w t u r put e c = IfOk-weaker r _ _ (λ new has. same_first es new.items old t u e (first_comes es old new.items w t has c)) put

pub number_comes : (d : Context) (e : Option Extension) (n : ℕ) (ps : List Part) → after_task d (Do (step.Number n)) ps ≡ after_task d (Push (extended_if e (term.Number n))) ps
number_comes d None n ps = refl
number_comes d (Some e) n ps = refl

pub zero_comes : (d : Context) (e : Option Extension) (t : Term) (ps : List Part) → t ≡ term.Number 0 → after_task d (Do (step.Number 0)) ps ≡ after_task d (Push (extended_if e t)) ps
zero_comes d e t ps h = number_comes d e 0 ps ∙ ap (λ u. after_task d (Push (extended_if e u)) ps) (sym h)

special_by : (e : Extension) (b c : Bool) → extended_if (Some e) (if b then term.X else if c then term.Pulse else term.Release) ≡ (if b then term.X else if c then term.Pulse else term.Release)
special_by e false false = refl
special_by e _ _ = refl

pub special_extended : (e : Option Extension) (letter : ℕ) → extended_if e (special_term letter) ≡ special_term letter
special_extended None letter = refl
special_extended (Some e) letter = special_by e (bytes_eq (letter ∷ []) (codes "X")) (bytes_eq (letter ∷ []) (codes "C"))

pub under_work : (es : List Entry) (e : Option Extension) (sign : Unary) (t : Term) (old mid new : List Work) (w : Work) → mid ≡ old ++ work.Do (step.Under sign) ∷ [] → new ≡ mid ++ w ∷ [] → task_of es w ≡ Push (extended_if e t)
    → (d : Context) (ps : List Part) → after_all d (tasks_of es new) ps ≡ after_all d (Push (extended_if e (term.UnaryOf sign t)) ∷ tasks_of es old) ps
under_work es e sign t old mid new w m n is d ps =
    let tasks : tasks_of es new ≡ Push (extended_if e t) ∷ Do (step.Under sign) ∷ tasks_of es old =
    ap (tasks_of es) n ∙ tasks_last es mid w ∙ ap₂ (λ x xs. x ∷ xs) is (ap (tasks_of es) m ∙ tasks_last es old (work.Do (step.Under sign))) in
    ap (λ ts. after_all d ts ps) tasks ∙ sym (unary_steps d sign (extended_if e t) (tasks_of es old) ps)
    ∙ ap (λ x. after_all d (Push x ∷ tasks_of es old) ps) (under_extended e sign t)

pub both_work : (es : List Entry) (e : Option Extension) (sign : Binary) (t u : Term) (old mid last new : List Work) (v w : Work) → mid ≡ old ++ work.Do (step.Both sign) ∷ [] → last ≡ mid ++ w ∷ [] → new ≡ last ++ v ∷ [] → task_of es v ≡ Push (extended_if e t) → task_of es w ≡ Push (extended_if e u)
    → (d : Context) (ps : List Part) → after_all d (tasks_of es new) ps ≡ after_all d (Push (extended_if e (term.BinaryOf sign t u)) ∷ tasks_of es old) ps
both_work es e sign t u old mid last new v w m l n left right d ps =
    let tasks : tasks_of es new ≡ Push (extended_if e t) ∷ Push (extended_if e u) ∷ Do (step.Both sign) ∷ tasks_of es old =
    ap (tasks_of es) n ∙ tasks_last es last v ∙ ap₂ (λ x xs. x ∷ xs) left (ap (tasks_of es) l ∙ tasks_last es mid w ∙ ap₂ (λ x xs. x ∷ xs) right (ap (tasks_of es) m ∙ tasks_last es old (work.Do (step.Both sign)))) in
    ap (λ ts. after_all d ts ps) tasks ∙ sym (binary_steps d sign (extended_if e t) (extended_if e u) (tasks_of es old) ps)
    ∙ ap (λ x. after_all d (Push x ∷ tasks_of es old) ps) (both_extended e sign t u)
