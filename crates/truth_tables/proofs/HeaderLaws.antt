-- What is found of a header, part by part.
use Rattle.std.proofs.Common.{◌≡◌, ℕ, Bool, true, false, Option, None, Some, List, [], ◌∷◌, ◌++◌, ◌-◌, if◌then◌else◌, length, drop, ◌≤◌, nat_lt, refl, sym, ap, ap₂, ◌∙◌, subst, append_assoc, append-nil, arith}
use Rattle.truth_tables.proofs.Common.{at_drop_all, earlier_assoc, earlier_none, then_some, is_some, length-append, Place, earlier, first_refusal, first_append, none_refused, Tree, Context, targets_of, Term, SectionFault, BadWidth, NotAnOutput, too_wide, section_order, Aim, names_positions, HeaderFound, header_of, refused_header, outputs_at, named_outputs, both_headers, header_set, output_header, if_none, unless_refused, IsAdded, Manner, aims_refused, outputs_refused, some_aims}

abbrev pub first : List SectionFault → Option SectionFault
first rs = first_refusal section_order rs

-- ---- parts

-- one part more, before those that are left
pub added_on : (whole x rest : HeaderFound) {both : HeaderFound} (f g h more : Option SectionFault) (old mid new later : List (Option Aim)) → both ≡ both_headers x rest → IsAdded x g mid new → IsAdded rest more new later → h ≡ earlier section_order f g
    → ((k : Option SectionFault) (end : List (Option Aim)) → IsAdded both k mid end → IsAdded whole (earlier section_order f k) old end) → IsAdded whole (earlier section_order h more) old later
added_on whole x rest f g h more old mid new later q a b e k =
    subst (λ z. IsAdded whole z old later) (sym (ap (λ z. earlier section_order z more) e ∙ earlier_assoc section_order f g more))
    (k (earlier section_order g more) later
    (subst (λ y. IsAdded y (earlier section_order g more) mid later) (sym q)
    (record {
      fault = ap₂ (earlier section_order) a.fault b.fault ∙ sym (first_append section_order x.refusals rest.refusals);
      outputs = b.outputs ∙ ap (λ zs. zs ++ rest.outputs) a.outputs ∙ append_assoc mid x.outputs rest.outputs;
    })))

wide_first : (b : Bool) (p : Place) → then_some b (BadWidth p) ≡ first (if b then BadWidth p ∷ [] else [])
wide_first true p = refl
wide_first false p = refl

-- a set, whose positions are counted
pub added_whole : (p : Place) (x : HeaderFound) (f g h : Option SectionFault) (old new : List (Option Aim)) (w : ℕ) → IsAdded x f old new → w ≡ length new - length old → g ≡ then_some (nat_lt 32 w) (BadWidth p) → h ≡ earlier section_order f g → IsAdded (header_set p x) h old new
added_whole p x f g h old new w a e t q =
    let more : w ≡ length x.outputs = omega (arith, e, ap length a.outputs, length-append old x.outputs) in
    record {
      fault = q
          ∙ ap₂ (earlier section_order) a.fault (t ∙ wide_first (nat_lt 32 w) p ∙ ap (λ n. first (too_wide p n)) more)
          ∙ sym (first_append section_order x.refusals (too_wide p (length x.outputs)));
      outputs = a.outputs;
    }

-- nothing is appended
pub added_none : (x : HeaderFound) (f : Option SectionFault) (xs : List (Option Aim)) → f ≡ first x.refusals → x.outputs ≡ [] → IsAdded x f xs xs
added_none x f xs e o = record { fault = e; outputs = sym (ap (λ ys. xs ++ ys) o ∙ append-nil xs) }

-- an expression that is refused for its form
pub added_refused : (d : Context) (e u : Tree) (r f : SectionFault) (xs : List (Option Aim)) → e ≡ u → output_header d u ≡ refused_header r → f ≡ r → IsAdded (output_header d e) (Some f) xs xs
added_refused d e u r f xs v h k = subst (λ x. IsAdded x (Some f) xs xs) (sym (ap (output_header d) v ∙ h)) (added_none (refused_header r) (Some f) xs (ap Some k) refl)

-- all of a header
pub added_outputs : {x : HeaderFound} {f : Option SectionFault} {old new : List (Option Aim)} → IsAdded x f old new → old ≡ [] → new ≡ x.outputs
added_outputs {x} a o = a.outputs ∙ ap (λ xs. xs ++ x.outputs) o

-- a header that is refused assigns nothing
named_aims : (rs : List SectionFault) (f : Option SectionFault) (ys : List Aim) → f ≡ first rs → (if is_some f then [] else ys) ≡ unless_refused rs ys
named_aims rs None ys e = ap (λ xs. unless_refused xs ys) (sym (none_refused section_order rs e))
named_aims [] (Some x) ys e = absurd cc
named_aims (r ∷ rs) (Some x) ys e = refl

pub header_aims : {x : HeaderFound} {f : Option SectionFault} {old new : List (Option Aim)} → IsAdded x f old new → old ≡ [] → (ys : List Aim) → ys ≡ (if is_some f then [] else some_aims new) → ys ≡ unless_refused x.refusals (some_aims x.outputs)
header_aims {x} {f} a o ys e =
    e ∙ ap (λ xs. if is_some f then [] else some_aims xs) (added_outputs a o) ∙ named_aims x.refusals f (some_aims x.outputs) a.fault

-- of outputs that are refused nothing more is refused
pub refused_first : (d : Context) (all : List Manner) (clocked : Bool) (x : HeaderFound) → earlier section_order (first x.refusals) (first (aims_refused d all None false clocked (unless_refused x.refusals (some_aims x.outputs)))) ≡ first (outputs_refused d all clocked x)
refused_first d all clocked x =
    sym (first_append section_order x.refusals (aims_refused d all None false clocked (unless_refused x.refusals (some_aims x.outputs)))) ∙ ap first (whole x.refusals)
  where
    whole : (rs : List SectionFault) → rs ++ aims_refused d all None false clocked (unless_refused rs (some_aims x.outputs)) ≡ if_none rs (aims_refused d all None false clocked (some_aims x.outputs))
    whole [] = refl
    whole (r ∷ rs) = append-nil (r ∷ rs)

-- no part is left
pub added_all : {A : Type 0} (parts : List A → HeaderFound) (xs : List A) (i : ℕ) (f : Option SectionFault) (whole : HeaderFound) (old now : List (Option Aim)) → parts [] ≡ header_of [] → length xs ≤ i
    → (IsAdded (parts (drop i xs)) None now now → IsAdded whole (earlier section_order f None) old now) → IsAdded whole f old now
added_all parts xs i f whole old now e le k =
    subst (λ z. IsAdded whole z old now) (earlier_none section_order f)
    (k (subst (λ y. IsAdded y None now now) (sym (at_drop_all parts xs i le ∙ e)) (added_none (header_of []) None now refl refl)))

-- ---- names

pub named_refused : (rs : List SectionFault) (p : Place) (name : Option ℕ) (t : Term) (f : Option SectionFault) (xs : List (Option Aim)) → is_some f ≡ true → f ≡ first rs → IsAdded (named_outputs rs p name t) f xs xs
named_refused [] p name t f xs s e = let none : is_some f ≡ false = ap is_some e in absurd cc
named_refused (r ∷ rs) p name t f xs s e = record { fault = e; outputs = sym (append-nil xs) }

pub named_other : (p : Place) (name : Option ℕ) (t : Term) → names_positions t ≡ false → named_outputs [] p name t ≡ refused_header (NotAnOutput p name)
named_other p name t e = rw e refl

pub named_listed : (p : Place) (name : Option ℕ) (t : Term) (ss : List (Option ℕ)) → names_positions t ≡ true → ss ≡ targets_of t → named_outputs [] p name t ≡ header_of (outputs_at p ss)
named_listed p name t ss e h = rw (e, h) refl
