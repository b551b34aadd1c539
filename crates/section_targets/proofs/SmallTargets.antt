-- A target that isn't refused has at most 32 signals.
use Rattle.std.proofs.Common.{◌≡◌, ℕ, ◌+◌, ◌≤◌, nat_lt, Option, None, Some, List, [], ◌++◌, length, refl, sym, ap, ◌∙◌, subst, arith, length-append}
use Rattle.section_targets.proofs.Common.{ltb-false, length-map, Place, find, Tree, AName, ASet, AParen, none_refused, Context, Shape, Value, member_width, width_of, targets_of, all_targets, some_signals, Term, Terms, NoTerm, Before, term_named, known_of, SectionFault, BadWidth, name_found, found_use, names_found, too_wide, section_order, Side, IsSide, TargetFound, aim_at, target_name, target_set, target_member, target_members, left_side, no_signals, start_of, Number}
use Rattle.abel_meaning.specs.Terms as term
use Rattle.abel_meaning.specs.Values.{constant_of, set_value, empty_point}
use Rattle.expr_bits.proofs.Linked.{IsLinkedIf, expression_linked}
use Rattle.section_targets.proofs.Built.{left_empty, right_empty, none_told}
use Rattle.section_targets.proofs.SignalLists.{some_append, side_all}

-- how many signals a term has
abbrev many : Term → ℕ
many t = length (some_signals (targets_of t))

abbrev many_of : Terms → ℕ
many_of ts = length (some_signals (all_targets ts))

member_narrow : (s : Shape) → member_width s ≤ width_of s
member_narrow Number = omega arith
member_narrow _ = omega arith

-- no more than it has positions
mutual
  term_narrow : (d : Context) (t : Term) → many t ≤ member_width (constant_of d t).shape
  term_narrow d (term.Set ts) = set_narrow d ts
  term_narrow d _ = omega arith

  -- a set is as wide as its members
  set_narrow : (d : Context) (ts : Terms) → many_of ts ≤ member_width (set_value d empty_point ts).shape
  set_narrow d NoTerm = omega arith
  set_narrow d (Before t ts) =
      let all : many_of (Before t ts) ≡ many t + many_of ts = ap length (some_append (targets_of t) (all_targets ts)) ∙ length-append (some_signals (targets_of t)) (some_signals (all_targets ts)) in
      omega (arith, all, term_narrow d t, set_narrow d ts, member_narrow (set_value d empty_point ts).shape)

few_by : (d : Context) (o : Option Value) (xs : List SectionFault) (t : Term) → (o ≡ None → ⊥) → IsLinkedIf d o xs t → many t ≤ 32
few_by d None xs t h l = absurd (h refl)
few_by d (Some v) xs t h l =
    omega (arith, term_narrow d t, member_narrow (constant_of d t).shape, subst (λ s. width_of s ≤ 32) (sym l.0.shape) l.3)

-- if nothing is refused of a name, its signals are no more than its positions
name_few : (d : Context) (p q : Place) (w : List ℕ) → d.known ≡ known_of d.names → (target_name d p q w).refusals ≡ [] → length (target_name d p q w).aims ≤ 32
name_few d p q w k e =
    let f = found_use p (name_found (names_found d.names) w) in
    let t = term_named d.known w in
    let l = expression_linked d d.names (AName (record { text = w; place = p }) None) in
    let few = few_by d f.value f.specials t (l.valued (left_empty f.refusals (f.specials ++ no_signals q (find d.names w) t) e)) (subst (λ ks. IsLinkedIf d f.value f.specials (term_named ks w)) (sym k) l.linked) in
    omega (arith, few, length-map (some_signals (targets_of t)) (aim_at q))

wide_none : (p : Place) (x : TargetFound) → (target_set p x).refusals ≡ [] → length (target_set p x).aims ≤ 32
wide_none p x e = ltb-false 32 (length x.aims) (none_told (nat_lt 32 (length x.aims)) (BadWidth p) (right_empty x.refusals (too_wide p (length x.aims)) e))

pub member_few : (d : Context) (t : Tree) → d.known ≡ known_of d.names → (target_member d t).refusals ≡ [] → length (target_member d t).aims ≤ 32
member_few d (AName word None) k e = name_few d word.place word.place word.text k e
member_few d (ASet p ms None) k e = wide_none p (target_members d ms) e
member_few d (AParen p t) k e = member_few d t k e
member_few d _ k e = omega arith

pub side_few : (d : Context) (p : Place) (t : Tree) → d.known ≡ known_of d.names → (left_side d p t).refusals ≡ [] → length (left_side d p t).aims ≤ 32
side_few d p (AName word x) k e = name_few d word.place (start_of d p word) word.text k e
side_few d p (ASet q ms x) k e = wide_none q (target_members d ms) e
side_few d p t k e = member_few d t k e

-- if no fault is found, the signals are all there
pub side_whole : (d : Context) (count : ℕ) (s : Side) (p : Place) (t : Tree) → d.known ≡ known_of d.names → IsSide count s (left_side d p t) → None ≡ s.fault → ((left_side d p t).refusals ≡ []) × (s.aims ≡ (left_side d p t).aims)
side_whole d count s p t k h e =
    let r = none_refused section_order (left_side d p t).refusals (e ∙ h.fault) in
    (r, side_all count s (left_side d p t) h (side_few d p t k r))
