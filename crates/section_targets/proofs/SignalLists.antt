-- The signals of several names, one after another.
use Rattle.std.proofs.Common.{◌≡◌, ℕ, zero, suc, ◌<◌, ◌≤◌, ◌==◌, min, Bool, true, false, ◌&&◌, Option, None, Some, List, [], ◌∷◌, ◌++◌, All, length, take, refl, sym, ap, ap₂, ◌∙◌, subst, arith, append_assoc, if◌then◌else◌, bytes_eq, codes}
use Rattle.section_targets.proofs.Common.{cond_both, take-map, take-take, take_all, length-take, All-append, All-map, All-take, nat_tests, Place, Extension, earlier, first_refusal, first_append, Entry, find, Tree, Context, first_place, NotAnOutput, targets_of, all_targets, some_signals, Term, Terms, X, Pulse, Release, Read, Set, NoTerm, Before, extended, extended_each, special_term, SectionFault, section_order, too_wide, Aim, NamedSignals, Side, AreNamed, AreSignals, IsOfTerm, IsOfMembers, IsSide, TargetFound, aim_at, aims_at, names_signals, all_name_signals, is_signal_number, start_at, first_name, no_target, targets_both, target_set, target_member}

-- ---- signals

pub some_append : (xs ys : List (Option ℕ)) → some_signals (xs ++ ys) ≡ some_signals xs ++ some_signals ys
some_append [] ys = refl
some_append (None ∷ xs) ys = some_append xs ys
some_append (Some s ∷ xs) ys = ap (λ ss. s ∷ ss) (some_append xs ys)

-- ---- the first 33

-- of two lists, one after the other
listed_both : {A : Type 0} (n m k : ℕ) (xs ys : List A) → n ≤ m → n ≤ k → take n (take m xs ++ take k ys) ≡ take n (xs ++ ys)
listed_both zero m k xs ys h i = refl
listed_both (suc n) zero k xs ys h i = absurd (omega (arith, h))
listed_both (suc n) (suc m) k [] ys h i = take-take (suc n) k ys i
listed_both (suc n) (suc m) k (x ∷ xs) ys h i = ap (λ zs. x ∷ zs) (listed_both n m k xs ys (omega (arith, h)) (omega (arith, i)))

joined : {A : Type 0} (P : A → Type 0) (list us vs xs ys : List A) → list ≡ take 33 (us ++ vs) → us ≡ take 33 xs → vs ≡ take 33 ys → All P us → All P vs → (list ≡ take 33 (xs ++ ys)) × All P list
joined P list us vs xs ys l u v a b = (
  l ∙ ap₂ (λ fs gs. take 33 (fs ++ gs)) u v ∙ listed_both 33 33 33 xs ys (omega arith) (omega arith),
  subst (All P) (sym l) (All-take P 33 (us ++ vs) (All-append P us vs a b)),
)

-- signals after others
pub signals_joined : (count : ℕ) (a b n : NamedSignals) (xs ys : List ℕ) (p q : Bool) → AreSignals count a xs p → AreSignals count b ys q
    → n.alone ≡ a.alone && b.alone → n.signals ≡ take 33 (a.signals ++ b.signals) → AreSignals count n (xs ++ ys) (p && q)
signals_joined count a b n xs ys p q h k alone list =
    let l = joined (λ (s : ℕ). s < count) n.signals a.signals b.signals xs ys list h.signals k.signals h.inside k.inside in
    record { alone = alone ∙ ap₂ (λ x y. x && y) h.alone k.alone; signals = l.0; inside = l.1 }

-- those of a term before those of others
pub signals_before : (count : ℕ) (n : NamedSignals) (t : Term) (ts : Terms) → AreSignals count n (some_signals (targets_of t) ++ some_signals (all_targets ts)) (names_signals t && all_name_signals ts) → IsOfMembers count n (Before t ts)
signals_before count n t ts h = subst (λ xs. AreSignals count n xs (names_signals t && all_name_signals ts)) (sym (some_append (targets_of t) (all_targets ts))) h

-- ---- extensions

abbrev pub is_empty : List ℕ → Bool
is_empty [] = true
is_empty (x ∷ xs) = false

empty_append : (xs ys : List ℕ) → is_empty (xs ++ ys) ≡ is_empty xs && is_empty ys
empty_append [] ys = refl
empty_append (x ∷ xs) ys = refl

empty_listed : (xs : List ℕ) → (length (take 33 xs) == 0) ≡ is_empty xs
empty_listed [] = refl
empty_listed (x ∷ xs) = let some : (suc (length (take 32 xs)) == 0) ≡ false = grind (arith, nat_tests) in some

exchange : (a b c d : Bool) → (a && c) && (b && d) ≡ (a && b) && (c && d)
exchange false b c d = refl
exchange true false false d = refl
exchange true true false d = refl
exchange true b true d = refl

mutual
  pub extended_targets : (e : Extension) (t : Term) → targets_of (extended e t) ≡ targets_of t
  extended_targets e (Read s None) = refl
  extended_targets e (Read s (Some f)) = refl
  extended_targets e (Set ts) = each_targets e ts
  extended_targets e _ = refl

  each_targets : (e : Extension) (ts : Terms) → all_targets (extended_each e ts) ≡ all_targets ts
  each_targets e NoTerm = refl
  each_targets e (Before t ts) = ap₂ (λ xs ys. xs ++ ys) (extended_targets e t) (each_targets e ts)

mutual
  extended_names : (e : Extension) (t : Term) → names_signals (extended e t) ≡ names_signals t && is_empty (some_signals (targets_of t))
  extended_names e (Read s None) = refl
  extended_names e (Read s (Some f)) = refl
  extended_names e (Set ts) = each_names e ts
  extended_names e _ = refl

  each_names : (e : Extension) (ts : Terms) → all_name_signals (extended_each e ts) ≡ all_name_signals ts && is_empty (some_signals (all_targets ts))
  each_names e NoTerm = refl
  each_names e (Before t ts) =
      ap₂ (λ a b. a && b) (extended_names e t) (each_names e ts)
      ∙ exchange (names_signals t) (all_name_signals ts) (is_empty (some_signals (targets_of t))) (is_empty (some_signals (all_targets ts)))
      ∙ ap (λ b. (names_signals t && all_name_signals ts) && b) (sym (ap is_empty (some_append (targets_of t) (all_targets ts)) ∙ empty_append (some_signals (targets_of t)) (some_signals (all_targets ts))))

pub signals_extended : (count : ℕ) (e : Extension) (a n : NamedSignals) (t : Term) → IsOfTerm count a t → n.signals ≡ a.signals → n.alone ≡ a.alone && (length a.signals == 0) → IsOfTerm count n (extended e t)
signals_extended count e a n t h list alone =
    let xs = some_signals (targets_of t) in
    record {
      alone = alone ∙ ap₂ (λ b c. b && c) h.alone (ap (λ ss. length ss == 0) h.signals ∙ empty_listed xs) ∙ sym (extended_names e t);
      signals = list ∙ h.signals ∙ ap (λ ts. take 33 (some_signals ts)) (sym (extended_targets e t));
      inside = subst (All (λ (s : ℕ). s < count)) (sym list) h.inside;
    }

-- a special represents no signal
pub special_none : (count : ℕ) (n : NamedSignals) (letter : ℕ) → AreSignals count n [] false → IsOfTerm count n (special_term letter)
special_none count n letter h =
    cond_both (bytes_eq (letter ∷ []) (codes "X")) X (if bytes_eq (letter ∷ []) (codes "C") then Pulse else Release) (IsOfTerm count n) (λ e. h)
    (λ e. cond_both (bytes_eq (letter ∷ []) (codes "C")) Pulse Release (IsOfTerm count n) (λ f. h) (λ f. h))

-- ---- sides

pub both_assoc : (x y z : TargetFound) → targets_both (targets_both x y) z ≡ targets_both x (targets_both y z)
both_assoc x y z = rw (append_assoc x.refusals y.refusals z.refusals, append_assoc x.aims y.aims z.aims) refl

-- a side that begins at the name
pub start_same : (d : Context) (p : Place) (w : List ℕ) → start_at d p p w ≡ p
start_same d p w = cond_both (is_signal_number d.names (find d.names w)) p p (λ q. q ≡ p) (λ e. refl) (λ e. refl)

-- those of a name, which all are at one place
pub side_named : (count : ℕ) (n : NamedSignals) (s : Side) (x : TargetFound) (p : Place) (xs : List ℕ) (b : Bool) → s.fault ≡ first_refusal section_order x.refusals → x.aims ≡ aims_at p xs → AreSignals count n xs b
    → s.aims ≡ aims_at p n.signals → IsSide count s x
side_named count n s x p xs b f e h list =
    record {
      fault = f;
      aims = list ∙ ap (aims_at p) h.signals ∙ sym (take-map (aim_at p) 33 xs) ∙ ap (take 33) (sym e);
      inside = subst (AreNamed count) (sym list) (All-map (λ (a : Aim). a.signal < count) (aim_at p) n.signals h.inside);
    }

pub side_joined : (count : ℕ) (a b n : Side) (x y : TargetFound) → IsSide count a x → IsSide count b y
    → n.fault ≡ earlier section_order a.fault b.fault → n.aims ≡ take 33 (a.aims ++ b.aims) → IsSide count n (targets_both x y)
side_joined count a b n x y h k fault list =
    let l = joined (λ (s : Aim). s.signal < count) n.aims a.aims b.aims x.aims y.aims list h.aims k.aims h.inside k.inside in
    record {
      fault = fault ∙ ap₂ (earlier section_order) h.fault k.fault ∙ sym (first_append section_order x.refusals y.refusals);
      aims = l.0;
      inside = l.1;
    }

pub side_set : (count : ℕ) (p : Place) (a n : Side) (x : TargetFound) (f : Option SectionFault) → IsSide count a x → f ≡ first_refusal section_order (too_wide p (length x.aims))
    → n.fault ≡ earlier section_order a.fault f → n.aims ≡ a.aims → IsSide count n (target_set p x)
side_set count p a n x f h e fault list =
    record {
      fault = fault ∙ ap₂ (earlier section_order) h.fault e ∙ sym (first_append section_order x.refusals (too_wide p (length x.aims)));
      aims = list ∙ h.aims;
      inside = subst (AreNamed count) (sym list) h.inside;
    }

-- how many are listed
pub side_length : (count : ℕ) (s : Side) (x : TargetFound) → IsSide count s x → length s.aims ≡ min 33 (length x.aims)
side_length count s x h = ap length h.aims ∙ length-take 33 x.aims

-- all are if no more than 32 are found
pub side_all : (count : ℕ) (s : Side) (x : TargetFound) → IsSide count s x → length x.aims ≤ 32 → s.aims ≡ x.aims
side_all count s x h few = h.aims ∙ take_all 33 x.aims (omega (arith, few))

-- what begins with no signal is no target
pub side_refused : (d : Context) (s : Side) (t u : Tree) (es : List Entry) (r : SectionFault) → d.names ≡ es → r ≡ NotAnOutput (first_place t) (first_name es t) → t ≡ u
    → target_member d u ≡ no_target (NotAnOutput (first_place u) (first_name d.names u)) → IsSide (length d.names) s (no_target r) → IsSide (length d.names) s (target_member d t)
side_refused d s t u es r k e v m h =
    let told = e ∙ ap (λ x. NotAnOutput (first_place x) (first_name es x)) v ∙ sym (ap (λ ns. NotAnOutput (first_place u) (first_name ns u)) k) in
    subst (λ x. IsSide (length d.names) s (target_member d x)) (sym v) (subst (IsSide (length d.names) s) (ap no_target told ∙ sym m) h)
