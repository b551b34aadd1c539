-- What units leave that are made one after another.
use Rattle.std.proofs.Common.{◌≡◌, ℕ, ◌+◌, ◌<◌, Bool, true, false, List, [], ◌∷◌, ◌++◌, All, Result, Ok, Err, map, length, get_or, if◌then◌else◌, refl, sym, ap, ap₂, ◌∙◌, subst, arith, append_assoc, append-nil}
use Rattle.section_targets.proofs.Common.{map-append, All-append, All-head, All-tail, slice_get-get_or, get_or_from_slice_get, slice_get_within, Place, ExprId, arena, formula_at, Formula, Const, Contribution, Contributions, SectionFault, Keeps, view_contribution, Stops, NoMemory, AtLimit, StopsWith, IsBuilt, Builds, Appends, Leaves, Contributed, CountedUnit, is_past, limit_at, limit_refused, units_refused, units_nodes, all_refused}
use Rattle.abel_meaning.specs.Contributions as meant

pub left_empty : {A : Type 0} (xs ys : List A) → xs ++ ys ≡ [] → xs ≡ []
left_empty [] ys e = refl
left_empty (x ∷ xs) ys e = absurd cc

pub right_empty : {A : Type 0} (xs ys : List A) → xs ++ ys ≡ [] → ys ≡ []
right_empty [] ys e = e
right_empty (x ∷ xs) ys e = absurd cc

pub both_empty : {A : Type 0} (xs ys : List A) → xs ≡ [] → ys ≡ [] → xs ++ ys ≡ []
both_empty xs ys e f = rw (e, f) refl

pub none_told : {A : Type 0} (b : Bool) (x : A) → (if b then x ∷ [] else []) ≡ [] → b ≡ false
none_told true x e = absurd cc
none_told false x e = refl

-- ---- units in order

pub refused_append : (us vs : List CountedUnit) → units_refused (us ++ vs) ≡ units_refused us ++ units_refused vs
refused_append [] vs = refl
refused_append (u ∷ us) vs = ap (λ rs. u.refusals ++ rs) (refused_append us vs) ∙ sym (append_assoc u.refusals (units_refused us) (units_refused vs))

pub nodes_append : (us vs : List CountedUnit) → units_nodes (us ++ vs) ≡ units_nodes us + units_nodes vs
nodes_append [] vs = omega arith
nodes_append (u ∷ us) vs = omega (arith, nodes_append us vs)

-- a unit that isn't refused and doesn't pass the limit leaves it to those after it
limit_clear : (rs : List SectionFault) (p : Place) (past : Bool) (later more : List SectionFault) → rs ≡ [] → limit_at rs p past later ≡ [] → (later ≡ []) × (limit_at rs p past more ≡ more)
limit_clear [] p false later more e h = (h, refl)
limit_clear _ p _ later more e h = absurd cc

pub limit_append : (count : ℕ) (us vs : List CountedUnit) → units_refused us ≡ [] → limit_refused count us ≡ [] → limit_refused count (us ++ vs) ≡ limit_refused (count + units_nodes us) vs
limit_append count [] vs e h = ap (λ n. limit_refused n vs) (omega arith)
limit_append count (u ∷ us) vs e h =
    let c = limit_clear u.refusals u.place (is_past count u.nodes) (limit_refused (count + u.nodes) us) (limit_refused (count + u.nodes) (us ++ vs)) (left_empty u.refusals (units_refused us) e) h in
    c.1 ∙ limit_append (count + u.nodes) us vs (right_empty u.refusals (units_refused us) e) c.0
    ∙ ap (λ n. limit_refused n vs) (omega arith)

-- where something is refused, what follows changes nothing of the limit
pub limit_stays : (count : ℕ) (us vs : List CountedUnit) → (all_refused count us ≡ [] → ⊥) → limit_refused count (us ++ vs) ≡ limit_refused count us
limit_stays count [] vs h = absurd (h refl)
limit_stays count (u ∷ us) vs h = by_unit u.refusals (is_past count u.nodes) h (limit_stays (count + u.nodes) us vs)
  where
    by_unit : (rs : List SectionFault) (past : Bool) → (limit_at rs u.place past (limit_refused (count + u.nodes) us) ++ (rs ++ units_refused us) ≡ [] → ⊥)
        → ((all_refused (count + u.nodes) us ≡ [] → ⊥) → limit_refused (count + u.nodes) (us ++ vs) ≡ limit_refused (count + u.nodes) us)
        → limit_at rs u.place past (limit_refused (count + u.nodes) (us ++ vs)) ≡ limit_at rs u.place past (limit_refused (count + u.nodes) us)
    by_unit [] false h k = k h
    by_unit _ _ h k = refl

-- what stops units stops them with more after them, or after what was made
pub stops_on : (f : SectionFault) (count later : ℕ) (us vs : List CountedUnit) → (limit_refused count us ≡ f ∷ [] → limit_refused later vs ≡ f ∷ []) → Stops f count us → Stops f later vs
stops_on f count later us vs k (NoMemory h) = NoMemory h
stops_on f count later us vs k (AtLimit h) = AtLimit (k h)

-- ---- what is

pub keeps_on : (old mid new : List Formula) → Keeps old mid → Keeps mid new → Keeps old new
keeps_on old mid new h k i f e = k i f (h i f e)

pub kept_formula : (old new : List Formula) (id : ExprId) → Keeps old new → id.0 < length old → formula_at new id ≡ formula_at old id
kept_formula old new id k h =
    get_or_from_slice_get new id.0 (formula_at old id) (Const false) (k id.0 (formula_at old id) (slice_get-get_or old id.0 (Const false) h))

pub kept_inside : (old new : List Formula) (id : ExprId) → Keeps old new → id.0 < length old → id.0 < length new
kept_inside old new id k h = slice_get_within new id.0 (formula_at old id) (k id.0 (formula_at old id) (slice_get-get_or old id.0 (Const false) h))

view_kept : (old new : List Formula) (c : Contribution) → formula_at new c.when ≡ formula_at old c.when → view_contribution new c ≡ view_contribution old c
view_kept old new c e = rw e refl

abbrev Inside : List Formula → List Contribution → Type 0
Inside fs cs = All (λ (c : Contribution). c.when.0 < length fs) cs

views_kept : (old new : List Formula) (cs : List Contribution) → Keeps old new → Inside old cs → map (view_contribution new) cs ≡ map (view_contribution old) cs
views_kept old new [] k h = refl
views_kept old new (c ∷ cs) k h =
    let inside = λ (x : Contribution). x.when.0 < length old in
    ap₂ (λ x xs. x ∷ xs) (view_kept old new c (kept_formula old new c.when k (All-head inside c cs h)))
    (views_kept old new cs k (All-tail inside c cs h))

-- what was given, and then some of what is given after it
appends_then : (old mid new : Contributions) (gs hs : List (meant.Contribution Formula)) (ps qs : List Place)
    (more later : List Contribution) (rest : List (meant.Contribution Formula)) (rest_places : List Place)
    → Keeps (arena mid.exprs) (arena new.exprs)
    → Appends old mid gs ps more [] [] → Appends mid new hs qs later rest rest_places
    → Appends old new (gs ++ hs) (ps ++ qs) (more ++ later) rest rest_places
appends_then old mid new gs hs ps qs more later rest rest_places k a b =
    let fs = arena mid.exprs in
    let ns = arena new.exprs in
    let v = views_kept fs ns more k a.inside in
    record {
      list = b.list ∙ ap (λ cs. cs ++ later) a.list ∙ append_assoc old.list more later;
      inside = All-append (λ (c : Contribution). c.when.0 < length ns) more later (λ i d lt. kept_inside fs ns (get_or more i d).when k (a.inside i d lt)) b.inside;
      gives = ap₂ (λ xs ys. xs ++ ys) (a.gives ∙ append-nil (map (view_contribution fs) more) ∙ sym v) b.gives
          ∙ sym (append_assoc (map (view_contribution ns) more) (map (view_contribution ns) later) rest)
          ∙ ap (λ xs. xs ++ rest) (sym (map-append (view_contribution ns) more later));
      stand = ap₂ (λ xs ys. xs ++ ys) (a.stand ∙ append-nil (places more)) b.stand
          ∙ sym (append_assoc (places more) (places later) rest_places)
          ∙ ap (λ xs. xs ++ rest_places) (sym (map-append (λ (c : Contribution). c.place) more later));
    }
  where
    places : List Contribution → List Place
    places cs = map (λ (c : Contribution). c.place) cs

-- a front of what is given is one of more
pub leaves_less : (old new : Contributions) (gs hs : List (meant.Contribution Formula)) (ps qs : List Place) → Leaves old new gs ps → Leaves old new (gs ++ hs) (ps ++ qs)
leaves_less old new gs hs ps qs l =
    record {
      keeps = l.keeps;
      more = l.more;
      later = l.later ++ hs;
      later_places = l.later_places ++ qs;
      front = record {
        list = l.front.list;
        inside = l.front.inside;
        gives = ap (λ xs. xs ++ hs) l.front.gives ∙ append_assoc (map (view_contribution (arena new.exprs)) l.more) l.later hs;
        stand = ap (λ xs. xs ++ qs) l.front.stand ∙ append_assoc (map (λ (c : Contribution). c.place) l.more) l.later_places qs;
      };
    }

pub leaves_then : (old mid new : Contributions) (gs hs : List (meant.Contribution Formula)) (ps qs : List Place) (nodes : ℕ) → Contributed old mid gs ps nodes → Leaves mid new hs qs → Leaves old new (gs ++ hs) (ps ++ qs)
leaves_then old mid new gs hs ps qs nodes c l =
    record {
      keeps = keeps_on (arena old.exprs) (arena mid.exprs) (arena new.exprs) c.grew.keeps l.keeps;
      more = c.more ++ l.more;
      later = l.later;
      later_places = l.later_places;
      front = appends_then old mid new gs hs ps qs c.more l.more l.later l.later_places l.keeps c.whole l.front;
    }

pub made_then : (old mid new : Contributions) (gs hs : List (meant.Contribution Formula)) (ps qs : List Place) (m n : ℕ) → Contributed old mid gs ps m → Contributed mid new hs qs n → Contributed old new (gs ++ hs) (ps ++ qs) (m + n)
made_then old mid new gs hs ps qs m n c e =
    record {
      grew = record {
        keeps = keeps_on (arena old.exprs) (arena mid.exprs) (arena new.exprs) c.grew.keeps e.grew.keeps;
        count = omega (arith, c.grew.count, e.grew.count);
      };
      more = c.more ++ e.more;
      whole = appends_then old mid new gs hs ps qs c.more e.more [] [] e.grew.keeps c.whole e.whole;
    }

-- ---- units one after another

-- what is made after what was made
pub builds_then : {R : Type 0} (us vs : List CountedUnit) (gs hs : List (meant.Contribution Formula)) (ps qs : List Place) (old mid new : Contributions) (r : Result R SectionFault) → IsBuilt us gs ps old mid → Builds vs hs qs mid new r → Builds (us ++ vs) (gs ++ hs) (ps ++ qs) old new r
builds_then us vs gs hs ps qs old mid new (Ok r) b a =
    record {
      accepted = refused_append us vs ∙ both_empty (units_refused us) (units_refused vs) b.accepted a.accepted;
      within = limit_append (length (arena old.exprs)) us vs b.accepted b.within
          ∙ subst (λ n. limit_refused n vs ≡ []) b.made.grew.count a.within;
      made = subst (Contributed old new (gs ++ hs) (ps ++ qs)) (sym (nodes_append us vs))
          (made_then old mid new gs hs ps qs (units_nodes us) (units_nodes vs) b.made a.made);
    }
builds_then us vs gs hs ps qs old mid new (Err f) b a = (
  stops_on f (length (arena mid.exprs)) (length (arena old.exprs)) vs (us ++ vs)
      (λ h. limit_append (length (arena old.exprs)) us vs b.accepted b.within ∙ subst (λ n. limit_refused n vs ≡ f ∷ []) b.made.grew.count h) a.0,
  leaves_then old mid new gs hs ps qs (units_nodes us) b.made a.1,
)

-- where making stops, what would follow isn't made
pub builds_stop : (us vs : List CountedUnit) (gs hs : List (meant.Contribution Formula)) (ps qs : List Place) (old new : Contributions) (f : SectionFault) → StopsWith us gs ps old new f → StopsWith (us ++ vs) (gs ++ hs) (ps ++ qs) old new f
builds_stop us vs gs hs ps qs old new f b =
    (stops_on f count count us (us ++ vs) stays b.0, leaves_less old new gs hs ps qs b.1)
  where
    count : ℕ
    count = length (arena old.exprs)

    stays : limit_refused count us ≡ f ∷ [] → limit_refused count (us ++ vs) ≡ f ∷ []
    stays h = limit_stays count us vs (λ e. let none = left_empty (limit_refused count us) (units_refused us) e in cc) ∙ h

-- nothing is made
pub builds_none : (out : Contributions) → IsBuilt [] [] [] out out
builds_none out =
    record {
      accepted = refl;
      within = refl;
      made = record {
        grew = record { keeps = λ i f e. e; count = omega arith };
        more = [];
        whole = record { list = sym (append-nil out.list); inside = λ k d lt. absurd (omega (arith, lt)); gives = refl; stand = refl };
      };
    }
