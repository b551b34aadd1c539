-- The walk over a whole diagram, part by part: no match for each register, states with the matches of other signals.
use Rattle.std.proofs.Common.{◌≡◌, false, true, Option, None, Some, List, [], ◌∷◌, ◌++◌, Result, Ok, length, map, drop, option_map, refl, sym, ap, ap₂, ◌∙◌, subst, subst₂, arith, append-nil, filter, append_assoc}
use Rattle.state_diagrams.proofs.Common.{drop-append_seam, Place, ExprId, arena, Formula, StateTree, Context, first_of_each, is_other, other_matches, states_give, formulas, no_matches, Contribution, Contributions, SectionFault, view_contribution, Aim, Manner, Walked, AreBits, IsBuilt, Builds, AreFirsts, Walks, standing, walks_made, walks_then, places_of, signals_of, DoesWork, is_among, other_places, other_signal, pushed_for, regarded, no_block, WalksWork, header_work, others_work, state_bits, states_work, is_some, earlier, first_refusal, Tree, view, view_state, registers_given, some_signals, targets_of, term_of, Guard, section_order, view_guard, target_member, CountedUnit, walks_refused, aims_places, diagram_manners, manners_behind, register_manners, registers_refused, states_manners, units_behind, units_of_states, given_by, places_by, units_of, if_none, before, some_refused, not_clear, or-false, map-map}
use Rattle.abel_meaning.specs.Contributions as meant
use Rattle.truth_tables.specs.TableUnits as tables
use Rattle.truth_tables.specs.Gives as header
use Rattle.state_diagrams.proofs.MatchLaws.{pushed_meant}
use Rattle.state_diagrams.proofs.GuardsOfStates.{states_by_any}
use Rattle.state_diagrams.proofs.StateBits.{states_counted}
use Rattle.abel_tree.specs.declared.diagrams.Diagram.{Diagram}
use Rattle.section_targets.proofs.SideTerms.{member_positions, positions_of}
use Rattle.state_diagrams.proofs.StateLaws.{manners_accepted}
use Rattle.state_diagrams.proofs.AnyGuards.{unit_then}

-- ---- where something is refused, what is given doesn't count

pub walks_refusing : (all ms : List Manner) (us : List CountedUnit) (gs hs : List (meant.Contribution Formula)) (ps qs : List Place) (old new : Walked) → is_some new.fault ≡ true → Walks all us gs ps ms old new → Walks all us hs qs ms old new
walks_refusing all ms us gs hs ps qs old new s w =
    record { keeps = w.keeps; fault = w.fault; manners = w.manners; given = λ e. not_clear new.fault s e }

-- ---- other signals

-- matches after the states
pub others_walk : (d : Context) (h : meant.Guard Formula) (xs : List Aim) (all ms : List Manner) (ss : List StateTree) (ids : List ExprId) (old mid new : Walked) → mid.fault ≡ None
    → WalksWork all (states_work d h xs all [] ss) ms old mid → AreBits (arena mid.exprs) ids (state_bits d xs ss)
    → new.list.items ≡ mid.list.items ++ pushed_for ids (signals_of xs) (drop (length old.list.items) mid.list.items)
    → WalksWork all (others_work d h xs all ss) ms old (record mid { list = new.list })
others_walk d h xs all ms ss ids old mid new clear walks bits e =
    let sig = signals_of xs in
    let fs = arena mid.exprs in
    let view = view_contribution fs in
    let v = states_work d h xs all [] ss in
    let free = states_give (formulas d) d no_block sig ss in
    let hs = other_matches (formulas d) d h sig ss (first_of_each [] (filter (is_other sig) v.gives)) in
    let qs = other_places [] (length ss) (map (other_signal sig) free) v.places in
    let b = walks.given clear in
    let cs = drop (length old.list.items) mid.list.items in
    let here : cs ≡ b.more = ap (drop (length old.list.items)) b.whole.list ∙ drop-append_seam old.list.items b.more in
    let gives : map view cs ≡ v.gives = ap (map view) here ∙ sym (b.whole.gives ∙ append-nil (map view b.more)) in
    let stand : map (λ (c : Contribution). c.place) cs ≡ v.places = ap (map (λ (c : Contribution). c.place)) here ∙ sym (b.whole.stand ∙ append-nil (map (λ (c : Contribution). c.place) b.more)) in
    let own = gives ∙ states_by_any (formulas d) d h h sig ss ∙ ap (map (regarded d h)) (sym gives) ∙ map-map (regarded d h) view cs in
    let p = pushed_meant fs d h xs ss ids bits cs [] sig own (λ s. sym (or-false (is_among sig s))) in
    let matched = p.gives ∙ ap (λ gs. other_matches (formulas d) d h sig ss (first_of_each [] (filter (is_other sig) gs))) gives in
    let signals = ap (map (other_signal sig)) (gives ∙ states_by_any (formulas d) d h no_block sig ss) ∙ map-map (other_signal sig) (regarded d h) free in
    let placed = p.stand ∙ ap₂ (λ os ps. other_places [] (length ids) os ps) signals stand ∙ ap (λ n. other_places [] n (map (other_signal sig) free) v.places) (states_counted d xs fs ids ss bits) in
    let made : Walked = record mid { list = new.list } in
    let built : IsBuilt [] hs qs (standing mid) (standing made) =
    record {
      accepted = refl;
      within = refl;
      made = record {
        grew = record { keeps = λ i f k. k; count = omega arith };
        more = pushed_for ids sig cs;
        whole = record { list = e; inside = p.inside; gives = sym (append-nil (map (view_contribution fs) (pushed_for ids sig cs)) ∙ matched); stand = sym (append-nil (map (λ (c : Contribution). c.place) (pushed_for ids sig cs)) ∙ placed) };
      };
    } in
    let later = walks_made (all ++ ms) [] [] hs qs mid made made (Ok tt) clear clear refl (subst (AreFirsts mid.before) (sym (append-nil (all ++ ms))) walks.manners) built refl in
    subst₂ (λ us ns. Walks all us (v.gives ++ hs) (v.places ++ qs) ns old made) (append-nil v.units) (append-nil ms)
    (walks_then all ms [] v.units [] v.gives hs v.places qs old mid made walks later)

-- ---- registers

-- registers as the outputs of a header
header_signals : (xs : List Aim) → header.signals_of (map Some xs) ≡ map Some (signals_of xs)
header_signals xs = map-map (λ (x : Option Aim). option_map (λ (a : Aim). a.signal) x) Some xs ∙ sym (map-map Some (λ (a : Aim). a.signal) xs)

header_places : (xs : List Aim) → places_of (tables.some_aims (map Some xs)) ≡ places_of xs
header_places [] = refl
header_places (x ∷ xs) = ap (λ ps. x.place ∷ ps) (header_places xs)

pub header_aims : (xs : List Aim) → tables.some_aims (map Some xs) ≡ xs
header_aims [] = refl
header_aims (x ∷ xs) = ap (λ ys. x ∷ ys) (header_aims xs)

pub header_there : (d : Context) (h : meant.Guard Formula) (xs : List Aim) (outputs : List (Option Aim)) (old new : Contributions) (r : Result Unit SectionFault) → outputs ≡ map Some xs
    → Builds [] (no_matches (formulas d) d h false true (header.signals_of outputs)) (places_of (tables.some_aims outputs)) old new r → DoesWork (header_work d h xs) old new r
header_there d h xs outputs old new r e b =
    subst₂ (λ ss ps. Builds [] (no_matches (formulas d) d h false true ss) ps old new r) (ap header.signals_of e ∙ header_signals xs)
    (ap (λ ys. places_of (tables.some_aims ys)) e ∙ header_places xs) b

-- registers of which nothing is refused are those of their term
pub registers_clear : (rs more : List SectionFault) → if_none rs more ≡ [] → rs ≡ []
registers_clear [] more e = refl
registers_clear (r ∷ rs) more e = absurd cc

some_positions : (xs : List Aim) → some_signals (positions_of xs) ≡ signals_of xs
some_positions [] = refl
some_positions (x ∷ xs) = ap (λ ss. x.signal ∷ ss) (some_positions xs)

pub register_signals : (d : Context) (t : Tree) → (target_member d t).refusals ≡ [] → some_signals (targets_of (term_of d.known t)) ≡ signals_of (target_member d t).aims
register_signals d t e = ap some_signals (member_positions d t e) ∙ some_positions (target_member d t).aims

-- ---- diagrams

-- after registers that were noted
noted_walks : (all ms ns before : List Manner) (us : List CountedUnit) (gs : List (meant.Contribution Formula)) (ps : List Place) (old new : Walked) → Walks (all ++ ms) us gs ps ns (record old { before = before }) new → Walks all us gs ps (ms ++ ns) old new
noted_walks all ms ns before us gs ps old new w =
    record { keeps = w.keeps; fault = w.fault; manners = subst (AreFirsts new.before) (append_assoc all ms ns) w.manners; given = w.given }

-- a diagram of registers that aren't refused: no match for each of them, and the states
pub diagram_walks : (d : Context) (all before : List Manner) (fs : List Formula) (g : Guard) (x : Diagram) (xs : List Aim) (old mid new : Walked)
    → registers_refused d all (target_member d (view x.registers)) ≡ [] → xs ≡ (target_member d (view x.registers)).aims
    → WalksWork (all ++ register_manners (target_member d (view x.registers))) (header_work d (view_guard fs g) xs) [] (record old { before = before }) mid
    → WalksWork (all ++ register_manners (target_member d (view x.registers))) (others_work d (view_guard fs g) xs (all ++ register_manners (target_member d (view x.registers))) (map view_state x.states)) (states_manners d (map view_state x.states)) mid new
    → Walks all (units_of d all x) (given_by d g x fs) (places_by d x) (diagram_manners d all (target_member d (view x.registers)) (map view_state x.states)) old new
diagram_walks d all noted fs g x xs old mid new clear e a b =
    let t = target_member d (view x.registers) in
    let h = view_guard fs g in
    let ss = map view_state x.states in
    let ms = all ++ register_manners t in
    let us = units_of_states d (signals_of t.aims) ms [] ss in
    let start : Walked = record old { before = noted } in
    let both = unit_then ms (states_manners d ss) (header_work d h xs) (others_work d h xs ms ss) start mid new a b in
    let named = subst (λ ys. WalksWork ms (before (header_work d h ys) (others_work d h ys ms ss)) (states_manners d ss) start new) e both in
    let behind = subst (λ vs. Walks ms vs (given_by d g x fs) (places_by d x) (states_manners d ss) start new) (sym (ap (λ rs. units_behind rs x.place us) clear))
    (subst (λ ys. Walks ms us (registers_given (formulas d) d h ys ss) (aims_places d t.aims ss) (states_manners d ss) start new) (sym (register_signals d (view x.registers) (registers_clear t.refusals _ clear))) named) in
    subst (λ ns. Walks all (units_of d all x) (given_by d g x fs) (places_by d x) ns old new) (manners_accepted (registers_refused d all t) (register_manners t) (states_manners d ss) clear)
    (noted_walks all (register_manners t) (states_manners d ss) noted (units_of d all x) (given_by d g x fs) (places_by d x) old new behind)

-- a diagram whose registers are refused
pub diagram_refused : (all ms ns : List Manner) (rs : List SectionFault) (p : Place) (us : List CountedUnit) (gs : List (meant.Contribution Formula)) (ps : List Place) (f : SectionFault) (old new : Walked)
    → Some f ≡ first_refusal section_order rs → new.fault ≡ earlier section_order old.fault (Some f) → new.exprs ≡ old.exprs → AreFirsts new.before (all ++ ms)
    → Walks all (units_behind rs p us) gs ps (ms ++ manners_behind rs ns) old new
diagram_refused all ms ns [] p us gs ps f old new e k x a = absurd cc
diagram_refused all ms ns (r ∷ rs) p us gs ps f old new e k x a =
    walks_refused all (ms ++ []) (record { place = p; refusals = r ∷ rs; nodes = 0 }) gs ps (Some f) old new (e ∙ ap (first_refusal section_order) (sym (append-nil (r ∷ rs)))) k (ap is_some k ∙ some_refused old.fault f) x
    (subst (λ xs. AreFirsts new.before (all ++ xs)) (sym (append-nil ms)) a)
