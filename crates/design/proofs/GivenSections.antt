-- The sections of a design, part by part: what they contribute, and what holds of their targets if nothing is refused.
use Rattle.std.proofs.Common.{◌≡◌, ℕ, Bool, true, false, not, Option, None, Some, List, [], ◌∷◌, ◌++◌, map, length, append_assoc, refl, sym, ap, subst, ◌∙◌, if◌then◌else◌, filter, replicate}
use Rattle.design.proofs.Common.{AllByRecursion, list_all, and_parts, Table, cell_at, Formula, Const, Extension, Named, Assigned, signals_of, target_extension, without_extension, is_clocked, assigned_each, statement_assigns, else_assigns, statements_assign, list_assigns, with_assigns, branch_assigns, other_assigns, choices_assign, branches_assign, states_assign, section_assigns, sections_assign, is_assigned, Tree, AParen, Statement, AnAssign, AWhen, AGroup, ADontCare, Otherwise, NoElse, AnElse, Statements, NoStatement, MoreStatements, statements_of, Branch, AGoal, AnIf, ACase, OtherBranch, NoBranch, ABranch, Choices, NoChoice, MoreChoices, StateTree, SectionTree, Declarations, Equations, ATable, ADiagram, SomeVectors, DontCareSection, Contribution, Guard, guarded, condition, Context, name_at, goal_gives, branch_gives, other_gives, choices_give, branches_give, in_state, states_give, is_other, first_of_each, other_matches, with_statements, Part, ATarget, AValue, statement_parts, else_parts, statements_parts, list_parts, with_parts, branch_parts, other_parts, choices_parts, branches_parts, states_parts, section_parts, sections_parts, sign_gives, statement_gives, else_gives, statements_give, rows_give, no_matches, targets_of, some_signals, term_of, cell_of, SignalUse, term_uses, reads_of_terms, is_kept, is_enabled_by_row, is_row, expression_found, Manner, names_signals, target_member, left_side, CountedUnit, units_refused, right_empty, side_positions, statement_manners, statements_manners, units_of_statement, units_of_else, units_of_statements, register_manners, state_guard, state_manners, branch_manners, units_of_branch, units_of_other, units_of_choices, units_of_branches, units_of_states, listed_after, section_manners, units_of_section, units_of_sections, among, PlacedUse, is_by_pin, is_cell_by_pin, is_enabled_by_pin, is_compared_by, is_compared, HasBareHeader, HaveBareHeaders, flat_map, PartTree, Outputs, Value, part, parts_in_branch, parts_in_choices, parts_in_else, parts_in_other, parts_in_row, parts_in_section, parts_in_state, parts_in_statement, parts_in_statements, parts_in_with, located, part_uses}
use Rattle.std.proofs.lemmas.Grind.{flat_map-append}
use Rattle.pld_device.specs.declared.enable.Enable.{Enable}
use Rattle.pld_device.specs.declared.enable.Enable.TheVariants.{Row, PinLow, Driven, Released}
use Rattle.abel_tree.specs.declared.words.Extension.TheVariants as extension
use Rattle.abel_meaning.specs.CountedNodes.{condition_of, guard_then, guard_else}
use Rattle.abel_meaning.specs.Directives.{after_section}
use Rattle.abel_meaning.specs.Sections.{next_block, unguarded, section_gives, sections_give}
use Rattle.name_uses.specs.Parts.{Entry, Read}
use Rattle.state_diagrams.specs.DiagramUnits as diagram
use Rattle.design_checks.proofs.UsesRead.{uses_read}
use Rattle.design.proofs.ClearTargets.{IsOutput, aimed_among, aimed_output, table_output, first_units, last_units, assign_clear, diagram_clear}
use Rattle.design.proofs.AssignedData.{assigned_among, assigned_data, one_of_two, has_data, in_front, behind, each_data, each_matched}
use Rattle.design.proofs.BareTargets.{bare_alike, left_bare}
use Rattle.design.proofs.Each.{each_always, each_append, each_first, each_last, each_map}
use Rattle.design.proofs.GivenBlocks.{bare, IsGood, EachGood, Under, given_good, rows_good, none_good, state_reads, goal_good, others_good}
use Rattle.design.proofs.NamedTerms.{signals_in, IsWithin, without_within}

-- ---- what is compared, the netlist doesn't have

-- a signal on a cell that no row enables has no enable of its own
by_pin_not_row : (t : Table) (c : Option ℕ) → is_cell_by_pin t c ≡ true → is_enabled_by_row t c ≡ true → ⊥
by_pin_not_row t None pin row = absurd cc
by_pin_not_row t (Some c) pin row = by (cell_at t c).enable pin row
  where
    by : (e : Enable) → is_by_pin e ≡ true → is_row e ≡ true → ⊥
    by (Row r) pin row = absurd cc
    by (PinLow p) pin row = absurd cc
    by Driven pin row = absurd cc
    by Released pin row = absurd cc

module _ (d : Context) (A : Type 0) where
  abbrev IfKept : Option Extension → ℕ → Type 0
  IfKept e j = is_kept d j e ≡ true → A

  no_enable : (js : List ℕ) → list_all (is_enabled_by_pin d) js ≡ true → AllByRecursion (IfKept (Some extension.Oe)) js
  no_enable [] all = tt
  no_enable (j ∷ js) all =
      let both = and_parts (is_enabled_by_pin d j) (list_all (is_enabled_by_pin d) js) all in
      (λ kept. absurd (by_pin_not_row d.device (cell_of d.device (name_at d j)) both.0 kept), no_enable js both.1)

  not_kept : (e : Option Extension) (js : List ℕ) → is_compared_by d e js ≡ true → AllByRecursion (IfKept e) js
  not_kept (Some extension.Clk) js is = each_always (IfKept (Some extension.Clk)) (λ j kept. absurd cc) js
  not_kept (Some extension.Oe) js is = no_enable js is
  not_kept _ js is = absurd cc

bare_signals : (ss : List ℕ) → some_signals (map Some ss) ≡ ss
bare_signals [] = refl
bare_signals (j ∷ ss) = ap (λ js. j ∷ js) (bare_signals ss)

-- a target without its extension is bare
abbrev pub IsBare : Context → Part → Type 0
IsBare d (ATarget t) = names_signals (term_of d.known (without_extension t)) ≡ true
IsBare d (AValue t) = Unit {0}

-- the signals of a target pass with its extension
abbrev pub MayGive : Context → (Option Extension → ℕ → Type 0) → Part → Type 0
MayGive d K (ATarget t) = AllByRecursion (K (target_extension t)) (signals_in (term_of d.known t))
MayGive d K (AValue t) = Unit {0}

-- reads pass P, what is given to a signal by an extension passes K, and what any target names by its names alone does
module _ (d : Context) (P : SignalUse → Type 0) (K : Option Extension → ℕ → Type 0) (plain : (e : Option Extension) (j : ℕ) → K e j → K None j) (s : ℕ) (ks : List Named)
    (named : (t : Tree) → AllByRecursion (K None) (signals_in (term_of d.known t))) where
  abbrev EachUse : List PlacedUse → Type 0
  EachUse rs = AllByRecursion (λ (u : PlacedUse). P u.read) rs

  abbrev uses_in : List PartTree → List PlacedUse
  uses_in rs = flat_map (part_uses d) rs

  -- a part of the source, by its units, its expressions, what it holds, what it assigns, and what it contributes: each
  -- contribution is good, given what is asked of what surrounds it; the signal has data if it is assigned; and if nothing
  -- is refused, targets are bare, and the signal is a node or the pin of a cell if it is assigned
  pub record IsPart (H : Type 0) (us : List CountedUnit) (rs : List PartTree) (ps : List Part) (xs : List Assigned) (cs : List (Contribution (List SignalUse))) : Type 0 where
    pub good : H → EachUse (uses_in rs) → AllByRecursion (MayGive d K) ps → EachGood d P K plain cs
    pub given : IsWithin s ks d.known → is_assigned xs s ≡ true → has_data s cs ≡ true
    pub are_bare : units_refused us ≡ [] → AllByRecursion (IsBare d) ps
    pub output : IsWithin s ks d.known → units_refused us ≡ [] → is_assigned xs s ≡ true → IsOutput d s

  nothing : {H : Type 0} {rs : List PartTree} → IsPart H [] rs [] [] []
  nothing = record { good = λ h r p. tt; given = λ within a. absurd cc; are_bare = λ e. tt; output = λ within e a. absurd cc }

  weaker : {H J : Type 0} {us : List CountedUnit} {rs : List PartTree} {ps : List Part} {xs : List Assigned} {cs : List (Contribution (List SignalUse))} → (J → H) → IsPart H us rs ps xs cs → IsPart J us rs ps xs cs
  weaker so x = record { good = λ h r p. x.good (so h) r p; given = x.given; are_bare = x.are_bare; output = x.output }

  -- one part after another
  both : {H : Type 0} {us vs : List CountedUnit} {rs qs : List PartTree} {ps os : List Part} {xs ys : List Assigned} {cs bs : List (Contribution (List SignalUse))}
      → IsPart H us rs ps xs cs → IsPart H vs qs os ys bs → IsPart H (us ++ vs) (rs ++ qs) (ps ++ os) (xs ++ ys) (cs ++ bs)
  both {us = us} {vs = vs} {rs = rs} {qs = qs} {ps = ps} {os = os} {xs = xs} {ys = ys} {cs = cs} {bs = bs} x y = record {
    good = λ h r p.
        let each = subst EachUse (flat_map-append (part_uses d) rs qs) r in
        each_append (IsGood d P K plain) cs bs
        (x.good h (each_first (λ (u : PlacedUse). P u.read) (uses_in rs) (uses_in qs) each) (each_first (MayGive d K) ps os p))
        (y.good h (each_last (λ (u : PlacedUse). P u.read) (uses_in rs) (uses_in qs) each) (each_last (MayGive d K) ps os p));
    given = λ within a. one_of_two (has_data s (cs ++ bs) ≡ true) s xs ys a (λ e. in_front s cs bs (x.given within e)) (λ e. behind s cs bs (y.given within e));
    are_bare = λ e. each_append (IsBare d) ps os (x.are_bare (first_units us vs e)) (y.are_bare (last_units us vs e));
    output = λ within e a. one_of_two (IsOutput d s) s xs ys a (x.output within (first_units us vs e)) (y.output within (last_units us vs e));
  }

  -- after a unit of its own
  unit : {H : Type 0} {u : CountedUnit} {us : List CountedUnit} {rs : List PartTree} {ps : List Part} {xs : List Assigned} {cs : List (Contribution (List SignalUse))} → IsPart H us rs ps xs cs → IsPart H (u ∷ us) rs ps xs cs
  unit {u = u} {us = us} x = record {
    good = x.good;
    given = x.given;
    are_bare = λ e. x.are_bare (right_empty u.refusals (units_refused us) e);
    output = λ within e a. x.output within (right_empty u.refusals (units_refused us) e) a;
  }

  -- ---- what is read

  each_term : (t : Tree) → EachUse (located d.known t) → AllByRecursion P (term_uses (term_of d.known t))
  each_term t h = subst (AllByRecursion P) (uses_read d t) (each_map P (λ (u : PlacedUse). u.read) (located d.known t) h)

  -- under a guard, with an expression that is read there
  abbrev Asks : Guard (List SignalUse) → Tree → Type 0
  Asks g c = Under d P K plain g × EachUse (located d.known c)

  asked : {us : List CountedUnit} {rs : List PartTree} {ps : List Part} {xs : List Assigned} {cs : List (Contribution (List SignalUse))} (g : Guard (List SignalUse)) (c : Tree)
      → IsPart (Asks g c) us rs ps xs cs → IsPart (Under d P K plain g) us (part Read c ∷ rs) (AValue c ∷ ps) xs cs
  asked {rs = rs} g c x = record {
    good = λ h r p. x.good (h, each_first (λ (u : PlacedUse). P u.read) (located d.known c) (uses_in rs) r) (each_last (λ (u : PlacedUse). P u.read) (located d.known c) (uses_in rs) r) p.1;
    given = x.given;
    are_bare = λ e. (tt, x.are_bare e);
    output = x.output;
  }

  -- a guard with one more condition
  abbrev and_if : Guard (List SignalUse) → Tree → Guard (List SignalUse)
  and_if g c = guarded reads_of_terms g (condition reads_of_terms (term_of d.known c))

  more : (g : Guard (List SignalUse)) (c : Tree) → Asks g c → Under d P K plain (and_if g c)
  more g c h = each_append P g.holds (term_uses (term_of d.known c)) h.0 (each_term c h.1)

  -- ---- statements

  value_kept : (e : Option Extension) (js : List ℕ) (value : Tree) (compared : Bool) → is_compared_by d e js ≡ compared → EachUse (if not compared then located d.known value else [])
      → AllByRecursion (λ j. is_kept d j e ≡ true → AllByRecursion P (term_uses (term_of d.known value))) js
  value_kept e js value true is r = not_kept d (AllByRecursion P (term_uses (term_of d.known value))) e js is
  value_kept e js value false is r = each_always (λ j. is_kept d j e ≡ true → AllByRecursion P (term_uses (term_of d.known value))) (λ j kept. each_term value r) js

  mutual
    statement_part : (g : Guard (List SignalUse)) (f : Formula) (before : List Manner) (x : Statement)
        → IsPart (Under d P K plain g) (units_of_statement d f before x) (parts_in_statement x) (statement_parts x) (statement_assigns ks x) (statement_gives reads_of_terms d g x)
    statement_part g f before (AnAssign place c target sign q value) =
        let e = target_extension target in
        let k = is_clocked sign in
        let ts = targets_of (term_of d.known target) in
        let x = left_side d place target in
        let own = signals_of ks (without_extension target) in
        let found = expression_found d.names value in
        record {
          good = λ h r p. given_good d P K plain g e c k (sign_gives sign) (term_uses (term_of d.known value)) ts h p.0 (value_kept e (some_signals ts) value (is_compared d target) refl (each_first (λ (u : PlacedUse). P u.read) (part_uses d (part (Value target) value)) [] r));
          given = λ within a. let to = assigned_data s e k own a in each_data s d g e c k (sign_gives sign) (term_uses (term_of d.known value)) ts to.0 ∙ without_within s ks d.known within target to.1;
          are_bare = λ h. (left_bare d place target (assign_clear d before e c sign q x found h).0, (tt, tt));
          output = λ within h a.
              let clear = assign_clear d before e c sign q x found h in
              aimed_output d s before e c k x.aims clear.1
              (sym (aimed_among s x.aims) ∙ ap (λ ss. among s (some_signals ss)) (sym (side_positions d place target clear.0)) ∙ without_within s ks d.known within target (assigned_data s e k own a).1);
        }
    statement_part g f before (AWhen place c x other) =
        unit (asked g c (both
        (weaker (more g c) (statement_part (and_if g c) (guard_then f (condition_of d c)).what before x))
        (weaker (more g c) (else_part (and_if g c) (guard_else f (condition_of d c)).what (before ++ statement_manners d x) other))))
    statement_part g f before (AGroup xs) = statements_part g f before xs
    statement_part g f before (ADontCare directive) = nothing

    else_part : (g : Guard (List SignalUse)) (f : Formula) (before : List Manner) (x : Otherwise)
        → IsPart (Under d P K plain g) (units_of_else d f before x) (parts_in_else x) (else_parts x) (else_assigns ks x) (else_gives reads_of_terms d g x)
    else_part g f before NoElse = nothing
    else_part g f before (AnElse x) = statement_part g f before x

    statements_part : (g : Guard (List SignalUse)) (f : Formula) (before : List Manner) (xs : Statements)
        → IsPart (Under d P K plain g) (units_of_statements d f before xs) (parts_in_statements xs) (statements_parts xs) (statements_assign ks xs) (statements_give reads_of_terms d g xs)
    statements_part g f before NoStatement = nothing
    statements_part g f before (MoreStatements x xs) = both (statement_part g f before x) (statements_part g f (before ++ statement_manners d x) xs)

  list_part : (g : Guard (List SignalUse)) (f : Formula) (before : List Manner) (xs : List Statement)
      → IsPart (Under d P K plain g) (units_of_statements d f before (statements_of xs)) (flat_map parts_in_statement xs) (list_parts xs) (list_assigns ks xs) (statements_give reads_of_terms d g (statements_of xs))
  list_part g f before [] = nothing
  list_part g f before (x ∷ xs) = both (statement_part g f before x) (list_part g f (before ++ statement_manners d x) xs)

  with_part : (g : Guard (List SignalUse)) (f : Formula) (before : List Manner) (o : Option (List Statement))
      → IsPart (Under d P K plain g) (units_of_statements d f before (with_statements o)) (parts_in_with o) (with_parts o) (with_assigns ks o) (statements_give reads_of_terms d g (with_statements o))
  with_part g f before None = nothing
  with_part g f before (Some xs) = list_part g f before xs

  -- ---- diagrams

  module _ (ss : List ℕ) (n : ℕ) (registers : AllByRecursion (K None) ss) where
    goal_part : (g : Guard (List SignalUse)) (value : Tree) → IsPart (Asks g value) [] [] [] [] (goal_gives reads_of_terms d g ss (replicate (length ss) (term_uses (term_of d.known value))))
    goal_part g value = record {
      good = λ h r p. goal_good d P K plain g (term_uses (term_of d.known value)) ss h.0 (each_term value h.1) registers;
      given = λ within a. absurd cc;
      are_bare = λ e. tt;
      output = λ within e a. absurd cc;
    }

    mutual
      branch_part : (g : Guard (List SignalUse)) (f : Formula) (before : List Manner) (x : Branch)
          → IsPart (Under d P K plain g) (units_of_branch d f n before x) (parts_in_branch x) (branch_parts x) (branch_assigns ks x) (branch_gives reads_of_terms d g ss x)
      branch_part g f before (AGoal place value o) = unit (asked g value (both {us = []} {rs = []} {ps = []} {xs = []} (goal_part g value) (weaker (λ (h : Asks g value). h.0) (with_part g f before o))))
      branch_part g f before (AnIf place c x other) =
          unit (asked g c (both
          (weaker (more g c) (branch_part (and_if g c) (guard_then f (condition_of d c)).what before x))
          (weaker (more g c) (other_part (and_if g c) (guard_else f (condition_of d c)).what (before ++ branch_manners d x) other))))
      branch_part g f before (ACase place cs) = unit (choices_part g f before cs)

      other_part : (g : Guard (List SignalUse)) (f : Formula) (before : List Manner) (x : OtherBranch)
          → IsPart (Under d P K plain g) (units_of_other d f n before x) (parts_in_other x) (other_parts x) (other_assigns ks x) (other_gives reads_of_terms d g ss x)
      other_part g f before NoBranch = nothing
      other_part g f before (ABranch x) = branch_part g f before x

      choices_part : (g : Guard (List SignalUse)) (f : Formula) (before : List Manner) (cs : Choices)
          → IsPart (Under d P K plain g) (units_of_choices d f n before cs) (parts_in_choices cs) (choices_parts cs) (choices_assign ks cs) (choices_give reads_of_terms d g ss cs)
      choices_part g f before NoChoice = nothing
      choices_part g f before (MoreChoices c colon x cs) =
          asked g c (both
          (weaker (more g c) (branch_part (and_if g c) (guard_then f (condition_of d c)).what before x))
          (weaker (λ (h : Asks g c). h.0) (choices_part g f (before ++ branch_manners d x) cs)))

    branches_part : (g : Guard (List SignalUse)) (f : Formula) (before : List Manner) (xs : List Branch)
        → IsPart (Under d P K plain g) (units_of_branches d f n before xs) (flat_map parts_in_branch xs) (branches_parts xs) (branches_assign ks xs) (branches_give reads_of_terms d g ss xs)
    branches_part g f before [] = nothing
    branches_part g f before (x ∷ xs) = both (branch_part g f before x) (branches_part g f (before ++ branch_manners d x) xs)

  -- units, expressions and contributions of a state are one list each, what it holds are two
  regroup : {H : Type 0} {ps : List Part} {xs : List Assigned} (us vs ws : List CountedUnit) (rs qs os : List PartTree) (bs cs es : List (Contribution (List SignalUse)))
      → IsPart H (us ++ (vs ++ ws)) (rs ++ (qs ++ os)) ps xs (bs ++ (cs ++ es)) → IsPart H ((us ++ vs) ++ ws) ((rs ++ qs) ++ os) ps xs ((bs ++ cs) ++ es)
  regroup us vs ws rs qs os bs cs es x = rw (append_assoc us vs ws, append_assoc rs qs os, append_assoc bs cs es) x

  -- the registers as contributions have them, and as units do
  module _ (ss ms : List ℕ) (registers : AllByRecursion (K None) ss) where
    states_part : (g : Guard (List SignalUse)) (before : List Manner) (listed : List ℕ) (xs : List StateTree)
        → IsPart (AllByRecursion P (map bare ss)) (units_of_states d ms before listed xs) (flat_map parts_in_state xs) (states_parts xs) (states_assign ks xs) (states_give reads_of_terms d g ss xs)
    states_part g before listed [] = nothing
    states_part g before listed (x ∷ xs) =
        let inner = in_state reads_of_terms d g ss x in
        let f = (state_guard d ms x.value).what in
        let later = before ++ statements_manners d (statements_of x.statements) in
        let next = before ++ state_manners d x in
        let now_listed = listed_after d (length ms) listed x in
        unit (both {us = []} {rs = part Entry x.value ∷ []} {ps = []} {xs = []} {cs = []} nothing
        (regroup (units_of_statements d f before (statements_of x.statements)) (units_of_branches d f (length ms) later x.transitions) (units_of_states d ms next now_listed xs)
        (flat_map parts_in_statement x.statements) (flat_map parts_in_branch x.transitions) (flat_map parts_in_state xs)
        (statements_give reads_of_terms d inner (statements_of x.statements)) (branches_give reads_of_terms d inner ss x.transitions) (states_give reads_of_terms d g ss xs)
        (both (weaker (state_reads d P K plain ss (term_of d.known x.value)) (list_part inner f before x.statements))
        (both (weaker (state_reads d P K plain ss (term_of d.known x.value)) (branches_part ss (length ms) registers inner f later x.transitions)) (states_part g next now_listed xs)))))

  -- ---- sections

  -- the signals of a header
  header_data : IsWithin s ks d.known → (k : Bool) (t : Tree) → is_assigned (assigned_each k (signals_of ks t)) s ≡ true → among s (signals_in (term_of d.known t)) ≡ true
  header_data within k t h = within t (sym (assigned_among s k (signals_of ks t)) ∙ h)

  section_part : (on : Bool) (block : ℕ) (before : List Manner) (x : SectionTree)
      → IsPart (HasBareHeader d x) (units_of_section d before x) (parts_in_section x) (section_parts x) (section_assigns ks x) (section_gives reads_of_terms d on block x)
  section_part on block before (Declarations ds) = nothing
  section_part on block before (Equations xs) = weaker (λ (h : Unit {0}). tt) (list_part (unguarded reads_of_terms on None) (Const true) before xs)
  section_part on block before (ATable place inputs k outputs rows) =
      let g = unguarded reads_of_terms on (Some block) in
      let ts = targets_of (term_of d.known outputs) in
      let none = no_matches reads_of_terms d g false k ts in
      let given = rows_give reads_of_terms d g k (term_of d.known inputs) (term_of d.known outputs) rows in
      record {
        good = λ h r p. each_append (IsGood d P K plain) none given (none_good d P K plain g false k ts (named outputs)) (rows_good d P K plain g k (term_of d.known inputs) (term_of d.known outputs) rows (each_term inputs (each_first (λ (u : PlacedUse). P u.read) (located d.known inputs) (uses_in (part (Outputs k) outputs ∷ flat_map parts_in_row rows)) r)) (named outputs));
        given = λ within a. in_front s none given (each_matched s d g false k ts ∙ header_data within k outputs a);
        are_bare = λ e. (tt, tt);
        output = λ within e a. table_output d s ks within before place inputs k outputs rows e a;
      }
  section_part on block before (ADiagram place registers xs) =
      let g = unguarded reads_of_terms on (Some block) in
      let t = term_of d.known registers in
      let ss = signals_in t in
      let x = target_member d registers in
      let none = no_matches reads_of_terms d g false true (map Some ss) in
      let own = states_give reads_of_terms d g ss xs in
      let others = other_matches reads_of_terms d g ss xs (first_of_each [] (filter (is_other ss) own)) in
      let states = states_part ss (diagram.signals_of x.aims) (named registers) g (before ++ register_manners x) [] xs in
      record {
        good = λ b r p.
            let read = subst (AllByRecursion P) (bare_alike t b).1 (each_term registers (each_first (λ (u : PlacedUse). P u.read) (located d.known registers) (uses_in (flat_map parts_in_state xs)) r)) in
            let good = states.good read (each_last (λ (u : PlacedUse). P u.read) (located d.known registers) (uses_in (flat_map parts_in_state xs)) r) p in
            each_append (IsGood d P K plain) none (own ++ others) (none_good d P K plain g false true (map Some ss) (subst (AllByRecursion (K None)) (sym (bare_signals ss)) (named registers)))
            (each_append (IsGood d P K plain) own others good (others_good d P K plain g ss xs own read good));
        given = λ within a. one_of_two (has_data s (none ++ (own ++ others)) ≡ true) s (assigned_each true (signals_of ks registers)) (states_assign ks xs) a
            (λ e. in_front s none (own ++ others) (each_matched s d g false true (map Some ss) ∙ ap (among s) (bare_signals ss) ∙ header_data within true registers e))
            (λ e. behind s none (own ++ others) (in_front s own others (states.given within e)));
        are_bare = λ h. states.are_bare (diagram_clear d before place registers xs h).1;
        output = λ within h a.
            let clear = diagram_clear d before place registers xs h in
            one_of_two (IsOutput d s) s (assigned_each true (signals_of ks registers)) (states_assign ks xs) a
            (λ e. aimed_output d s before None false true x.aims clear.0.1
            (sym (aimed_among s x.aims) ∙ ap (λ ts. among s (some_signals ts)) (sym (side_positions d place (AParen place registers) clear.0.0)) ∙ header_data within true registers e))
            (states.output within clear.1);
      }
  section_part on block before (SomeVectors text place inputs outputs rows) = nothing
  section_part on block before (DontCareSection directive) = nothing

  pub sections_part : (on : Bool) (block : ℕ) (before : List Manner) (xs : List SectionTree)
      → IsPart (HaveBareHeaders d xs) (units_of_sections d before xs) (flat_map parts_in_section xs) (sections_parts xs) (sections_assign ks xs) (sections_give reads_of_terms d on block xs)
  sections_part on block before [] = nothing
  sections_part on block before (x ∷ xs) =
      both (weaker (λ (h : HaveBareHeaders d (x ∷ xs)). h.0) (section_part on block before x))
      (weaker (λ (h : HaveBareHeaders d (x ∷ xs)). h.1) (sections_part (after_section on x) (next_block block x) (before ++ section_manners d before x) xs))
