-- What tables, diagrams and equations contribute, contribution by contribution, if their terms read what they may.
use Rattle.std.proofs.Common.{◌≡◌, ℕ, suc, ◌==◌, Bool, true, false, Option, None, Some, List, [], ◌∷◌, ◌++◌, map, reverse, length, if◌then◌else◌, filter, replicate}
use Rattle.design.proofs.Common.{AllByRecursion, list_any, Extension, RowTree, StateTree, Contribution, Gives, Guard, Context, registers_equal, is_state, goal_gives, in_state, is_other, once, first_of_each, state_matches, other_matches, given_each, literal, agrees, row_matches, match_of, outputs_given, rows_give, no_matches, targets_of, some_signals, Term, term_of, SignalUse, term_uses, reads_of_terms, is_kept}
use Rattle.abel_meaning.specs.Numbers.{width_of, digits}
use Rattle.abel_meaning.specs.Rows.{entry_levels}
use Rattle.abel_meaning.specs.Values.{constant_of}
use Rattle.design.proofs.Each.{each_append, each_filter}

-- the read of a signal by its name alone
abbrev pub bare : ℕ → SignalUse
bare s = record { signal = s; extension = None }

-- reads pass P, and what is given to a signal by an extension passes K; so what is given by the name alone does
module _ (d : Context) (P : SignalUse → Type 0) (K : Option Extension → ℕ → Type 0) (plain : (e : Option Extension) (s : ℕ) → K e s → K None s) where
  abbrev pub Reads : List SignalUse → Type 0
  Reads us = AllByRecursion P us

  abbrev pub Own : List (Option ℕ) → Type 0
  Own ss = AllByRecursion (K None) (some_signals ss)

  pub record IsGood (c : Contribution (List SignalUse)) : Type 0 where
    pub own : K c.extension c.signal
    pub reads : is_kept d c.signal c.extension ≡ true → Reads c.holds

  abbrev pub EachGood : List (Contribution (List SignalUse)) → Type 0
  EachGood cs = AllByRecursion IsGood cs

  abbrev pub Under : Guard (List SignalUse) → Type 0
  Under g = Reads g.holds

  -- a guard whose condition is another one
  abbrev with_condition : Guard (List SignalUse) → List SignalUse → Guard (List SignalUse)
  with_condition g w = record g { holds = w }

  -- ---- equations

  pub given_good : (g : Guard (List SignalUse)) (e : Option Extension) (c k : Bool) (what : Gives) (w : List SignalUse) (ss : List (Option ℕ)) → Under g
      → AllByRecursion (K e) (some_signals ss) → AllByRecursion (λ s. is_kept d s e ≡ true → Reads w) (some_signals ss) → EachGood (given_each reads_of_terms d g e c k what ss (replicate (length ss) w))
  given_good g e c k what w [] u q r = tt
  given_good g e c k what w (None ∷ ss) u q r = given_good g e c k what w ss u q r
  given_good g e c k what w (Some s ∷ ss) u q r =
      (record { own = q.0; reads = λ kept. each_append P g.holds w u (r.0 kept) }, given_good g e c k what w ss u q.1 r.1)

  -- ---- tables

  literal_reads : (b : Bool) (w : List SignalUse) → Reads w → Reads (literal reads_of_terms b w)
  literal_reads true w h = h
  literal_reads false w h = h

  agrees_reads : (found w : List SignalUse) (xs : List Bool) (n : ℕ) (ls : List (Option Bool)) → Reads found → Reads w → Reads (agrees reads_of_terms found xs (replicate n w) ls)
  agrees_reads found w (true ∷ xs) (suc n) (l ∷ ls) f h = agrees_reads found w xs n ls f h
  agrees_reads found w (false ∷ xs) (suc n) (None ∷ ls) f h = agrees_reads found w xs n ls f h
  agrees_reads found w (false ∷ xs) (suc n) (Some b ∷ ls) f h =
      agrees_reads (found ++ literal reads_of_terms b w) w xs n ls (each_append P found (literal reads_of_terms b w) f (literal_reads b w h)) h
  agrees_reads found w _ _ _ f h = f

  match_good : (g : Guard (List SignalUse)) (c k : Bool) (s : ℕ) → Under g → K None s → IsGood (match_of d g c k s)
  match_good g c k s u q = record { own = q; reads = λ kept. u }

  outputs_good : (g : Guard (List SignalUse)) (k : Bool) (ss : List (Option ℕ)) (ls : List (Option Bool)) → Under g → Own ss → EachGood (outputs_given d g k ss ls)
  outputs_good g k (None ∷ ss) (l ∷ ls) u q = outputs_good g k ss ls u q
  outputs_good g k (Some s ∷ ss) (Some false ∷ ls) u q = (match_good g false k s u q.0, outputs_good g k ss ls u q.1)
  outputs_good g k (Some s ∷ ss) (_ ∷ ls) u q =
      (record { own = q.0; reads = λ kept. u }, (match_good g false k s u q.0, outputs_good g k ss ls u q.1))
  outputs_good g k _ _ u q = tt

  pub rows_good : (g : Guard (List SignalUse)) (k : Bool) (inputs outputs : Term) (rows : List RowTree) → Reads (term_uses inputs) → Own (targets_of outputs) → EachGood (rows_give reads_of_terms d g k inputs outputs rows)
  rows_good g k inputs outputs [] h q = tt
  rows_good g k inputs outputs (row ∷ rows) h q =
      let entry = term_of d.known row.inputs in
      let matched = with_condition g (row_matches reads_of_terms d inputs entry) in
      let levels = entry_levels d outputs (term_of d.known row.outputs) in
      each_append IsGood (outputs_given d matched k (targets_of outputs) levels) (rows_give reads_of_terms d g k inputs outputs rows)
      (outputs_good matched k (targets_of outputs) levels (agrees_reads [] (term_uses inputs) (reverse (constant_of d inputs).unknown) (width_of (constant_of d inputs).shape) (entry_levels d inputs entry) tt h) q)
      (rows_good g k inputs outputs rows h q)

  pub none_good : (g : Guard (List SignalUse)) (c k : Bool) (ss : List (Option ℕ)) → Own ss → EachGood (no_matches reads_of_terms d g c k ss)
  none_good g c k [] q = tt
  none_good g c k (None ∷ ss) q = none_good g c k ss q
  none_good g c k (Some s ∷ ss) q = (match_good (with_condition g []) c k s tt q.0, none_good g c k ss q.1)

  -- ---- diagrams

  equal_reads : (found : List SignalUse) (ss : List ℕ) (bs : List Bool) → Reads found → Reads (map bare ss) → Reads (registers_equal reads_of_terms found ss bs)
  equal_reads found (s ∷ ss) (b ∷ bs) f r =
      let one : List SignalUse = bare s ∷ [] in
      equal_reads (found ++ literal reads_of_terms b one) ss bs (each_append P found (literal reads_of_terms b one) f (literal_reads b one (r.0, tt))) r.1
  equal_reads found _ _ f r = f

  pub state_reads : (ss : List ℕ) (v : Term) → Reads (map bare ss) → Reads (is_state reads_of_terms d ss v)
  state_reads ss v r = equal_reads [] ss (digits (length ss) (constant_of d v).number) tt r

  pub goal_good : (g : Guard (List SignalUse)) (w : List SignalUse) (ss : List ℕ) → Under g → Reads w → AllByRecursion (K None) ss → EachGood (goal_gives reads_of_terms d g ss (replicate (length ss) w))
  goal_good g w [] u h q = tt
  goal_good g w (s ∷ ss) u h q =
      (record { own = q.0; reads = λ kept. each_append P g.holds w u h }, (match_good g false true s u q.0, goal_good g w ss u h q.1))

  first_good : (before : List ℕ) (cs : List (Contribution (List SignalUse))) → EachGood cs → EachGood (first_of_each before cs)
  first_good before [] h = tt
  first_good before (c ∷ cs) h = each_append IsGood (once before c) (first_of_each (c.signal ∷ before) cs) (by (list_any (λ s. c.signal == s) before)) (first_good (c.signal ∷ before) cs h.1)
    where
      by : (b : Bool) → EachGood (if b then [] else c ∷ [])
      by true = tt
      by false = (h.0, tt)

  matches_good : (g : Guard (List SignalUse)) (ss : List ℕ) (states : List StateTree) (c : Contribution (List SignalUse)) → Reads (map bare ss) → K None c.signal → EachGood (state_matches reads_of_terms d g ss states c)
  matches_good g ss [] c r q = tt
  matches_good g ss (s ∷ states) c r q =
      (match_good (in_state reads_of_terms d g ss s) c.complement c.clocked c.signal (state_reads ss (term_of d.known s.value) r) q, matches_good g ss states c r q)

  all_matches_good : (g : Guard (List SignalUse)) (ss : List ℕ) (states : List StateTree) (cs : List (Contribution (List SignalUse))) → Reads (map bare ss) → EachGood cs → EachGood (other_matches reads_of_terms d g ss states cs)
  all_matches_good g ss states [] r h = tt
  all_matches_good g ss states (c ∷ cs) r h =
      each_append IsGood (state_matches reads_of_terms d g ss states c) (other_matches reads_of_terms d g ss states cs)
      (matches_good g ss states c r (plain c.extension c.signal h.0.own)) (all_matches_good g ss states cs r h.1)

  -- the matches of the other signals of a diagram
  pub others_good : (g : Guard (List SignalUse)) (ss : List ℕ) (states : List StateTree) (cs : List (Contribution (List SignalUse))) → Reads (map bare ss) → EachGood cs
      → EachGood (other_matches reads_of_terms d g ss states (first_of_each [] (filter (is_other ss) cs)))
  others_good g ss states cs r h =
      let others = filter (is_other ss) cs in
      all_matches_good g ss states (first_of_each [] others) r (first_good [] others (each_filter IsGood (is_other ss) cs h))
