-- What the functions and controls that the netlist has name is read by contributions that it has.
use Rattle.std.proofs.Common.{◌≡◌, ℕ, suc, Bool, true, false, ◌==◌, ◌&&◌, List, [], ◌∷◌, map, slice_get, Option, Some, None, refl, sym, subst, inl, inr, filter, fold, if◌then◌else◌}
use Rattle.netlist_laws.proofs.Common.{cases_Bool, and_parts, same_level, Leaf, make_not, make_or, Formula, Const, Extension, Gives, One, Any, Match, Contribution, is_the_control, is_control, control_by, control_of, Design, seen, formulas, is_data_to, same_gives, some_holds, gives_some, is_free_elsewhere, is_data_in, is_both, gives_in, any_against, both_function, single_function, function_of, given_formulas, SignalUse, given_uses, uses_read, is_kept}
use Rattle.abel_tree.specs.declared.words.Extension.TheVariants as extension
use Rattle.abel_tree.specs.Extensions.{is_data}
use Rattle.netlist_laws.proofs.NamedLeaves.{NamesOnly, of_constant, of_not, of_or}
use Rattle.netlist_laws.proofs.SourcedFormulas.{Sourced, sourced_contributions, formulas_are, uses_are}

module _ (d : Design) (P : Leaf → Type 0) where
  -- what the contribution names is such, if the netlist has it
  abbrev KeptNames : Contribution Formula → Type 0
  KeptNames c = is_kept d.context c.signal c.extension ≡ true → NamesOnly P c.holds

  abbrev pub EachKept : List (Contribution Formula) → Type 0
  EachKept [] = Unit {0}
  EachKept (c ∷ cs) = KeptNames c × EachKept cs

  -- ---- each contribution by what it uses

  abbrev AllReads : List (Contribution (List SignalUse)) → Type 0
  AllReads us = (k : ℕ) (c : Contribution (List SignalUse)) → slice_get us k ≡ Some c → is_kept d.context c.signal c.extension ≡ true → (l : Leaf) → uses_read d.context c.holds l ≡ true → P l

  by_uses : (xs : List (Contribution (Sourced d.context))) → AllReads (map (seen (λ (x : Sourced d.context). x.uses)) xs) → EachKept (map (seen (λ (x : Sourced d.context). x.formula)) xs)
  by_uses [] reads = tt
  by_uses (x ∷ xs) reads =
      ((λ kept l e. reads 0 (seen (λ (y : Sourced d.context). y.uses) x) refl kept l (x.holds.named l e)), by_uses xs (λ k c. reads (suc k) c))

  pub each_kept : AllReads (given_uses d) → EachKept (given_formulas d)
  each_kept reads =
      subst (λ cs. EachKept cs) (formulas_are d) (by_uses (sourced_contributions d) (subst (λ us. AllReads us) (sym (uses_are d)) reads))

  -- ---- sums of them

  of_some : (test : Contribution Formula → Bool) → ((c : Contribution Formula) → test c ≡ true → is_kept d.context c.signal c.extension ≡ true) → (cs : List (Contribution Formula)) → EachKept cs → (f : Formula) → NamesOnly P f
      → NamesOnly P (fold (λ (w : Formula) (c : Contribution Formula). (make_or w c.holds).what) f (filter test cs))
  of_some test kept [] all f here = here
  of_some test kept (c ∷ cs) all f here =
      elim (cases_Bool (test c)) [
        | inl hit ↦ rw hit (of_some test kept cs all.1 (make_or f c.holds).what (of_or P f c.holds here (all.0 (kept c hit))))
        | inr miss ↦ rw miss (of_some test kept cs all.1 f here)
      ]

  data_kept : (s : ℕ) (e : Option Extension) → is_data e ≡ true → is_kept d.context s e ≡ true
  data_kept s None is = refl
  data_kept s (Some extension.D) is = refl
  data_kept s (Some extension.Clk) is = absurd cc
  data_kept s (Some extension.Oe) is = absurd cc
  data_kept s (Some extension.Ar) is = absurd cc
  data_kept s (Some extension.Sp) is = absurd cc
  data_kept s (Some extension.Q) is = absurd cc
  data_kept s (Some extension.Fb) is = absurd cc
  data_kept s (Some extension.Pin) is = absurd cc

  of_gives : (cs : List (Contribution Formula)) → EachKept cs → (gives : Gives) (s : ℕ) → NamesOnly P (gives_some (formulas d.context) cs gives s)
  of_gives cs all gives s =
      of_some (λ c. is_data_to s c && same_gives gives c.gives)
      (λ c hit. data_kept c.signal c.extension (and_parts (c.signal == s) (is_data c.extension) (and_parts (is_data_to s c) (same_gives gives c.gives) hit).0).1)
      cs all (Const false) (of_constant P false)

  -- those of one polarity
  of_gives_in : (cs : List (Contribution Formula)) → EachKept cs → (complement : Bool) (gives : Gives) (s : ℕ) → NamesOnly P (gives_in (formulas d.context) cs complement gives s)
  of_gives_in cs all complement gives s =
      of_some (λ c. is_data_in complement s c && same_gives gives c.gives)
      (λ c hit. let to_it = and_parts (is_data_to s c) (same_level c.complement complement) (and_parts (is_data_in complement s c) (same_gives gives c.gives) hit).0 in
      data_kept c.signal c.extension (and_parts (c.signal == s) (is_data c.extension) to_it.0).1)
      cs all (Const false) (of_constant P false)

  -- what may be anything, also if no don't-care block matches
  of_or_no_match : (cs : List (Contribution Formula)) → EachKept cs → (s : ℕ) (any : Formula) → NamesOnly P any
      → NamesOnly P (if is_free_elsewhere cs s then (formulas d.context).either any ((formulas d.context).not (gives_some (formulas d.context) cs Match s)) else any)
  of_or_no_match cs all s any here = by (is_free_elsewhere cs s)
    where
      by : (b : Bool) → NamesOnly P (if b then (formulas d.context).either any ((formulas d.context).not (gives_some (formulas d.context) cs Match s)) else any)
      by true =
          of_or P any (make_not (gives_some (formulas d.context) cs Match s)).what here
          (of_not P (gives_some (formulas d.context) cs Match s) (of_gives cs all Match s))
      by false = here

  of_both_one : (cs : List (Contribution Formula)) → EachKept cs → (s : ℕ) → NamesOnly P (both_function (formulas d.context) cs s).one
  of_both_one cs all s =
      let against = (make_or (gives_in (formulas d.context) cs true One s) (any_against (formulas d.context) cs s)).what in
      of_or P (gives_in (formulas d.context) cs false One s) (make_not against).what (of_gives_in cs all false One s)
      (of_not P against
      (of_or P (gives_in (formulas d.context) cs true One s) (any_against (formulas d.context) cs s) (of_gives_in cs all true One s)
      (of_or_no_match cs all s (gives_in (formulas d.context) cs true Any s) (of_gives_in cs all true Any s))))

  of_both_any : (cs : List (Contribution Formula)) → EachKept cs → (s : ℕ) → NamesOnly P (both_function (formulas d.context) cs s).any
  of_both_any cs all s =
      of_or P (gives_in (formulas d.context) cs false Any s) (make_not (gives_in (formulas d.context) cs true One s)).what (of_gives_in cs all false Any s)
      (of_not P (gives_in (formulas d.context) cs true One s) (of_gives_in cs all true One s))

  pub of_one : (cs : List (Contribution Formula)) → EachKept cs → (s : ℕ) → NamesOnly P (function_of (formulas d.context) cs s).one
  of_one cs all s = by (is_both cs s)
    where
      by : (b : Bool) → NamesOnly P (if b then both_function (formulas d.context) cs s else single_function (formulas d.context) cs s).one
      by true = of_both_one cs all s
      by false = of_gives cs all One s

  pub of_any : (cs : List (Contribution Formula)) → EachKept cs → (s : ℕ) → NamesOnly P (function_of (formulas d.context) cs s).any
  of_any cs all s = by (is_both cs s)
    where
      by : (b : Bool) → NamesOnly P (if b then both_function (formulas d.context) cs s else single_function (formulas d.context) cs s).any
      by true = of_both_any cs all s
      by false = of_or_no_match cs all s (gives_some (formulas d.context) cs Any s) (of_gives cs all Any s)

  -- ---- controls

  abbrev sum_of : List (Contribution Formula) → Formula
  sum_of cs = some_holds (formulas d.context) cs

  of_control_by : (cs : List (Contribution Formula)) → NamesOnly P (sum_of cs) → (f : Formula) → control_by (formulas d.context) cs ≡ Some f → NamesOnly P f
  of_control_by [] here f is = absurd cc
  of_control_by (c ∷ cs) here f is = subst (λ g. NamesOnly P g) (same_some is) (by c.complement)
    where
      same_some : {g h : Formula} → Some g ≡ Some h → g ≡ h
      same_some e = cc

      by : (b : Bool) → NamesOnly P (if b then (formulas d.context).not (sum_of (c ∷ cs)) else sum_of (c ∷ cs))
      by true = of_not P (sum_of (c ∷ cs)) here
      by false = here

  pub of_control : (cs : List (Contribution Formula)) → EachKept cs → (s : ℕ) (e : Extension) → ((x : ℕ) (o : Option Extension) → (x == s) ≡ true → is_the_control e o ≡ true → is_kept d.context x o ≡ true)
      → (f : Formula) → control_of (formulas d.context) cs s e ≡ Some f → NamesOnly P f
  of_control cs all s e kept f is =
      of_control_by (filter (is_control s e) cs)
      (of_some (is_control s e) (λ c hit. let parts = and_parts (c.signal == s) (is_the_control e c.extension) hit in kept c.signal c.extension parts.0 parts.1) cs all (Const false) (of_constant P false))
      f is

  pub control_kept : (e : Extension) (s : ℕ) → is_kept d.context s (Some e) ≡ true → (o : Option Extension) → is_the_control e o ≡ true → is_kept d.context s o ≡ true
  control_kept extension.Ar s kept (Some extension.Ar) is = refl
  control_kept extension.Sp s kept (Some extension.Sp) is = refl
  control_kept extension.Oe s kept (Some extension.Oe) is = kept
  control_kept _ s kept _ is = absurd cc
