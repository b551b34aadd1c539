-- Contributions that are given alike at the same places are refused alike.
use Rattle.std.proofs.Common.{◌≡◌, ◌≢◌, ℕ, Bool, true, false, not, ◌&&◌, List, [], ◌∷◌, ◌++◌, get_or, map, refl, sym, ap, ap₂, ◌∙◌, subst}
use Rattle.compile_phases.proofs.Common.{Table, Formula, Entry, no_name, DesignFault}
use Rattle.pld_base.specs.declared.place.Place.{Place}
use Rattle.abel_tree.specs.Extensions.{is_data}
use Rattle.abel_meaning.specs.Contributions as meant
use Rattle.abel_meaning.specs.Designs.{Design}
use Rattle.set_expr.specs.declared.contributions.Contribution.{Contribution}
use Rattle.set_expr.specs.declared.contributions.Gives.{Gives}
use Rattle.set_expr.specs.declared.contributions.Gives.TheVariants as gives
use Rattle.set_expr.specs.Given.{view_contribution, view_gives}
use Rattle.design_checks.specs.Compared.{says_always}
use Rattle.design_checks.specs.Written.{unwritten}
use Rattle.design.specs.Answers.{HasNoRefusal, IsDesignRefused}
use Rattle.design_checks.specs.declared.fault.DesignFault.TheVariants as designing
use Rattle.design_checks.specs.Refused.{wrong_kinds, no_controls, any_controls, refuses, targets_refused}
use Rattle.design_checks.specs.Verdict.{IsFirst}
use Rattle.design_checks.specs.declared.rules.Rule.{Rule}
use Rattle.design_checks.specs.declared.rules.Rule.TheVariants as rule
use Rattle.design_checks.specs.SignalsRefused.{lacks_control, is_any}
use Rattle.abel_meaning.specs.SignalPins.{has_wrong_kind}
use Rattle.design_checks.specs.RefusedUses.{missing_uses}
use Rattle.design_checks.specs.declared.refused.RefusedUse.{RefusedUse}
use Rattle.design_checks.specs.UsesRefused.{told, told_if}

abbrev places_of : List Contribution → List Place
places_of cs = map (λ (c : Contribution). c.place) cs

-- ---- by what is given, and where

abbrev any_meant : meant.Gives → Bool
any_meant meant.One = false
any_meant meant.Any = true
any_meant meant.Match = false

any_is : (g : Gives) → is_any g ≡ any_meant (view_gives g)
any_is gives.One = refl
any_is gives.Any = refl
any_is gives.Match = refl

-- a rule refuses what is given to a name
abbrev refuses_seen : Table → Rule → Entry → meant.Contribution Formula → Bool
refuses_seen t rule.Kinds x v = is_data v.extension && has_wrong_kind t x
refuses_seen t rule.Controls x v = lacks_control t x v.extension
refuses_seen t rule.Levels x v = not (says_always t x v.extension v.block v.complement v.holds)
refuses_seen t rule.DontCares x v = not (is_data v.extension) && any_meant v.gives

rule_is : (t : Table) (r : Rule) (x : Entry) (fs : List Formula) (c : Contribution) → refuses t fs r x c ≡ refuses_seen t r x (view_contribution fs c)
rule_is t rule.Kinds x fs c = refl
rule_is t rule.Controls x fs c = refl
rule_is t rule.Levels x fs c = refl
rule_is t rule.DontCares x fs c = ap (λ (b : Bool). not (is_data c.target.extension) && b) (any_is c.what)

all_seen : Table → List Entry → Rule → List (meant.Contribution Formula) → List Place → List RefusedUse
all_seen t xs r (v ∷ vs) (p ∷ ps) = told_if (refuses_seen t r (get_or xs v.signal no_name) v) (record { place = p; name = v.signal }) ++ all_seen t xs r vs ps
all_seen t xs r [] ps = []
all_seen t xs r (v ∷ vs) [] = []

all_is : (t : Table) (xs : List Entry) (r : Rule) (fs : List Formula) (cs : List Contribution)
    → targets_refused (refuses t fs r) xs cs ≡ all_seen t xs r (map (view_contribution fs) cs) (places_of cs)
unfolding all_seen
all_is t xs r fs [] = refl
all_is t xs r fs (c ∷ cs) =
    let x = get_or xs c.target.signal no_name in
    let told : RefusedUse = record { place = c.place; name = c.target.signal } in
    ap (λ (b : Bool). told_if b told ++ targets_refused (refuses t fs r) xs cs) (rule_is t r x fs c)
    ∙ ap (λ (rs : List RefusedUse). told_if (refuses_seen t r x (view_contribution fs c)) told ++ rs) (all_is t xs r fs cs)

-- ---- two lists that are given alike

-- nothing of none is the first
no_first : (rs : List RefusedUse) (p : Place) (s : ℕ) → rs ≡ [] → IsFirst rs p s → ⊥
no_first rs p s none first = let gone : IsFirst [] p s = subst (λ (ys : List RefusedUse). IsFirst ys p s) none first in absurd (cc)

module _ (d : Design) (fs gs : List Formula) (cs ds : List Contribution)
    (given : map (view_contribution fs) cs ≡ map (view_contribution gs) ds) (places : places_of cs ≡ places_of ds) where
  refused_same : (r : Rule) → targets_refused (refuses d.context.device gs r) d.context.names ds ≡ targets_refused (refuses d.context.device fs r) d.context.names cs
  refused_same r =
      all_is d.context.device d.context.names r gs ds
      ∙ ap (all_seen d.context.device d.context.names r (map (view_contribution gs) ds)) (sym places)
      ∙ ap (λ (vs : List (meant.Contribution Formula)). all_seen d.context.device d.context.names r vs (places_of cs)) (sym given)
      ∙ sym (all_is d.context.device d.context.names r fs cs)

  controls_same : no_controls d gs ds ≡ no_controls d fs cs
  controls_same =
      ap₂ (λ (lacking others : List RefusedUse). (lacking ++ others) ++ (unwritten d ++ map told (missing_uses d))) (refused_same rule.Controls) (refused_same rule.Levels)

  -- if nothing is refused of the one, no refusal of the other holds
  pub not_refused : (f : DesignFault) → f ≢ designing.OutOfMemory → HasNoRefusal d fs cs → IsDesignRefused d gs ds f → ⊥
  not_refused (designing.WrongKind p s) memory none h = no_first (wrong_kinds d.context.device d.context.names ds) p s (refused_same rule.Kinds ∙ none.signals.kinds.kinds) h
  not_refused (designing.RegisteredNode p s) memory none h = no_first _ p s none.signals.kinds.nodes h.1
  not_refused (designing.NoSuchControl p s) memory none h = no_first (no_controls d gs ds) p s (controls_same ∙ none.signals.uses.controls.controls) h.1
  not_refused (designing.DontCareControl p s) memory none h =
      no_first (any_controls d.context.names ds) p s (refused_same rule.DontCares ∙ none.signals.uses.controls.any) h.2
  not_refused (designing.NoReadPath p s) memory none h = no_first _ p s none.signals.uses.paths h.2
  not_refused (designing.Loop p chain) memory none h = none.no_loop chain h.1.loop.is_loop
  not_refused (designing.ResetReadsRegister p path) memory none h = none.no_path h.2.reset path h.2.leads
  not_refused designing.OutOfMemory memory none h = memory refl
