-- Kinds of which nothing is refused, by their first refusals over the names of the code.
use Rattle.std.proofs.Common.{◌≡◌, Option, None, List, [], sym, ap, ap₂, ◌∙◌}
use Rattle.design_checks.proofs.Common.{Table, Formula, Names, Entry, entries_of, first_refusal, none_refused, Design, Contribution, IsContextOf, RefusedUse, any_controls, no_controls, wrong_kinds, registered_nodes, use_order, ControlsPass, KindsPass}

abbrev IsFirstOf : Option RefusedUse → List RefusedUse → Type 0
IsFirstOf r rs = r ≡ first_refusal use_order rs

pub passed : {rs : List RefusedUse} {r : Option RefusedUse} → IsFirstOf r rs → r ≡ None → rs ≡ []
passed {rs = rs} e none = none_refused use_order rs (sym none ∙ e)

module _ (t : Table) (n m : Names) (same : m ≡ n) (d : Design) (of : IsContextOf t n d.context) (cs : List Contribution) where
  -- what is first by a device and its names is first in the design
  here : {r : Option RefusedUse} (refused : Table → List Entry → List RefusedUse) → IsFirstOf r (refused t (entries_of n)) → IsFirstOf r (refused d.context.device d.context.names)
  here refused e = e ∙ ap₂ (λ u xs. first_refusal use_order (refused u xs)) (sym of.device) (sym of.names)

  pub first_kind : {r : Option RefusedUse} → IsFirstOf r (wrong_kinds t (entries_of n) cs) → IsFirstOf r (wrong_kinds d.context.device d.context.names cs)
  first_kind e = here (λ u xs. wrong_kinds u xs cs) e

  pub first_node : {r : Option RefusedUse} → IsFirstOf r (registered_nodes 0 (entries_of m)) → IsFirstOf r (registered_nodes 0 d.context.names)
  first_node e = here (λ u xs. registered_nodes 0 xs) (e ∙ ap (λ (k : Names). first_refusal use_order (registered_nodes 0 (entries_of k))) same)

  pub first_any : {r : Option RefusedUse} → IsFirstOf r (any_controls (entries_of n) cs) → IsFirstOf r (any_controls d.context.names cs)
  first_any e = here (λ u xs. any_controls xs cs) e

  pub kinds_pass : {kinds nodes : Option RefusedUse} → IsFirstOf kinds (wrong_kinds t (entries_of n) cs) → kinds ≡ None → IsFirstOf nodes (registered_nodes 0 (entries_of m)) → nodes ≡ None → KindsPass d.context.device d.context.names cs
  kinds_pass k none n other = record { kinds = passed (first_kind k) none; nodes = passed (first_node n) other }

  pub controls_pass : {controls any : Option RefusedUse} (fs : List Formula) → IsFirstOf controls (no_controls d fs cs) → controls ≡ None → IsFirstOf any (any_controls (entries_of n) cs) → any ≡ None → ControlsPass d fs cs
  controls_pass fs c none a other = record { controls = passed c none; any = passed (first_any a) other }
