-- Two devices that do what one source says run alike, if the source has no nodes and no don't-care.
use Rattle.std.proofs.Common.{◌≡◌, ◌≢◌, ◌<◌, Bool, List, [], ◌∷◌, sym, subst, ◌∙◌}
use Rattle.decompiler.proofs.Common.{Logic, Levels, DoesTheSame, HasNoDontCare, HasNoNodes, IsShownAs, NodeValues}
use Rattle.pld_machine.specs.Steps.{Run}
use Rattle.pld_machine.specs.Comparison.{AreSeen}
use Rattle.pld_machine.proofs.WithoutNodes.{plain_runs}
use Rattle.fuse_compare.specs.Alike.{RunsAlike, SameShown}

module _ (a b s : Logic) (values : NodeValues) (one : DoesTheSame a s values) (two : DoesTheSame b s values)
    (a_plain : HasNoNodes a) (b_plain : HasNoNodes b) (s_plain : HasNoNodes s) (exact : HasNoDontCare s) where
  same_shown : (points : List Levels) → AreSeen (IsShownAs a s values) points points → AreSeen (IsShownAs b s values) points points → SameShown a b points
  same_shown [] first second = tt
  same_shown (p ∷ points) first second = (
    λ c within. first.0.enables c within ∙ sym (second.0.enables c (subst (λ n. c < n) (one.same_cells.cells ∙ sym two.same_cells.cells) within)),
    same_shown points first.1 second.1,
  )

  some_run : (outsides : List (List Bool)) (points : List Levels) → Run a outsides points → outsides ≢ []
  some_run [] points run = absurd run
  some_run (outside ∷ rest) points run = λ e. cc

  pub one_source : RunsAlike a b
  one_source outsides wide points run =
      let some = some_run outsides points run in
      let said = two.source_run exact outsides some wide in
      let own = two.one_run outsides some wide in
      let here : points ≡ said.0 = said.1.only points (plain_runs a s values one a_plain s_plain outsides points run) in
      let there : own.0 ≡ said.0 = said.1.only own.0 (plain_runs b s values two b_plain s_plain outsides own.0 own.1.runs) in
      let also : Run b outsides points = subst (Run b outsides) (there ∙ sym here) own.1.runs in
      let first = one.runs outsides points run in
      let second = two.runs outsides points also in
      let first_is : first.0 ≡ points = said.1.only first.0 first.2 ∙ sym here in
      let second_is : second.0 ≡ points = said.1.only second.0 second.2 ∙ sym here in (
        also,
        same_shown points (subst (AreSeen (IsShownAs a s values) points) first_is first.1) (subst (AreSeen (IsShownAs b s values) points) second_is second.1),
      )
