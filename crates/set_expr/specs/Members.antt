-- Private: what sums up the members of a set that were checked (this project's rule).
use Rattle.std.specs.Prelude.{◌≡◌, min, None, List, [], ◌∷◌}
use Rattle.set_expr.specs.Prelude.{Place, first_refusal}
use Rattle.set_expr.specs.declared.checking.Members.{Members}
use Rattle.set_expr.specs.Refusals.{Found, members_refused, members_specials, members_width}
use Rattle.set_expr.specs.SectionOrder.{section_order}

-- each that isn't refused has a value
abbrev pub AreValued : List Found → Type 0
AreValued [] = Unit {0}
AreValued (f ∷ fs) = (f.refusals ≡ [] → f.value ≡ None → ⊥) × AreValued fs

pub record AreSummedUp (p : Place) (m : Members) (fs : List Found) : Type 0 where
  pub valued : AreValued fs
  pub special : m.special ≡ first_refusal section_order (members_specials fs)
  pub fault : m.fault ≡ first_refusal section_order (members_refused p fs)
  pub width : m.width ≡ min (members_width fs) 255
