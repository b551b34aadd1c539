-- A type may reach itself through a `ListOf`: which values a list holds, and that it owns, lends and
-- codes just what they do, one after another.
use mathlib.Core.Path.{◌≡◌, refl, sym}
use mathlib.Core.List.{List, []}
use mathlib.Core.Former.{Former, this, list, via, children}
use base.Stored.{code_map}
use denote.RattleType.{RattleType}
use denote.HoleLaws.{Alike}
use denote.HolePlaces.{Recodes, struct_places, laid}
use denote.Hole.Carrier.{listed, list-listed}
use denote.Hole.Fix.{over}
use denote.Param.Weighed.{Weighed, w_list}
use denote.Model.Placed.{view_places}
use Rattle.std.specs.formers.vec.Vec as vector
use Rattle.std.specs.declared.alloc.Global.{Global}
use Rattle.std.specs.contracts.alloc.Global as heap
use Rattle.std.specs.contracts.impls.GlobalAllocator.TheImpl.{ghosts}
use Rattle.pld_base.specs.declared.list_of.ListOf.TheInside.{Inside}
use Rattle.pld_base.specs.declared.list_of.ListOf.TheView.{view, invariant}
use Rattle.pld_base.specs.contracts.list_of.ListOf as Seen
use Rattle.pld_base.specs.contracts.list_of.ListOf.TheInside as Fields

-- seen from outside it is a list
abbrev pub the_former : Former {0} → Former {0}
the_former entry = list entry

-- its measure is that of its largest entry
abbrev pub the_weighed : {entry : Former {0}} → Weighed entry → Weighed (the_former entry)
the_weighed weighed = w_list weighed

-- the list of no entries, with which a type that reaches itself begins
pub the_empty : List ⊥
the_empty = []

-- its entries, in order
abbrev pub the_items : (X : Type 0) → List X → List X
the_items X entries = entries

-- and these are all that it holds
pub the_items_listed : (X : Type 0) (entries : List X) → listed _ (children (the_former this) X entries) ≡ the_items X entries
the_items_listed X entries = list-listed X entries

-- within it has one field, the vector
abbrev the_fields : Former {0}
the_fields =
    via (vector.the_former this Global) Inside (λ X inside. inside.entries) (λ X held. record { entries = held }) (λ X inside. refl) (λ X held. refl)

module _ (Before After : RattleType) (turn : Before.Denot → After.Denot) where
  -- the vector owns and lends what its entries do
  fields_placed : Alike Before After turn → Alike (Fields.the_row Before) (Fields.the_row After) (the_fields.map Before.Denot After.Denot turn)
  fields_placed alike =
      struct_places (Fields.the_type Before) (Fields.the_type After) (vector.mapped turn, tt) _ (λ inside. refl) refl
      (laid _ _ _ (vector.the_places heap.the_row ghosts Before After turn alike), tt)

  -- and so does the list
  pub the_places : Alike Before After turn → Alike (Seen.the_row Before) (Seen.the_row After) ((the_former this).map Before.Denot After.Denot turn)
  the_places alike =
      view_places the_fields (list this) view (λ X Y h inside. refl) (λ X inside. refl) Before.Denot After.Denot turn
      (Seen.the_row Before).coded (Seen.the_row After).coded (invariant Before.Denot) (invariant After.Denot)
      (λ inside p q. refl) (λ inside p q. refl) (λ inside holds. tt) (λ inside holds. tt)
      (over (Fields.the_row Before)) (over (Fields.the_row After)) (fields_placed alike)

  -- its code is that of its entries
  pub the_codes_placed : Recodes Before After turn → Recodes (Seen.the_row Before) (Seen.the_row After) ((the_former this).map Before.Denot After.Denot turn)
  the_codes_placed recodes entries = sym (code_map Before.coded.code After.coded.code turn (λ x. sym (recodes x)) entries)
