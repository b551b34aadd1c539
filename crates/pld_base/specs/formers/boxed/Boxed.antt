-- A type may reach itself through a `Boxed`: it is seen as the one value that it holds, and owns, lends
-- and codes just what that value does.
use mathlib.Core.Path.{refl}
use mathlib.Core.Former.{Former, this, const, pair, via}
use base.Stored.{gnil}
use base.Fml.{ftrue}
use denote.RattleType.{RattleType}
use denote.Memory.{part_of}
use denote.RawPtr.{Ptr}
use denote.Sharing.{nothing}
use denote.HoleLaws.{Alike}
use denote.HolePlaces.{Recodes, struct_places, laid, one_value}
use denote.Hole.Fix.{over}
use denote.Param.Weighed.{Weighed}
use denote.Model.Placed.{view_places}
use Rattle.std.specs.declared.boxed.Box.{Box}
use Rattle.std.specs.contracts.boxed.Box as box
use Rattle.std.specs.declared.alloc.Global.{Global}
use Rattle.std.specs.contracts.alloc.Global as heap
use Rattle.std.specs.contracts.impls.GlobalAllocator.TheImpl.{ghosts}
use Rattle.pld_base.specs.declared.boxed.Boxed.TheInside.{Inside}
use Rattle.pld_base.specs.declared.boxed.Boxed.TheView.{view, invariant}
use Rattle.pld_base.specs.contracts.boxed.Boxed as Seen
use Rattle.pld_base.specs.contracts.boxed.Boxed.TheInside as Fields

-- seen from outside it is the value
abbrev pub the_former : Former {0} → Former {0}
the_former held = held

-- its measure is the value's
abbrev pub the_weighed : {held : Former {0}} → Weighed held → Weighed (the_former held)
the_weighed weighed = weighed

-- the box as a row of the logic
abbrev heap_box : RattleType → RattleType
heap_box Held = box.the_row Held heap.the_row ghosts

-- the same box with another value in it
abbrev refilled : {X Y : Type 0} → Box X Global → Y → Box Y Global
refilled b value = record { ptr = b.ptr; alloc = b.alloc; value = value }

-- within it has one field, the box: a pointer, the allocator and the value
abbrev the_fields : Former {0}
the_fields =
    via (pair (const (Ptr × Global)) this) Inside
    (λ X inside. ((inside.content.ptr, inside.content.alloc), inside.content.value))
    (λ X parts. record { content = record { ptr = parts.0.0; alloc = parts.0.1; value = parts.1 } })
    (λ X inside. refl) (λ X parts. refl)

module _ (Before After : RattleType) (turn : Before.Denot → After.Denot) where
  abbrev turned : Box Before.Denot Global → Box After.Denot Global
  turned b = refilled b (turn b.value)

  -- the box owns and lends what its value does
  box_placed : Alike Before After turn → Alike (heap_box Before) (heap_box After) turned
  unfolding part_of
  box_placed alike = record {
    mir_same = λ i. (heap_box (one_value Before (alike.mir_same i) (λ _. ftrue) (λ _ _. nothing) gnil)).mir;
    own_same = λ b i. (heap_box (one_value Before (alike.mir_same i) (alike.own_same b.value i) (alike.shr_same b.value i) gnil)).own_val (refilled b tt);
    shr_same = λ b i. (heap_box (one_value Before (alike.mir_same i) (alike.own_same b.value i) (alike.shr_same b.value i) gnil)).shr_at (refilled b tt);
  }

  -- and so do the fields
  fields_placed : Alike Before After turn → Alike (Fields.the_row Before) (Fields.the_row After) (the_fields.map Before.Denot After.Denot turn)
  fields_placed alike =
      struct_places (Fields.the_type Before) (Fields.the_type After) (turned, tt) _ (λ inside. refl) refl
      (laid _ _ _ (box_placed alike), tt)

  -- and so does what is seen of it
  pub the_places : Alike Before After turn → Alike (Seen.the_row Before) (Seen.the_row After) ((the_former this).map Before.Denot After.Denot turn)
  the_places alike =
      view_places the_fields this view (λ X Y h inside. refl) (λ X inside. refl) Before.Denot After.Denot turn
      (Seen.the_row Before).coded (Seen.the_row After).coded (invariant Before.Denot) (invariant After.Denot)
      (λ inside p q. refl) (λ inside p q. refl) (λ inside holds. tt) (λ inside holds. tt)
      (over (Fields.the_row Before)) (over (Fields.the_row After)) (fields_placed alike)

  -- its code is the value's
  pub the_codes_placed : Recodes Before After turn → Recodes (Seen.the_row Before) (Seen.the_row After) ((the_former this).map Before.Denot After.Denot turn)
  the_codes_placed recodes value = recodes value
