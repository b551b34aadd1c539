-- What is in a value is given by the mark of its name.
use Rattle.std.proofs.Common.{◌≡◌, Bool, List, [], false, true, map, get_or, if◌then◌else◌, sym, ap, ap₂, ◌∙◌, slice_get}
use Rattle.declared_names.proofs.Common.{fold-append, on_ok_weaker, view_declared, Mark, all_marked, clear, marked, value_at, numbers_read, uses_read, value_uses, view_use, UsedName}
use Rattle.declared_names.proofs.numbers.FirstNames.pass_last.Goals as goal

pub returns : goal.returns
returns c =
    let es = map view_declared c.args.names.now in
    let n = c.args.self.now.limit in
    let ms = c.args.marks.now.items in
    let m = get_or ms n clear in
    let of = numbers_read n es in
    let us = value_uses c.args.follow (value_at (slice_get es n)) in
    let mark : c.mark_of-mark.result ≡ m = c.mark_of-mark.ensures ∙ ap (λ xs. get_or xs n clear) c.as_slice.ensures.value in
    let plain : map view_use c.uses_if.result.now ≡ (if m.plain then us else []) =
    c.uses_if.ensures ∙ ap₂ (λ (b : Bool) (l : List UsedName). if b then l else []) (ap (λ (k : Mark). k.plain) mark) (ap (map view_use) c.as_slice-2.ensures.value ∙ c.in_ok-uses.ensures) in
    let strong : map view_use c.uses_if-2.result.now ≡ (if m.strong then us else []) =
    c.uses_if-2.ensures ∙ ap₂ (λ (b : Bool) (l : List UsedName). if b then l else []) (ap (λ (k : Mark). k.strong) mark) (ap (map view_use) c.as_slice-3.ensures.value ∙ c.in_ok-uses.ensures) in
    let first : c.mark_uses.new.marks.items ≡ all_marked ms (uses_read of false (if m.plain then us else [])) =
    c.in_ok-mark_uses.ensures es c.requires ∙ ap (λ l. all_marked ms (uses_read of false l)) plain in
    on_ok_weaker c.mark_uses-2.result
    (λ h.
    h es c.requires
    ∙ (ap₂ (λ xs l. all_marked xs (uses_read of true l)) first strong
    ∙ sym (fold-append marked ms (uses_read of false (if m.plain then us else [])) (uses_read of true (if m.strong then us else [])))))
    c.mark_uses-2.ensures
