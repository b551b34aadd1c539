-- Of all names, none of which was marked: what the sections give, and then what constants pass on, one name less each turn.
use Rattle.std.proofs.Common.{◌≡◌, ◌≤◌, suc, ◌-◌, map, length, sym, ap, ap₂, ◌∙◌, arith, replicate}
use Rattle.declared_names.proofs.Common.{flat_map, length-map, take_all, view_declared, view_module, view_part, view_section_parts, all_marked, clear, marked, passed, given_by, numbers_read, part_gives, section_gives, sections_give}
use Rattle.declared_names.proofs.ReadsAlike.{flat_next}
use Rattle.declared_names.proofs.numbers.Numbers.marks_by.Goals as goal

pub loop-section-init : goal.loop-section-init
loop-section-init c = c.in_ok-marks.ensures.items_if_clones_equal (λ y h. h)

pub loop-section-preserved : goal.loop-section-preserved
loop-section-preserved c =
    let l = c.loop-section in
    let n = length c.args.names.now in
    let es = map view_declared c.args.names.now in
    let of = numbers_read n es in
    flat_next marked (section_gives c.args.follow of) view_section_parts (replicate n clear) l.marks.items c.mark_parts.new.marks.items c.sections-sections.result.now l.section-index c.section-item.result c.loop-section-test.true c.section-item.is
    l.invariant
    (c.in_ok-mark_parts.ensures es c.requires ∙ ap (λ ps. all_marked l.marks.items (flat_map (part_gives c.args.follow of) (map view_part ps))) c.as_slice.ensures.value)

pub loop-number-init : goal.loop-number-init
loop-number-init c =
    let l = c.loop-section in
    let n = length c.args.names.now in
    let es = map view_declared c.args.names.now in
    let xs = (view_module c.args.source.now).sections in
    let way = c.args.follow in
    let sections = c.sections-sections.result.now in
    let size : n ≡ length es = sym (length-map c.args.names.now view_declared) in
    let whole : length sections ≤ l.section-index = omega (arith, c.loop-section-test.false) in
    let first : l.marks.items ≡ all_marked (replicate (length es) clear) (sections_give way (numbers_read (length es) es) xs) =
    l.invariant
    ∙ (ap (λ ps. all_marked (replicate n clear) (flat_map (section_gives way (numbers_read n es)) ps)) (ap (map view_section_parts) (take_all l.section-index sections whole) ∙ c.sections-sections.ensures)
    ∙ ap (λ k. all_marked (replicate k clear) (sections_give way (numbers_read k es) xs)) size) in
    record { within = omega arith; left = ap₂ (passed (given_by way es)) size first }

pub loop-number-preserved : goal.loop-number-preserved
loop-number-preserved c =
    let l = c.loop-number in
    let gives = given_by c.args.follow (map view_declared c.args.names.now) in
    let one : suc (l.number - 1) ≡ l.number = omega (arith, c.loop-number-test.true) in
    record {
      within = omega (arith, l.invariant.within);
      left = ap (passed gives (l.number - 1)) c.in_ok-pass_last.ensures ∙ (ap (λ k. passed gives k l.marks.items) one ∙ l.invariant.left);
    }

pub returns : goal.returns
returns c =
    let l = c.loop-number in
    let gives = given_by c.args.follow (map view_declared c.args.names.now) in
    let none : 0 ≡ l.number = omega (arith, c.loop-number-test.false) in
    ap (λ k. passed gives k l.marks.items) none ∙ l.invariant.left
