-- One section, and those that are left.
use Rattle.std.proofs.Common.{◌≡◌, ◌≤◌, ◌+◌, ℕ, suc, [], ◌∷◌, List, drop, refl, sym, subst, arith}
use Rattle.source_sections.proofs.Common.{ADiagram, ATable, SectionTree, view_section, after_section, Manner, Walked, AreFirsts, WalksSections, view_sections, rest_at}
use Rattle.std.proofs.lemmas.List.{at_drop_all}
use Rattle.abel_meaning.specs.Sections.{next_block}
use Rattle.source_sections.proofs.SectionsWalked.{AreLeft, all_walked, one_walked}
use Rattle.source_sections.proofs.walking.walk_sections.Goals as goal

at_most_one : (block : ℕ) (s : SectionTree) → next_block block s ≤ suc block
at_most_one block (ATable place inputs clocked outputs rows) = omega arith
at_most_one block (ADiagram place registers states) = omega arith
at_most_one block _ = omega arith

pub loop-section-init : goal.loop-section-init
loop-section-init g c = record {
  left = ([], (subst (λ (ms : List Manner). AreFirsts ms []) (sym c.requires) (λ s p. refl), λ new walks. walks));
  few = omega arith;
}

pub loop-section-preserved : goal.loop-section-preserved
loop-section-preserved g c =
    let t = g.D.Device.table in
    let n = c.args.scope.now in
    let list = c.args.sections.now in
    let l = c.loop-section in
    let i = l.section-index in
    let x = c.section-item.result in
    let rest = view_sections (drop (i + 1) list) in
    let Done = λ (new : Walked). WalksSections t n c.args.starts_dontcare (view_sections list) c.args.out.now new in
    let here : view_sections (drop i list) ≡ view_section x ∷ rest = rest_at view_section list i x c.loop-section-test.true c.section-item.is in
    record {
      left = subst (λ on. AreLeft t n on c.block_after-block.result rest c.walk_section.new.out Done) (sym c.after_section-dontcare.ensures)
          (subst (λ b. AreLeft t n (after_section l.dontcare (view_section x)) b rest c.walk_section.new.out Done) (sym c.block_after-block.ensures)
          (one_walked t n l.dontcare l.block l.out Done (view_section x) rest c.walk_section.new.out (c.in_ok-walk_section.ensures l.block refl)
          (subst (λ ss. AreLeft t n l.dontcare l.block ss l.out Done) here l.invariant.left)));
      few = let next = at_most_one l.block (view_section x) in omega (arith, c.block_after-block.ensures, next, l.invariant.few);
    }

pub returns : goal.returns
returns g c =
    let t = g.D.Device.table in
    let n = c.args.scope.now in
    let list = c.args.sections.now in
    let l = c.loop-section in
    let Done = λ (new : Walked). WalksSections t n c.args.starts_dontcare (view_sections list) c.args.out.now new in
    all_walked t n l.dontcare l.block l.out Done
    (subst (λ ss. AreLeft t n l.dontcare l.block ss l.out Done) (at_drop_all view_sections list l.section-index (omega (arith, c.loop-section-test.false))) l.invariant.left)
