-- One section more.
use Rattle.std.proofs.Common.{[], ◌∷◌, ◌++◌, map, sym, ap, ap₂, ◌∙◌, rules}
use Rattle.placer.proofs.Common.{YieldsList-from_vec, YieldsList-end, map-append, map-id, view_declared, view_section, section_given}
use Rattle.placer.proofs.pins.PlacedPins.placed_sections.Goals as goal

pub loop-section-preserved : goal.loop-section-preserved
loop-section-preserved c = λ known.
    let l = c.loop-section in
    let f = section_given (map view_declared c.args.names.now) c.args.self.now in
    ap (map view_section) c.in_ok-push.ensures.items
    ∙ (map-append view_section l.list.items (c.in_ok-placed.placed ∷ [])
    ∙ (ap₂ (λ xs x. xs ++ x ∷ []) (l.invariant known) (c.in_ok-placed.ensures known)
    ∙ sym (ap (map f) (map-append view_section l.yielded (c.in-Some.section ∷ [])) ∙ map-append f (map view_section l.yielded) (view_section c.in-Some.section ∷ []))))

pub returns : goal.returns
returns c = λ known.
    let l = c.loop-section in
    let f = section_given (map view_declared c.args.names.now) c.args.self.now in
    let e = YieldsList-end (YieldsList-from_vec {s = c.into_iter-section-iterator.result} c.into_vec-section-items.result.items (search rules) (search rules)) l.yielded l.section-iterator l.yielded_by c.next.result c.next.new.self c.in-None.is c.next.ensures.steps in
    l.invariant known ∙ ap (λ xs. map f (map view_section xs)) (sym (map-id l.yielded) ∙ (e.0 ∙ c.into_vec-section-items.ensures))
