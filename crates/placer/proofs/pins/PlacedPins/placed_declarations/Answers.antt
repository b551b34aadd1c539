-- One declaration more.
use Rattle.std.proofs.Common.{[], ◌∷◌, ◌++◌, map, sym, ap, ap₂, ◌∙◌, rules}
use Rattle.placer.proofs.Common.{YieldsList-from_vec, YieldsList-end, map-append, map-id, view_declared, view_decl, declaration_given, declarations_given}
use Rattle.placer.proofs.Mapped.{flat_push}
use Rattle.placer.proofs.pins.PlacedPins.placed_declarations.Goals as goal

pub loop-decl-preserved : goal.loop-decl-preserved
loop-decl-preserved c = λ known.
    let l = c.loop-decl in
    let es = map view_declared c.args.names.now in
    let f = declaration_given es c.args.self.now in
    ap (map view_decl) c.in_ok-append.ensures
    ∙ (map-append view_decl l.list.items c.in_ok-placed.placed.items
    ∙ (ap₂ (λ xs ys. xs ++ ys) (l.invariant known) (c.in_ok-placed.ensures known)
    ∙ sym (ap (declarations_given es c.args.self.now) (map-append view_decl l.yielded (c.in-Some.decl ∷ []))
    ∙ flat_push f (map view_decl l.yielded) (view_decl c.in-Some.decl))))

pub returns : goal.returns
returns c = λ known.
    let l = c.loop-decl in
    let es = map view_declared c.args.names.now in
    let e = YieldsList-end (YieldsList-from_vec {s = c.into_iter-decl-iterator.result} c.into_vec-decl-items.result.items (search rules) (search rules)) l.yielded l.decl-iterator l.yielded_by c.next.result c.next.new.self c.in-None.is c.next.ensures.steps in
    ap (map view_decl) c.from_vec.ensures
    ∙ (l.invariant known ∙ ap (λ ds. declarations_given es c.args.self.now (map view_decl ds)) (sym (map-id l.yielded) ∙ (e.0 ∙ c.into_vec-decl-items.ensures)))
