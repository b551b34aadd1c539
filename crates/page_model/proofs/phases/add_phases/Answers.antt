-- The three points of a vector with a clock.
use Rattle.std.proofs.Common.{◌≡◌, ◌++◌, [], ◌∷◌, List, ℕ, Bool, true, false, map, take, ap, ap₂, sym, ◌∙◌, append_assoc}
use Rattle.std.proofs.lemmas.List.{map-append, take-map}
use Rattle.pld_base.specs.declared.point.Vector.{Vector}
use Rattle.pld_device.specs.Table.{Table}
use Rattle.jedec_file.specs.TestVectors.{all_chars, chars_of}
use Rattle.page_model.specs.Phases.{phase_char, phases}
use Rattle.page_model.proofs.phases.add_phases.Goals as goal

-- the characters of a vector that is changed
changed : (t : Table) (turned : Bool) (v w : Vector) → w.chars ≡ map (phase_char turned) v.chars → chars_of t w ≡ map (phase_char turned) (chars_of t v)
changed t turned v w is = ap (take t.pins) is ∙ take-map (phase_char turned) t.pins v.chars

pushed : (t : Table) (before after : List Vector) (v : Vector) → after ≡ before ++ v ∷ [] → all_chars t after ≡ all_chars t before ++ chars_of t v ∷ []
pushed t before after v is = ap (all_chars t) is ∙ map-append (chars_of t) before (v ∷ [])

-- three vectors more
three : (t : Table) (a b c d : List Vector) (v x y z : Vector) → b ≡ a ++ x ∷ [] → c ≡ b ++ y ∷ [] → d ≡ c ++ z ∷ []
    → x.chars ≡ map (phase_char false) v.chars → y.chars ≡ map (phase_char true) v.chars → z.chars ≡ map (phase_char false) v.chars
    → all_chars t d ≡ all_chars t a ++ map (phase_char false) (chars_of t v) ∷ map (phase_char true) (chars_of t v) ∷ map (phase_char false) (chars_of t v) ∷ []
three t a b c d v x y z first second third x_is y_is z_is =
    let one = pushed t a b x first ∙ ap (λ (xs : List ℕ). all_chars t a ++ xs ∷ []) (changed t false v x x_is) in
    let two = pushed t b c y second ∙ ap₂ (λ (xs : List (List ℕ)) (ys : List ℕ). xs ++ ys ∷ []) one (changed t true v y y_is) in
    let all = pushed t c d z third ∙ ap₂ (λ (xs : List (List ℕ)) (zs : List ℕ). xs ++ zs ∷ []) two (changed t false v z z_is) in
    let p = map (phase_char false) (chars_of t v) in
    let q = map (phase_char true) (chars_of t v) in
    all
    ∙ (append_assoc (all_chars t a ++ p ∷ []) (q ∷ []) (p ∷ [])
    ∙ append_assoc (all_chars t a) (p ∷ []) (q ∷ p ∷ []))

pub returns-in_ok-push-3 : goal.returns-in_ok-push-3
returns-in_ok-push-3 g c =
    let t = g.D.Device.table in
    rw (sym c.has_clock.ensures ∙ c.if-has_clock.true)
    (three t c.args.list.now.items _ _ _ c.args.vector.now c.phase.result c.phase-then-has_clock.result c.phase-then-has_clock-2.result
    c.in_ok-push.ensures.items c.in_ok-push-2.ensures.items c.in_ok-push-3.ensures.items
    c.phase.ensures c.phase-then-has_clock.ensures c.phase-then-has_clock-2.ensures)
