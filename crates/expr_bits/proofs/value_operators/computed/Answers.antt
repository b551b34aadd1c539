-- Two numbers have no bits, and all else has a word as wide as both values.
use Rattle.std.proofs.Common.{◌≡◌, false, replicate, length, Result, Ok, Err, sym, ap, ap₂, ◌∙◌, subst}
use Rattle.expr_bits.proofs.Common.{err_from_is_err_and, Vec, ExprFault, ExprId, arena, operator_bits, Bits, AllIn, Makes, ShowsItems, word_at, MeetsAs, computed_part, IsPart, computed_value, width_of_two, word_in}
use Rattle.expr_bits.proofs.OperatedBits.{shown_length, number_made, operated_made, operated_stops}
use Rattle.expr_bits.proofs.value_operators.computed.Goals as goal

pub returns-in-Number : goal.returns-in-Number
returns-in-Number c p q l r =
    number_made c.args.exprs.now c.number_bits.result c.in-Number.number c.args.sign p q (c.number_bits.ensures (arena c.args.exprs.now))
    (subst (λ f. MeetsAs f (computed_value c.args.sign p q)) c.in-Number.is (c.form_of_both-form.ensures p q (length c.args.left.now.word) (length c.args.right.now.word) l.form r.form))

pub operator_word-requires-clause-first : goal.operator_word-requires-clause-first
operator_word-requires-clause-first c =
    let p = c.requires.left.part in
    subst (AllIn (length (arena c.args.exprs.now))) (sym c.as_slice.ensures.value) (c.in_ok-first-in_default.ensures.shows c.args.exprs.now p.value p.word c.requires.left.is).0

pub operator_word-requires-clause-second : goal.operator_word-requires-clause-second
operator_word-requires-clause-second c =
    let p = c.requires.right.part in
    subst (AllIn (length (arena c.args.exprs.now))) (sym c.as_slice-in_default.ensures.value) (c.in_ok-second-in_default.ensures.shows c.args.exprs.now p.value p.word c.requires.right.is).0

pub returns-in_err-word-in_default : goal.returns-in_err-word-in_default
returns-in_err-word-in_default c p q l r =
    let ns = c.args.exprs.now in
    let new = c.operator_word.new.exprs in
    let w = c.width_of_both-width.ensures p.value q.value l.form r.form in
    let x : word_at (arena ns) c.as_slice.result.now ≡ word_in (width_of_two p q) p = ap (word_at (arena ns)) c.as_slice.ensures.value ∙ (c.in_ok-first-in_default.ensures.shows ns p.value p.word l).1 ∙ ap (λ n. word_in n p) w in
    let y : word_at (arena ns) c.as_slice-in_default.result.now ≡ word_in (width_of_two p q) q = ap (word_at (arena ns)) c.as_slice-in_default.ensures.value ∙ (c.in_ok-second-in_default.ensures.shows ns q.value q.word r).1 ∙ ap (λ n. word_in n q) w in
    let meets = c.form_of_both-form.ensures p q (length c.args.left.now.word) (length c.args.right.now.word) l.form r.form in
    let e = err_from_is_err_and c.from_residual-in_err-word-in_default.result c.from_residual-in_err-word-in_default.ensures.1 in
    subst (λ (z : Result Bits ExprFault). Makes IsPart ns new z (computed_part c.args.sign p q)) (sym e.1)
    (operated_stops ns new c.args.sign c.form_of_both-form.result p q e.0 meets c.in_default.not-Number
    (subst (λ m. Makes {R = Vec ExprId} ShowsItems ns new (Err e.0) m) (ap₂ (operator_bits c.args.sign) x y) (rw e.2 c.in_err-word-in_default.ensures)))

pub returns-in_ok-word-in_default : goal.returns-in_ok-word-in_default
returns-in_ok-word-in_default c p q l r =
    let ns = c.args.exprs.now in
    let new = c.operator_word.new.exprs in
    let w = c.width_of_both-width.ensures p.value q.value l.form r.form in
    let x : word_at (arena ns) c.as_slice.result.now ≡ word_in (width_of_two p q) p = ap (word_at (arena ns)) c.as_slice.ensures.value ∙ (c.in_ok-first-in_default.ensures.shows ns p.value p.word l).1 ∙ ap (λ n. word_in n p) w in
    let y : word_at (arena ns) c.as_slice-in_default.result.now ≡ word_in (width_of_two p q) q = ap (word_at (arena ns)) c.as_slice-in_default.ensures.value ∙ (c.in_ok-second-in_default.ensures.shows ns q.value q.word r).1 ∙ ap (λ n. word_in n q) w in
    let meets = c.form_of_both-form.ensures p q (length c.args.left.now.word) (length c.args.right.now.word) l.form r.form in
    let first = c.in_ok-first-in_default.ensures in
    let second = c.in_ok-second-in_default.ensures in
    let width = c.width_of_both-width.result in
    operated_made ns new _ c.args.sign c.in_ok-word-in_default.word p q
    (subst (λ n. length (word_in n p) ≡ n) w (sym (shown_length (arena ns) c.in_ok-first-in_default.first.items (word_in width p) (first.shows ns p.value p.word l)) ∙ first.width))
    (subst (λ n. length (word_in n q) ≡ n) w (sym (shown_length (arena ns) c.in_ok-second-in_default.second.items (word_in width q) (second.shows ns q.value q.word r)) ∙ second.width))
    (subst (λ m. Makes ShowsItems ns new (Ok c.in_ok-word-in_default.word) m) (ap₂ (operator_bits c.args.sign) x y) c.in_ok-word-in_default.ensures)
    c.from_vec.ensures (c.from_vec-in_default.ensures ∙ c.in_ok-unknown-in_default.ensures.items_if_clones_equal (λ y e. e) ∙ ap (λ n. replicate n false) w) meets c.in_default.not-Number
