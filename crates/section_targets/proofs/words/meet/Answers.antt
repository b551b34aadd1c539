-- The bits by shape.
use Rattle.std.proofs.Common.{get_or, replicate, sym, ap, ◌∙◌, subst}
use Rattle.section_targets.proofs.Common.{IfOk-weaker, arena, met_word, resized_ids, AreBits, known_ids}
use Rattle.section_targets.proofs.MetWords.{met_number, met_set, met_single}
use Rattle.section_targets.proofs.words.meet.Goals as goal

pub returns-in-Number : goal.returns-in-Number
returns-in-Number c =
    IfOk-weaker c.digit_word.result _ _
    (λ ids e ns v w is. subst (λ xs. AreBits (arena ns) xs (met_word c.args.width v w)) (sym e) (met_number ns c.args.value.now v w c.args.width is c.in-Number.number c.in-Number.is))
    c.digit_word.ensures

pub returns-in-Single : goal.returns-in-Single
returns-in-Single c =
    IfOk-weaker c.spread_word.result _ _
    (λ ids e ns v w is.
    let word = c.deref.ensures.value ∙ c.in_ok-word.ensures ∙ ap known_ids c.as_slice.ensures in
    let first = c.first_bit.ensures ∙ ap (λ xs. get_or xs 0 (record { 0 = 0 })) word in
    subst (λ xs. AreBits (arena ns) xs (met_word c.args.width v w)) (sym (e ∙ ap (replicate c.args.width) first)) (met_single ns c.args.value.now v w c.args.width is c.in-Single.is))
    c.spread_word.ensures

pub returns : goal.returns
returns c =
    IfOk-weaker c.resized_word.result _ _
    (λ ids e ns v w is.
    let word = c.deref-in-Set.ensures.value ∙ c.in_ok-word.ensures ∙ ap known_ids c.as_slice.ensures in
    subst (λ xs. AreBits (arena ns) xs (met_word c.args.width v w)) (sym (e ∙ ap (resized_ids c.args.width) word)) (met_set ns c.args.value.now v w c.args.width is c.in-Set.field-0 c.in-Set.is))
    c.resized_word.ensures
