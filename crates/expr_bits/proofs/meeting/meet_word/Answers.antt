-- The bits by form, and their width.
use Rattle.std.proofs.Common.{◌≡◌, length, get_or, replicate, sym, ap, ◌∙◌, subst}
use Rattle.expr_bits.proofs.Common.{IfOk-weaker, arena, met_word, ShowsAll, resized_ids}
use Rattle.expr_bits.proofs.Shaped.{met_number, met_single, met_set, digits_length, resized_length}
use Rattle.expr_bits.proofs.meeting.meet_word.Goals as goal

pub returns-in-Number-clause-shows : goal.returns-in-Number-clause-shows
returns-in-Number-clause-shows c = IfOk-weaker c.digit_word.result _ _ (λ ids e ns v w is. subst (λ xs. ShowsAll (arena ns) xs (met_word c.args.width v w)) (sym e) (met_number ns c.args.value.now v w c.args.width c.in-Number.number c.in-Number.is is)) c.digit_word.ensures

pub returns-in-Number-clause-width : goal.returns-in-Number-clause-width
returns-in-Number-clause-width c = IfOk-weaker c.digit_word.result _ _ (λ ids e. ap length e ∙ digits_length c.args.width c.in-Number.number) c.digit_word.ensures

pub returns-in-Single-clause-shows : goal.returns-in-Single-clause-shows
returns-in-Single-clause-shows c =
    let first : c.bit_at.result ≡ get_or c.args.value.now.word 0 (record { 0 = 0 }) = c.bit_at.ensures ∙ ap (λ xs. get_or xs 0 (record { 0 = 0 })) c.as_slice.ensures in
    IfOk-weaker c.spread_word.result _ _ (λ ids e ns v w is. subst (λ xs. ShowsAll (arena ns) xs (met_word c.args.width v w)) (sym (e ∙ ap (replicate c.args.width) first)) (met_single ns c.args.value.now v w c.args.width c.in-Single.is is)) c.spread_word.ensures

pub returns-in-Set-clause-shows : goal.returns-in-Set-clause-shows
returns-in-Set-clause-shows c =
    IfOk-weaker c.resized_word.result _ _ (λ ids e ns v w is. subst (λ xs. ShowsAll (arena ns) xs (met_word c.args.width v w)) (sym (e ∙ ap (resized_ids c.args.width) c.as_slice-in-Set.ensures)) (met_set ns c.args.value.now v w c.args.width c.in-Set.is is)) c.resized_word.ensures

pub returns-in-Set-clause-width : goal.returns-in-Set-clause-width
returns-in-Set-clause-width c = IfOk-weaker c.resized_word.result _ _ (λ ids e. ap length e ∙ resized_length c.args.width c.as_slice-in-Set.result.now) c.resized_word.ensures
