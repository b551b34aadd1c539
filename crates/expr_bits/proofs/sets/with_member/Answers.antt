-- The member's positions follow the others.
use Rattle.std.proofs.Common.{◌++◌, ap₂, ◌∙◌, refl}
use Rattle.expr_bits.proofs.OperatedBits.{joined_shown}
use Rattle.expr_bits.proofs.sets.with_member.Goals as goal

pub returns-clause-bits : goal.returns-clause-bits
returns-clause-bits c ns p q is rest =
    joined_shown ns c.args.member.now c.args.others _ p q c.member_width-width.result c.in_ok-bits.bits.items c.in_ok-flags.flags.items c.requires refl
    (c.member_width-width.ensures p.value is.form)
    (c.in_ok-bits.ensures.shows ns p.value p.word is) c.in_ok-bits.ensures.width
    (c.in_ok-flags.ensures p.value is.form is.unknown)
    (c.from_vec.ensures ∙ c.in_ok-extend_from_slice.ensures.items ∙ ap₂ (λ xs ys. xs ++ ys) c.into_vec-word.ensures c.as_slice.ensures.value)
    (c.from_vec-2.ensures ∙ c.in_ok-extend_from_slice-2.ensures.items ∙ ap₂ (λ xs ys. xs ++ ys) c.into_vec-unknown.ensures c.as_slice-2.ensures.value)
    is rest
