-- Three pieces were appended, one after the other.
use Rattle.std.proofs.Common.{◌≡◌, ℕ, List, ◌++◌, ◌∙◌, ap, append_assoc, codes}
use Rattle.decompiled.proofs.Common.{device_text}
use Rattle.decompiled.proofs.source.put_head.Goals as goal

three : (old a b c one two new name : List ℕ) → one ≡ old ++ a → two ≡ one ++ name → name ≡ b → new ≡ two ++ c → new ≡ old ++ (a ++ (b ++ c))
three old a b c one two new name one_is two_is name_is new_is =
    new_is
    ∙ ap (λ (xs : List ℕ). xs ++ c) (two_is ∙ ap (λ (xs : List ℕ). xs ++ name) one_is ∙ ap (λ (xs : List ℕ). (old ++ a) ++ xs) name_is)
    ∙ append_assoc (old ++ a) b c
    ∙ append_assoc old a (b ++ c)

pub returns : goal.returns
returns c =
    three c.args.out.now.items (codes "module chip\nd device '") (device_text c.args.device) (codes "';\n") _ _ _ _
    c.in_ok-extend_from_slice.ensures.items c.in_ok-extend_from_slice-2.ensures.items (c.as_bytes.ensures.value ∙ c.text.ensures) c.in_ok-extend_from_slice-3.ensures.items
