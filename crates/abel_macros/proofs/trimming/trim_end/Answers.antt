-- A piece of blanks is left out; of another one its front is kept.
use Rattle.std.proofs.Common.{◌≡◌, ◌≤◌, ℕ, List, length, take, subst, arith}
use Rattle.abel_macros.proofs.Common.{trimmed_end}
use Rattle.abel_macros.proofs.Trims.{piece_gone, piece_kept}
use Rattle.abel_macros.proofs.trimming.trim_end.Goals as goal

pub returns-then-count-gt0 : goal.returns-then-count-gt0
returns-then-count-gt0 c =
    let same : take c.trimmed_len-count.result c.in-Some.last ≡ trimmed_end c.in-Some.last = subst (λ (w : List ℕ). take c.trimmed_len-count.result w ≡ trimmed_end w) c.bytes.ensures c.trimmed_len-count.ensures.value in
    let within : c.trimmed_len-count.result ≤ length c.in-Some.last = subst (λ (w : List ℕ). c.trimmed_len-count.result ≤ length w) c.bytes.ensures c.trimmed_len-count.ensures.within in
    piece_kept c.pieces.pieces.items c.pop.new.self.items c.push.new.self.items c.in-Some.last c.in_ok-dark.dark c.trimmed_len-count.result _ c.in-Some.ensures.items same (omega arith)
    within c.in_ok-dark.ensures c.in_ok-push.ensures.items c.pieces.invariant

pub pieces-preserved : goal.pieces-preserved
pieces-preserved c =
    piece_gone c.pieces.pieces.items c.pop.new.self.items c.in-Some.last c.trimmed_len-count.result _ c.in-Some.ensures.items
    (subst (λ (w : List ℕ). take c.trimmed_len-count.result w ≡ trimmed_end w) c.bytes.ensures c.trimmed_len-count.ensures.value) (omega arith) c.pieces.invariant

pub pieces-preserved-else-count-gt0 : goal.pieces-preserved-else-count-gt0
pieces-preserved-else-count-gt0 c =
    piece_gone c.pieces.pieces.items c.pop.new.self.items c.in-Some.last c.trimmed_len-count.result _ c.in-Some.ensures.items
    (subst (λ (w : List ℕ). take c.trimmed_len-count.result w ≡ trimmed_end w) c.bytes.ensures c.trimmed_len-count.ensures.value) (omega arith) c.pieces.invariant
