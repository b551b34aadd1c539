-- One blank more.
use Rattle.std.proofs.Common.{rules, ◌≡◌, ◌+◌, ◌-◌, ℕ, true, ◌∷◌, length, take, refl, ap, ◌∙◌, arith}
use Rattle.abel_macros.proofs.Common.{prefix_len, ahead, is_blank}
use Rattle.abel_macros.proofs.Trims.{take_some}
use Rattle.abel_macros.proofs.trimming.blank_len.Goals as goal

pub bytes-preserved : goal.bytes-preserved
bytes-preserved c =
    let e : ahead c.bytes.look ≡ c.in-Some.byte ∷ ahead c.step.new.self = c.in-Some.ensures.some in
    let t = take_some (c.args.count - c.bytes.blanks) c.in-Some.byte (ahead c.bytes.look) (ahead c.step.new.self) (omega arith) e in
    let b : is_blank c.in-Some.byte ≡ true = search rules in
    let prefix : prefix_len is_blank (take (c.args.count - c.bytes.blanks) (ahead c.bytes.look)) ≡ 1 + prefix_len is_blank (take (c.args.count - c.bytes.blanks - 1) (ahead c.step.new.self)) = ap (prefix_len is_blank) t ∙ rw b refl in
    let n : c.args.count - (c.bytes.blanks + 1) ≡ c.args.count - c.bytes.blanks - 1 = omega arith in
    record {
      value = omega (arith, c.bytes.invariant.value, prefix, ap (λ (k : ℕ). prefix_len is_blank (take k (ahead c.step.new.self))) n);
      most = omega arith;
      some = omega (arith, c.bytes.invariant.some, ap length e);
    }
