-- The last parameter, and one before others.
use Rattle.std.proofs.Common.{rules, ◌≡◌, ℕ, List, Some, false, ap, subst, ◌∙◌, arith}
use Rattle.abel_macros.proofs.Common.{ahead, parameters_in, starts_byte, rest_of, given, gap, name, names}
use Rattle.abel_macros.proofs.Lists.{parameter_last, parameter_broken, parameter_next, names_push}
use Rattle.abel_macros.proofs.definitions.read_parameters_in.Goals as goal

pub returns-then-skip_byte-clause-some : goal.returns-then-skip_byte-clause-some
returns-then-skip_byte-clause-some c =
    let e : name (ahead c.parameters.at) ≡ Some (c.in-Some.name.items, ahead c.read_name.new.at) = search rules in
    let closes : given (starts_byte 41 (gap (ahead c.read_name.new.at))) (rest_of (gap (ahead c.read_name.new.at))) ≡ Some (ahead c.skip_byte.new.at) =
    subst (λ (z : List ℕ). given (starts_byte 41 z) (rest_of z) ≡ Some (ahead c.skip_byte.new.at)) c.skip_gap.ensures.ahead (c.skip_byte.ensures.yes c.if-skip_byte.true) in
    parameter_last (names c.parameters.parameters.items) (ahead c.parameters.at) c.parameters.more (parameters_in c.args.most (ahead c.args.at.now)) (omega arith) c.parameters.invariant.read
    c.in-Some.name.items (ahead c.read_name.new.at) e (names c.push.new.self.items) (ahead c.skip_byte.new.at) closes (ap names c.in_ok-push.ensures.items ∙ names_push c.parameters.parameters.items c.in-Some.name)

pub returns-then-not-skip_byte-clause-none : goal.returns-then-not-skip_byte-clause-none
returns-then-not-skip_byte-clause-none c =
    let e : name (ahead c.parameters.at) ≡ Some (c.in-Some.name.items, ahead c.read_name.new.at) = search rules in
    let open_ : starts_byte 41 (gap (ahead c.read_name.new.at)) ≡ false = subst (λ (z : List ℕ). starts_byte 41 z ≡ false) c.skip_gap.ensures.ahead (c.skip_byte.ensures.no c.if-skip_byte.false) in
    let there : ahead c.skip_byte.new.at ≡ gap (ahead c.read_name.new.at) = ap ahead (c.skip_byte.ensures.same c.if-skip_byte.false) ∙ c.skip_gap.ensures.ahead in
    let missing : starts_byte 44 (ahead c.skip_byte.new.at) ≡ false = search rules in
    let broken : starts_byte 44 (gap (ahead c.read_name.new.at)) ≡ false = subst (λ (z : List ℕ). starts_byte 44 z ≡ false) there missing in
    parameter_broken (names c.parameters.parameters.items) (ahead c.parameters.at) c.parameters.more (parameters_in c.args.most (ahead c.args.at.now)) (omega arith) c.parameters.invariant.read
    c.in-Some.name.items (ahead c.read_name.new.at) e open_ broken

pub parameters-preserved : goal.parameters-preserved
parameters-preserved c =
    let e : name (ahead c.parameters.at) ≡ Some (c.in-Some.name.items, ahead c.read_name.new.at) = search rules in
    let open_ : starts_byte 41 (gap (ahead c.read_name.new.at)) ≡ false = subst (λ (z : List ℕ). starts_byte 41 z ≡ false) c.skip_gap.ensures.ahead (c.skip_byte.ensures.no c.if-skip_byte.false) in
    let there : ahead c.skip_byte.new.at ≡ gap (ahead c.read_name.new.at) = ap ahead (c.skip_byte.ensures.same c.if-skip_byte.false) ∙ c.skip_gap.ensures.ahead in
    let passed : given (starts_byte 44 (ahead c.skip_byte.new.at)) (rest_of (ahead c.skip_byte.new.at)) ≡ Some (ahead c.skip_byte-in-parameters.new.at) = search rules in
    let comma : given (starts_byte 44 (gap (ahead c.read_name.new.at))) (rest_of (gap (ahead c.read_name.new.at))) ≡ Some (ahead c.skip_byte-in-parameters.new.at) =
    subst (λ (z : List ℕ). given (starts_byte 44 z) (rest_of z) ≡ Some (ahead c.skip_byte-in-parameters.new.at)) there passed in
    record {
      read =
          parameter_next (names c.parameters.parameters.items) (ahead c.parameters.at) c.parameters.more (parameters_in c.args.most (ahead c.args.at.now)) (omega arith) c.parameters.invariant.read
          c.in-Some.name.items (ahead c.read_name.new.at) e (names c.push.new.self.items) (ahead c.skip_byte-in-parameters.new.at) open_ comma (ap names c.in_ok-push.ensures.items ∙ names_push c.parameters.parameters.items c.in-Some.name);
      whole = search rules;
      further = omega (arith, c.skip_byte-in-parameters.ensures.further, c.skip_byte.ensures.further, c.skip_gap.ensures.further, c.read_name.ensures.further, c.parameters.invariant.further);
    }
