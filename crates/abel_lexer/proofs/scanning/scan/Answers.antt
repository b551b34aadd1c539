-- The scanner's ends and its turns, by what its calls found.
use Rattle.std.proofs.Common.{rules, ◌≡◌, ◌+◌, ◌-◌, ◌⊎◌, length, length-append, take, drop, sym, ap, ◌∙◌, arith}
use Rattle.abel_lexer.proofs.Common.{eqb-true, length-take, ScanFault, OutOfMemory, IsFaultAt, place_past, IsFirstFault, IsOnlyFault, IsTokensOf}
use Rattle.abel_lexer.proofs.Found.{all_found, only_tokens, radix_shorter, radix_found, token_found, stops, stops_alone}
use Rattle.abel_lexer.proofs.scanning.scan.Goals as goal

pub returns-then-is_empty-clause-tokens : goal.returns-then-is_empty-clause-tokens
returns-then-is_empty-clause-tokens c =
    all_found c.args.text.now c.lexemes.rest.now c.split_at.result.0.now c.split_at.result.1.now c.lexemes.tokens.items c.lexemes.place c.lexemes.place c.lexemes.radix c.lexemes.invariant.0
    (c.split_at.ensures.front ∙ ap (λ n. take n c.lexemes.rest.now) c.blank_len.ensures.value) (c.split_at.ensures.back ∙ ap (λ n. drop n c.lexemes.rest.now) c.blank_len.ensures.value)
    (eqb-true _ _ (sym c.is_empty.ensures ∙ c.if-is_empty.true))

pub returns-then-is_empty-clause-only : goal.returns-then-is_empty-clause-only
returns-then-is_empty-clause-only c =
    let found : IsTokensOf c.args.text.now c.lexemes.tokens.items =
    all_found c.args.text.now c.lexemes.rest.now c.split_at.result.0.now c.split_at.result.1.now c.lexemes.tokens.items c.lexemes.place c.lexemes.place c.lexemes.radix c.lexemes.invariant.0
    (c.split_at.ensures.front ∙ ap (λ n. take n c.lexemes.rest.now) c.blank_len.ensures.value) (c.split_at.ensures.back ∙ ap (λ n. drop n c.lexemes.rest.now) c.blank_len.ensures.value)
    (eqb-true _ _ (sym c.is_empty.ensures ∙ c.if-is_empty.true)) in
    only_tokens c.args.text.now c.lexemes.tokens.items found

pub before-requires : goal.before-requires
before-requires c = omega (arith, radix_shorter c.lexemes.radix c.in-Some.known c.split_at.result.1.now c.in-Some.behind.now c.in-Some.ensures.some)

pub lexemes-smaller-in-Some : goal.lexemes-smaller-in-Some
lexemes-smaller-in-Some c = omega (arith, c.split_at.ensures.back_len, radix_shorter c.lexemes.radix c.in-Some.known c.split_at.result.1.now c.in-Some.behind.now c.in-Some.ensures.some)

pub lexemes-preserved-in-Some : goal.lexemes-preserved-in-Some
lexemes-preserved-in-Some c =
    let shorter = radix_shorter c.lexemes.radix c.in-Some.known c.split_at.result.1.now c.in-Some.behind.now c.in-Some.ensures.some in
    let long : length c.before-in-Some.result.now + length c.in-Some.behind.now ≡ length c.split_at.result.1.now = omega (arith, shorter, ap length c.before-in-Some.ensures, length-take (length c.split_at.result.1.now - length c.in-Some.behind.now) c.split_at.result.1.now) in (
      radix_found c.args.text.now c.lexemes.rest.now c.split_at.result.0.now c.split_at.result.1.now c.in-Some.behind.now c.before-in-Some.result.now c.lexemes.tokens.items c.lexemes.place c.place_past-place.result c.place_past-place-in-Some.result c.lexemes.radix c.in-Some.known c.lexemes.invariant.0
          (c.split_at.ensures.front ∙ ap (λ n. take n c.lexemes.rest.now) c.blank_len.ensures.value) (c.split_at.ensures.back ∙ ap (λ n. drop n c.lexemes.rest.now) c.blank_len.ensures.value)
          c.place_past-place.ensures.value c.in-Some.ensures.some c.before-in-Some.ensures c.place_past-place-in-Some.ensures.value,
      omega (arith, c.place_past-place.ensures.line, c.place_past-place-in-Some.ensures.line, long, c.split_at.ensures.front_len, c.split_at.ensures.back_len, c.lexemes.invariant.1),
      omega (arith, c.place_past-place.ensures.column, c.place_past-place-in-Some.ensures.column, long, c.split_at.ensures.front_len, c.split_at.ensures.back_len, c.lexemes.invariant.2),
      c.place_past-place-in-Some.ensures.first,
      c.in-Some.ensures.within.0,
      c.in-Some.ensures.within.1,
    )

pub returns-in_err-token-clause-fault : goal.returns-in_err-token-clause-fault
returns-in_err-token-clause-fault c =
    let found : (f : ScanFault) → (f ≡ OutOfMemory) ⊎ IsFaultAt c.place_past-place.result c.lexemes.radix c.split_at.result.1.now f → (f ≡ OutOfMemory) ⊎ IsFirstFault c.args.text.now f =
    stops c.args.text.now c.lexemes.rest.now c.split_at.result.0.now c.split_at.result.1.now c.lexemes.tokens.items c.lexemes.place c.place_past-place.result c.lexemes.radix c.lexemes.invariant.0
    (c.split_at.ensures.front ∙ ap (λ n. take n c.lexemes.rest.now) c.blank_len.ensures.value) (c.split_at.ensures.back ∙ ap (λ n. drop n c.lexemes.rest.now) c.blank_len.ensures.value)
    c.place_past-place.ensures.value in
    let done = found c.in_err-token.field-0.0 c.in_err-token.ensures.fault in
    search (rules, done)

pub returns-in_err-token-clause-only_fault : goal.returns-in_err-token-clause-only_fault
returns-in_err-token-clause-only_fault c =
    let found : (f : ScanFault) → (f ≡ OutOfMemory) ⊎ IsFaultAt c.place_past-place.result c.lexemes.radix c.split_at.result.1.now f → (f ≡ OutOfMemory) ⊎ IsOnlyFault c.args.text.now f = λ f n.
    stops_alone c.args.text.now f (stops c.args.text.now c.lexemes.rest.now c.split_at.result.0.now c.split_at.result.1.now c.lexemes.tokens.items c.lexemes.place c.place_past-place.result c.lexemes.radix c.lexemes.invariant.0
    (c.split_at.ensures.front ∙ ap (λ n. take n c.lexemes.rest.now) c.blank_len.ensures.value) (c.split_at.ensures.back ∙ ap (λ n. drop n c.lexemes.rest.now) c.blank_len.ensures.value)
    c.place_past-place.ensures.value f n) in
    let done = found c.in_err-token.field-0.0 c.in_err-token.ensures.fault in
    search (rules, done)

pub lexemes-preserved : goal.lexemes-preserved
lexemes-preserved c =
    let long : length c.in_ok-token.token.text + length c.in_ok-token.behind.now ≡ length c.split_at.result.1.now = omega (arith, ap length c.in_ok-token.ensures.token.0.parts, length-append c.in_ok-token.token.text c.in_ok-token.behind.now) in
    let same : length c.bytes.result.now ≡ length c.in_ok-token.token.text = ap length c.bytes.ensures in (
      token_found c.args.text.now c.lexemes.rest.now c.split_at.result.0.now c.split_at.result.1.now c.in_ok-token.behind.now c.lexemes.tokens.items c.push.new.self.items c.lexemes.place c.place_past-place.result c.place_past-place-in_default.result c.lexemes.radix c.in_ok-token.token c.lexemes.invariant.0
          (c.split_at.ensures.front ∙ ap (λ n. take n c.lexemes.rest.now) c.blank_len.ensures.value) (c.split_at.ensures.back ∙ ap (λ n. drop n c.lexemes.rest.now) c.blank_len.ensures.value)
          c.place_past-place.ensures.value c.in_ok-token.ensures.token (c.place_past-place-in_default.ensures.value ∙ ap (place_past c.place_past-place.result) c.bytes.ensures) c.in_ok-push.ensures.items,
      omega (arith, c.place_past-place.ensures.line, c.place_past-place-in_default.ensures.line, long, same, c.split_at.ensures.front_len, c.split_at.ensures.back_len, c.lexemes.invariant.1),
      omega (arith, c.place_past-place.ensures.column, c.place_past-place-in_default.ensures.column, long, same, c.split_at.ensures.front_len, c.split_at.ensures.back_len, c.lexemes.invariant.2),
      c.place_past-place-in_default.ensures.first,
      c.lexemes.invariant.4,
      c.lexemes.invariant.5,
    )
