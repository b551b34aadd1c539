-- What is known of a text is known of a piece of it, and of each text that a piece begins.
use Rattle.std.proofs.Common.{◌≡◌, ℕ, Bool, suc, ◌+◌, ◌-◌, ◌<◌, ◌≤◌, List, ◌++◌, Option, None, Some, length, take, drop, sym, ap, ◌∙◌, arith, length-drop, length-take, IfSome}
use Rattle.text_pieces.proofs.Common.{count_by, drop-drop, drop-take, take-take, take-append-le, closing, argument_end, ClosesAt, EndsAt, FreeOf}
use Rattle.text_pieces.specs.declared.mode.Mode.TheVariants as mode
use Rattle.text_pieces.proofs.Alike.{closing_alike, end_alike}
use Rattle.text_pieces.proofs.Stopped.{fewer}

pub length_is : (text piece : List ℕ) (from to : ℕ) → take (to - from) (drop from text) ≡ piece → to ≤ length text → length piece ≡ to - from
length_is text piece from to is inside = omega (arith, ap length is, length-take (to - from) (drop from text), length-drop from text, inside)

-- the bytes of a piece of a text, from one of them on
module _ (text piece : List ℕ) (from to at : ℕ) (is : piece ≡ take (to - from) (drop from text)) (order : from ≤ to) (inside : to ≤ length text) (within : at ≤ to - from) where
  pub rest_is : drop at piece ≡ take (to - (from + at)) (drop (from + at) text)
  rest_is =
      let z : to - from ≡ at + (to - (from + at)) = omega (arith, within) in
      ap (drop at) is ∙ ap (λ (n : ℕ). drop at (take n (drop from text))) z ∙ drop-take at (to - (from + at)) (drop from text) ∙ ap (take (to - (from + at))) (drop-drop at from text)

  pub rest_length : length (drop at piece) ≡ to - (from + at)
  rest_length = omega (arith, ap length rest_is, length-take (to - (from + at)) (drop (from + at) text), length-drop (from + at) text, inside)

  pub part_is : (same : List ℕ) (count : ℕ) → same ≡ text → at + count ≤ to - from → take (from + at + count - (from + at)) (drop (from + at) same) ≡ take count (drop at piece)
  part_is same count e h =
      let z : from + at + count - (from + at) ≡ count = omega arith in
      let le : count ≤ to - (from + at) = omega (arith, h) in
      ap (λ (w : List ℕ). take (from + at + count - (from + at)) (drop (from + at) w)) e ∙ ap (λ (n : ℕ). take n (drop (from + at) text)) z ∙ sym (ap (take count) rest_is ∙ take-take count (to - (from + at)) (drop (from + at) text) le)

  begins : (n : ℕ) → n < to - (from + at) → take (suc n) (drop (from + at) text) ≡ take (suc n) (drop at piece)
  begins n h =
      let le : suc n ≤ to - (from + at) = omega (arith, h) in
      sym (take-take (suc n) (to - (from + at)) (drop (from + at) text) le) ∙ ap (take (suc n)) (sym rest_is)

  pub closes_within : (end : ℕ) → ClosesAt text (from + at) end → from + at ≤ end → end < to → ClosesAt (drop at piece) 0 (end - (from + at))
  closes_within end c more less =
      let n = end - (from + at) in
      let z : from + at + n ≡ end = omega (arith, more) in
      let e : closing 0 mode.Plain (drop (from + at) text) ≡ Some (drop n (drop (from + at) text)) = c ∙ ap (λ (k : ℕ). Some (drop k text)) (sym z) ∙ ap (λ (w : List ℕ). Some w) (sym (drop-drop n (from + at) text)) in
      let short : n < length (drop (from + at) text) = omega (arith, length-drop (from + at) text, more, less, inside) in
      let near : n < to - (from + at) = omega (arith, more, less) in
      closing_alike n 0 mode.Plain (drop (from + at) text) (drop at piece) e short (begins n near)

  pub ends_within : (end : ℕ) → EndsAt text (from + at) end → from + at ≤ end → end < to → EndsAt (drop at piece) 0 (end - (from + at))
  ends_within end c more less =
      let n = end - (from + at) in
      let z : from + at + n ≡ end = omega (arith, more) in
      let e : argument_end 0 0 mode.Plain (drop (from + at) text) ≡ Some (drop n (drop (from + at) text)) = c ∙ ap (λ (k : ℕ). Some (drop k text)) (sym z) ∙ ap (λ (w : List ℕ). Some w) (sym (drop-drop n (from + at) text)) in
      let short : n < length (drop (from + at) text) = omega (arith, length-drop (from + at) text, more, less, inside) in
      let near : n < to - (from + at) = omega (arith, more, less) in
      end_alike n 0 0 mode.Plain (drop (from + at) text) (drop at piece) e short (begins n near)

  pub free_within : (is : ℕ → Bool) (end n : ℕ) → FreeOf is text (from + at) end → n ≤ end - (from + at) → n ≤ to - (from + at) → FreeOf is (drop at piece) 0 n
  free_within is end n c few near =
      let none = fewer is (drop (from + at) text) n (end - (from + at)) few c.0 in
      let same : take n (drop at piece) ≡ take n (drop (from + at) text) = ap (take n) rest_is ∙ take-take n (to - (from + at)) (drop (from + at) text) near in
      let z : n - 0 ≡ n = omega arith in
      (ap (λ (k : ℕ). count_by is (take k (drop at piece))) z ∙ ap (count_by is) same ∙ none, omega (arith, rest_length, near))

-- a text that begins with these bytes
module _ (front more : List ℕ) (n : ℕ) where
  begins_on : n < length front → take (suc n) front ≡ take (suc n) (front ++ more)
  begins_on h = let le : suc n ≤ length front = omega (arith, h) in sym (take-append-le (suc n) front more le)

  pub closes_on : ClosesAt front 0 n → n < length front → closing 0 mode.Plain (front ++ more) ≡ Some (drop n (front ++ more))
  closes_on c h = closing_alike n 0 mode.Plain front (front ++ more) c h (begins_on h)

  pub ends_on : EndsAt front 0 n → n < length front → argument_end 0 0 mode.Plain (front ++ more) ≡ Some (drop n (front ++ more))
  ends_on c h = end_alike n 0 0 mode.Plain front (front ++ more) c h (begins_on h)

-- the same of what may be known
pub closes_known : (front more text : List ℕ) (o : Option ℕ) → front ++ more ≡ text → IfSome o (λ n. ClosesAt front 0 n) → IfSome o (λ n. n < length front) → IfSome o (λ n. closing 0 mode.Plain text ≡ Some (drop n text))
closes_known front more text None e c h = tt
closes_known front more text (Some n) e c h = rw (sym e) (closes_on front more n c h)

pub ends_known : (front more text : List ℕ) (o : Option ℕ) → front ++ more ≡ text → IfSome o (λ n. EndsAt front 0 n) → IfSome o (λ n. n < length front) → IfSome o (λ n. argument_end 0 0 mode.Plain text ≡ Some (drop n text))
ends_known front more text None e c h = tt
ends_known front more text (Some n) e c h = rw (sym e) (ends_on front more n c h)
