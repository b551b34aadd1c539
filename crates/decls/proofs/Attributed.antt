-- Each attribute has a bit of its own.
use Rattle.std.proofs.Common.{◌≡◌, ℕ, ◌==◌, Bool, true, false, if◌then◌else◌, refl}
use Rattle.decls.proofs.Common.{bit_and, bit_or, Words}

abbrev pub words_in : ℕ → Words
words_in n = record { combinational = bit_and n 1 == 1; registered = bit_and n 2 == 2; buffer = bit_and n 4 == 4; invert = bit_and n 8 == 8; dc = bit_and n 16 == 16 }

abbrev pub bits_said : (c r b i d : Bool) → ℕ
bits_said c r b i d =
    bit_or (bit_or (bit_or (if c then 1 else 0) (if r then 2 else 0)) (bit_or (if b then 4 else 0) (if i then 8 else 0))) (if d then 16 else 0)

pub words_said : (c r b i d : Bool) → words_in (bits_said c r b i d) ≡ record { combinational = c; registered = r; buffer = b; invert = i; dc = d }
words_said false false false false false = refl
words_said false false false false true = refl
words_said false false false true false = refl
words_said false false false true true = refl
words_said false false true false false = refl
words_said false false true false true = refl
words_said false false true true false = refl
words_said false false true true true = refl
words_said false true false false false = refl
words_said false true false false true = refl
words_said false true false true false = refl
words_said false true false true true = refl
words_said false true true false false = refl
words_said false true true false true = refl
words_said false true true true false = refl
words_said false true true true true = refl
words_said true false false false false = refl
words_said true false false false true = refl
words_said true false false true false = refl
words_said true false false true true = refl
words_said true false true false false = refl
words_said true false true false true = refl
words_said true false true true false = refl
words_said true false true true true = refl
words_said true true false false false = refl
words_said true true false false true = refl
words_said true true false true false = refl
words_said true true false true true = refl
words_said true true true false false = refl
words_said true true true false true = refl
words_said true true true true false = refl
words_said true true true true true = refl
