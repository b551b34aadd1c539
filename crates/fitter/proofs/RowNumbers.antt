-- The fuses of a row as a number, digit by digit.
use Rattle.std.proofs.Common.{◌≡◌, ℕ, suc, ◌+◌, ◌*◌, ◌<◌, ◌≤◌, ◌^◌, Bool, true, false, if◌then◌else◌, refl, arith}
use Rattle.fitter.proofs.Common.{Cube, fuse_at, row_number}
use Rattle.std.proofs.Math.Nat.{pow-suc}
use Rattle.std.proofs.Math.Pow.{pow_mono}

pub digit_low : (b : Bool) → (if b then 1 else 0) ≤ 1
digit_low true = omega arith
digit_low false = omega arith

pub number_low : (n number digit : ℕ) → number < 2 ^ n → digit ≤ 1 → 2 * number + digit < 2 ^ (n + 1)
number_low n number digit low one =
    let e : n + 1 ≡ suc n = omega arith in
    rw (e, pow-suc 2 n) (omega (arith, low, one))

pub number_fits : (n number : ℕ) → n < 44 → number < 2 ^ n → number < 2 ^ 43
number_fits n number few low = let le = pow_mono {i = n} {j = 43} (omega (arith, few)) in omega (arith, le, low)

pub number_first : (c : Cube) → 0 ≡ row_number 0 c
unfolding row_number
number_first c = refl

pub number_more : (n number digit : ℕ) (c : Cube) → number ≡ row_number n c → digit ≡ (if fuse_at c n then 1 else 0) → 2 * number + digit ≡ row_number (n + 1) c
unfolding row_number
number_more n number digit c is here =
    let e : n + 1 ≡ suc n = omega arith in
    rw (e, is, here) refl
