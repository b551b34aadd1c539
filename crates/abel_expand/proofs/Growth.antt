-- What is done stays done.
use Rattle.std.proofs.Common.{◌≡◌, ◌<◌, ◌+◌, ℕ, Bool, true, false, List, [], ◌∷◌, ◌++◌, Result, Ok, Err, length, take, refl, sym, ap, ◌∙◌, arith, add-one, append-nil, ◌==◌, nat_lt}
use Rattle.abel_expand.proofs.Common.{take-length, take-append_seam, length-take, Cause, Move, Done, Rewritten, Refused, move, Config, turn, moved, within_limits, limit, most_rewritings, take_next, after, turned, Reading, bytes_given, bytes_waiting}

abbrev After : Config → Config → Type 0
After c d = (v : List ℕ) × (d.done ≡ c.done ++ v)

abbrev AfterResult : Config → Result Config Cause → Type 0
AfterResult c (Ok d) = After c d
AfterResult c (Err f) = Unit {0}

limited : (c d : Config) (b l : Bool) → d.done ≡ c.done → AfterResult c (within_limits b l d)
limited c d true l e = tt
limited c d false true e = tt
limited c d false false e = ([], e ∙ sym (append-nil c.done))

grows : (c : Config) (m : Move) → AfterResult c (moved c m)
grows c (Done t w behind) = (w, refl)
grows c (Refused f) = tt
grows c (Rewritten result behind) =
    limited c (record { done = c.done; tables = c.tables; rewritings = c.rewritings + 1; rest = result ++ behind }) (c.rewritings == most_rewritings) (nat_lt limit (length c.done + length (result ++ behind))) refl

chosen : (c : Config) (r : Result Config Cause) → AfterResult c r → After c (elim r [ Ok d ↦ d | Err f ↦ c ])
chosen c (Ok d) h = h
chosen c (Err f) h = ([], sym (append-nil c.done))

pub turned_grows : (c : Config) → (v : List ℕ) × ((turned c).done ≡ c.done ++ v)
turned_grows c = chosen c (turn c) (grows c (move c.tables c.rest))

-- a turn takes nothing from what was given, if all was given
pub kept : (text : List ℕ) (turns given : ℕ) → given ≡ length (after turns text).done → take given (after (turns + 1) text).done ≡ take given (after turns text).done
kept text turns given e =
    let c : Config = after turns text in
    let g = turned_grows c in
    let d : (after (turns + 1) text).done ≡ c.done ++ g.0 = ap (λ (n : ℕ). (after n text).done) (add-one turns) ∙ g.1 in
    ap (λ (n : ℕ). take n (after (turns + 1) text).done) e ∙ ap (take (length c.done)) d ∙ take-append_seam c.done g.0 ∙ sym (take-length c.done) ∙ ap (λ (n : ℕ). take n c.done) (sym e)

-- one byte more was given
pub one_more : (r s : Reading) (b : ℕ) → bytes_waiting r ≡ b ∷ bytes_waiting s → s ≡ record r { given = r.given + 1; standing = s.standing } → bytes_given s ≡ bytes_given r ++ b ∷ []
one_more r s b h e = ap bytes_given e ∙ ap (λ (n : ℕ). take n (after r.turns r.text).done) (add-one r.given) ∙ take_next (after r.turns r.text).done r.given b (bytes_waiting s) h

-- no more bytes were given than are counted
pub given_below : (r : Reading) (n : ℕ) → r.given < n → length (bytes_given r) < n
given_below r n below = omega (arith, length-take r.given (after r.turns r.text).done)
