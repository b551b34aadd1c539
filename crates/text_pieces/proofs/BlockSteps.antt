-- The blocks that are open, if a byte is passed.
use Rattle.std.proofs.Common.{◌≡◌, ℕ, suc, ◌+◌, ◌-◌, ◌<◌, Bool, true, false, List, [], ◌∷◌, ◌++◌, Some, length, drop, get_or, set, replicate, Option, None, refl, sym, ap, ◌∙◌, arith, add-one, ◌==◌, IfSome, IfNone, if◌then◌else◌}
use Rattle.text_pieces.proofs.Common.{drop-cons, ne_eqb, closing, ClosesAt, is_plain, passing, Opened, BlocksOpen, Ends, Mode}
use Rattle.text_pieces.specs.declared.mode.Mode.TheVariants as mode
use Rattle.text_pieces.proofs.OpenPlaces.{stays, begins, ended, innermost}
use Rattle.text_pieces.proofs.Tables.{tells_set, tells_none}

-- the byte at a place, and those after it
pub front : (text : List ℕ) (at : ℕ) → at < length text → drop at text ≡ get_or text at 0 ∷ drop (at + 1) text
front text at h = drop-cons text at 0 h ∙ ap (λ (n : ℕ). get_or text at 0 ∷ drop n text) (sym (add-one at))

pub plain_is : (m : Mode) → is_plain m ≡ true → m ≡ mode.Plain
plain_is mode.Plain e = refl
plain_is mode.Quoted e = absurd cc
plain_is mode.Escaped e = absurd cc
plain_is mode.Note e = absurd cc
plain_is mode.Line e = absurd cc

-- ---- one byte of the text that closes a block

begins_one : (b j : ℕ) (bs : List ℕ) → b ≡ 123 → closing j mode.Plain (b ∷ bs) ≡ closing (suc j) (passing mode.Plain b bs) bs
begins_one b j bs e =
    let z : j + 1 ≡ suc j = add-one j in
    let k : closing j mode.Plain (123 ∷ bs) ≡ closing (suc j) (passing mode.Plain 123 bs) bs = ap (λ (n : ℕ). closing n mode.Plain bs) z in
    rw e k

plain_behind : (b : ℕ) (bs : List ℕ) → b ≡ 123 → mode.Plain ≡ passing mode.Plain b bs
plain_behind b bs e = rw e refl

pub no_zero : (n : ℕ) → (suc n == 0) ≡ false
no_zero n = ne_eqb (suc n) 0 (λ e. omega (arith, e))

ends_one : (b j : ℕ) (bs : List ℕ) → b ≡ 125 → closing (suc j) mode.Plain (b ∷ bs) ≡ closing j (passing mode.Plain b bs) bs
ends_one b j bs e =
    let z : suc j - 1 ≡ j = omega arith in
    let k : closing (suc j) mode.Plain (125 ∷ bs) ≡ closing j (passing mode.Plain 125 bs) bs
    = ap (λ (t : Bool). if t then Some (125 ∷ bs) else closing (suc j - 1) mode.Plain bs) (no_zero j) ∙ ap (λ (n : ℕ). closing n mode.Plain bs) z in
    rw e k

closes : (b : ℕ) (bs : List ℕ) → b ≡ 125 → closing 0 mode.Plain (b ∷ bs) ≡ Some (b ∷ bs)
closes b bs e = rw e refl

passes_one : (b j : ℕ) (bs : List ℕ) → (b == 123) ≡ false → (b == 125) ≡ false → closing j mode.Plain (b ∷ bs) ≡ closing j (passing mode.Plain b bs) bs
passes_one b j bs e f = rw e (rw f refl)

hidden_one : (m : Mode) (b j : ℕ) (bs : List ℕ) → is_plain m ≡ false → closing j m (b ∷ bs) ≡ closing j (passing m b bs) bs
hidden_one mode.Plain b j bs e = absurd cc
hidden_one mode.Quoted b j bs e = refl
hidden_one mode.Escaped b j bs e = refl
hidden_one mode.Note b j bs e = refl
hidden_one mode.Line b j bs e = refl

-- ---- what is open after the byte

module _ (text : List ℕ) (at : ℕ) (h : at < length text) where
  abbrev from : ℕ → Option (List ℕ)
  from p = closing 0 mode.Plain (drop p text)

  abbrev here : Mode → ℕ → Option (List ℕ)
  here m j = closing j m (drop at text)

  abbrev next : Mode → ℕ → Option (List ℕ)
  next m j = closing j (passing m (get_or text at 0) (drop (at + 1) text)) (drop (at + 1) text)

  reads : (m : Mode) (j : ℕ) → closing j m (drop at text) ≡ closing j m (get_or text at 0 ∷ drop (at + 1) text)
  reads m j = ap (closing j m) (front text at h)

  abbrev pub Behind : Mode → Ends → Type 0
  Behind m e = BlocksOpen text (passing m (get_or text at 0) (drop (at + 1) text)) (at + 1) e

  pub hidden : (m : Mode) (e : Ends) → is_plain m ≡ false → BlocksOpen text m at e → Behind m e
  hidden m e p o =
      record { begun = stays from (here m) (next m) e.begun.items (λ j. reads m j ∙ hidden_one m (get_or text at 0) j (drop (at + 1) text) p) o.begun; ends = o.ends }

  pub passed : (m : Mode) (e : Ends) → is_plain m ≡ true → (get_or text at 0 ≡ 123 → ⊥) → (get_or text at 0 ≡ 125 → ⊥) → BlocksOpen text m at e → Behind m e
  passed m e p x y o =
      let q = plain_is m p in
      let step : (j : ℕ) → here m j ≡ next m j
      = λ j. rw q (reads mode.Plain j ∙ passes_one (get_or text at 0) j (drop (at + 1) text) (ne_eqb (get_or text at 0) 123 x) (ne_eqb (get_or text at 0) 125 y)) in
      record { begun = stays from (here m) (next m) e.begun.items step o.begun; ends = o.ends }

  pub started : (m : Mode) (e new : Ends) → is_plain m ≡ true → get_or text at 0 ≡ 123 → new.begun.items ≡ e.begun.items ++ (at + 1) ∷ [] → new.ends.items ≡ e.ends.items → BlocksOpen text m at e → Behind m new
  started m e new p x list same o =
      let q = plain_is m p in
      let step : (j : ℕ) → here m j ≡ next m (suc j) = λ j. rw q (reads mode.Plain j ∙ begins_one (get_or text at 0) j (drop (at + 1) text) x) in
      let first : from (at + 1) ≡ next m 0 = rw q (ap (λ (k : Mode). closing 0 k (drop (at + 1) text)) (plain_behind (get_or text at 0) (drop (at + 1) text) x)) in
      record { begun = rw list (begins from (here m) (next m) e.begun.items (at + 1) step first o.begun); ends = rw same o.ends }

  shut_one : (m : Mode) (e new : Ends) (p : ℕ) → is_plain m ≡ true → get_or text at 0 ≡ 125 → e.begun.items ≡ new.begun.items ++ p ∷ [] → new.ends.items ≡ set e.ends.items p at → BlocksOpen text m at e → Behind m new
  shut_one m e new p pl x list set_there o =
      let q = plain_is m pl in
      let before : Opened from (here m) (new.begun.items ++ p ∷ []) = rw (sym list) o.begun in
      let step : (j : ℕ) → here m (suc j) ≡ next m j = λ j. rw q (reads mode.Plain (suc j) ∙ ends_one (get_or text at 0) j (drop (at + 1) text) x) in
      let end : ClosesAt text p at = innermost from (here m) (next m) new.begun.items p before ∙ rw q (reads mode.Plain 0 ∙ closes (get_or text at 0) (drop (at + 1) text) x ∙ ap (λ (w : List ℕ). Some w) (sym (front text at h))) in
      record { begun = ended from (here m) (next m) new.begun.items p step before; ends = rw set_there (tells_set (ClosesAt text) e.ends.items p at o.ends end) }

  none_shut : (m : Mode) (e new : Ends) → new.begun.items ≡ [] → new.ends.items ≡ e.ends.items → BlocksOpen text m at e → Behind m new
  none_shut m e new list same o = record { begun = rw list tt; ends = rw same o.ends }

  pub shut : (m : Mode) (e new : Ends) (o : Option ℕ) → is_plain m ≡ true → get_or text at 0 ≡ 125 → IfSome o (λ p. e.begun.items ≡ new.begun.items ++ p ∷ []) → IfSome o (λ p. new.ends.items ≡ set e.ends.items p at)
      → IfNone o (new.begun.items ≡ []) → IfNone o (new.ends.items ≡ e.ends.items) → BlocksOpen text m at e → Behind m new
  shut m e new None p x list there none same o = none_shut m e new none same o
  shut m e new (Some p) q x list there none same o = shut_one m e new p q x list there o

-- nothing is open at first
pub none_open : (text : List ℕ) (e : Ends) (n : ℕ) → e.ends.items ≡ replicate n 0 → e.begun.items ≡ [] → BlocksOpen text mode.Plain 0 e
none_open text e n ends list = record { begun = rw list tt; ends = rw ends (tells_none (ClosesAt text) n) }
