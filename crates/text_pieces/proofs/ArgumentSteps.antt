-- The arguments that are open, if a byte is passed.
use Rattle.std.proofs.Common.{◌≡◌, ℕ, zero, suc, ◌+◌, ◌-◌, ◌<◌, Bool, true, false, List, [], ◌∷◌, ◌++◌, Option, None, Some, length, drop, get_or, set, replicate, refl, sym, ap, ◌∙◌, arith, add-one, ◌==◌, ◌&&◌, IfSome, IfNone, if◌then◌else◌}
use Rattle.text_pieces.proofs.Common.{ne_eqb, argument_end, EndsAt, is_plain, quoting, Opened, ArgumentsOpen, Ends, Mode}
use Rattle.text_pieces.specs.declared.mode.Mode.TheVariants as mode
use Rattle.text_pieces.proofs.BlockSteps.{front, plain_is, no_zero}
use Rattle.text_pieces.proofs.OpenPlaces.{stays, begins, ended, innermost}
use Rattle.text_pieces.proofs.Tables.{tells_set, tells_none}

-- ---- one byte of the text that ends an argument

begins_one : (b j : ℕ) (bs : List ℕ) → b ≡ 40 → argument_end j 0 mode.Plain (b ∷ bs) ≡ argument_end (suc j) 0 (quoting mode.Plain b) bs
begins_one b zero bs e = rw e refl
begins_one b (suc j) bs e =
    let z : suc j + 1 ≡ suc (suc j) = add-one (suc j) in
    let k : argument_end (suc j) 0 mode.Plain (40 ∷ bs) ≡ argument_end (suc (suc j)) 0 (quoting mode.Plain 40) bs
    = ap (λ (t : Bool). if t && false then Some (40 ∷ bs) else argument_end (suc j + 1) 0 mode.Plain bs) (no_zero j) ∙ ap (λ (n : ℕ). argument_end n 0 mode.Plain bs) z in
    rw e k

ends_one : (b j : ℕ) (bs : List ℕ) → b ≡ 41 → argument_end (suc j) 0 mode.Plain (b ∷ bs) ≡ argument_end j 0 (quoting mode.Plain b) bs
ends_one b j bs e =
    let z : suc j - 1 ≡ j = omega arith in
    let k : argument_end (suc j) 0 mode.Plain (41 ∷ bs) ≡ argument_end j 0 (quoting mode.Plain 41) bs
    = ap (λ (t : Bool). if t && true then Some (41 ∷ bs) else argument_end (suc j - 1) 0 mode.Plain bs) (no_zero j) ∙ ap (λ (n : ℕ). argument_end n 0 mode.Plain bs) z in
    rw e k

closes : (b : ℕ) (bs : List ℕ) → b ≡ 41 → argument_end 0 0 mode.Plain (b ∷ bs) ≡ Some (b ∷ bs)
closes b bs e = rw e refl

-- a comma within more parentheses
inner_comma : (b j : ℕ) (bs : List ℕ) → b ≡ 44 → argument_end (suc j) 0 mode.Plain (b ∷ bs) ≡ argument_end (suc j) 0 (quoting mode.Plain b) bs
inner_comma b j bs e =
    let k : argument_end (suc j) 0 mode.Plain (44 ∷ bs) ≡ argument_end (suc j) 0 (quoting mode.Plain 44) bs
    = ap (λ (t : Bool). if t && true then Some (44 ∷ bs) else argument_end (suc j) 0 mode.Plain bs) (no_zero j) in
    rw e k

comma : (b : ℕ) (bs : List ℕ) → b ≡ 44 → argument_end 0 0 mode.Plain (b ∷ bs) ≡ Some (b ∷ bs)
comma b bs e = rw e refl

record Common (b : ℕ) : Type 0 where
  opens : (b == 40) ≡ false
  shuts : (b == 41) ≡ false
  parts : (b == 44) ≡ false
  bracket : (b == 91) ≡ false
  closed : (b == 93) ≡ false

passes_one : (b j : ℕ) (bs : List ℕ) → Common b → argument_end j 0 mode.Plain (b ∷ bs) ≡ argument_end j 0 (quoting mode.Plain b) bs
passes_one b zero bs c = rw c.opens (rw c.shuts (rw c.parts (rw c.bracket (rw c.closed refl))))
passes_one b (suc j) bs c = let z = no_zero j in rw z (rw c.opens (rw c.shuts (rw c.bracket (rw c.closed refl))))

hidden_one : (m : Mode) (b j : ℕ) (bs : List ℕ) → is_plain m ≡ false → argument_end j 0 m (b ∷ bs) ≡ argument_end j 0 (quoting m b) bs
hidden_one mode.Plain b j bs e = absurd cc
hidden_one mode.Quoted b j bs e = refl
hidden_one mode.Escaped b j bs e = refl
hidden_one mode.Note b j bs e = refl
hidden_one mode.Line b j bs e = refl

-- ---- what is open after the byte

module _ (text : List ℕ) (at : ℕ) (h : at < length text) where
  abbrev from : ℕ → Option (List ℕ)
  from p = argument_end 0 0 mode.Plain (drop p text)

  abbrev here : Mode → ℕ → Option (List ℕ)
  here m j = argument_end j 0 m (drop at text)

  abbrev next : Mode → ℕ → Option (List ℕ)
  next m j = argument_end j 0 (quoting m (get_or text at 0)) (drop (at + 1) text)

  -- the same, except for the innermost
  abbrev outer : Mode → ℕ → Option (List ℕ)
  outer m j = next m (suc j)

  reads : (m : Mode) (j : ℕ) → argument_end j 0 m (drop at text) ≡ argument_end j 0 m (get_or text at 0 ∷ drop (at + 1) text)
  reads m j = ap (argument_end j 0 m) (front text at h)

  abbrev pub Behind : Mode → Ends → Type 0
  Behind m e = ArgumentsOpen text (quoting m (get_or text at 0)) (at + 1) e

  pub hidden : (m : Mode) (e : Ends) → is_plain m ≡ false → ArgumentsOpen text m at e → Behind m e
  hidden m e p o =
      record { begun = stays from (here m) (next m) e.begun.items (λ j. reads m j ∙ hidden_one m (get_or text at 0) j (drop (at + 1) text) p) o.begun; ends = o.ends }

  pub passed : (m : Mode) (e : Ends) → is_plain m ≡ true → (get_or text at 0 ≡ 40 → ⊥) → (get_or text at 0 ≡ 41 → ⊥) → (get_or text at 0 ≡ 44 → ⊥) → (get_or text at 0 ≡ 91 → ⊥) → (get_or text at 0 ≡ 93 → ⊥) → ArgumentsOpen text m at e → Behind m e
  passed m e p x y z u v o =
      let b = get_or text at 0 in
      let q = plain_is m p in
      let c : Common b = record { opens = ne_eqb b 40 x; shuts = ne_eqb b 41 y; parts = ne_eqb b 44 z; bracket = ne_eqb b 91 u; closed = ne_eqb b 93 v } in
      let step : (j : ℕ) → here m j ≡ next m j = λ j. rw q (reads mode.Plain j ∙ passes_one b j (drop (at + 1) text) c) in
      record { begun = stays from (here m) (next m) e.begun.items step o.begun; ends = o.ends }

  pub started : (m : Mode) (e new : Ends) → is_plain m ≡ true → get_or text at 0 ≡ 40 → new.begun.items ≡ e.begun.items ++ (at + 1) ∷ [] → new.ends.items ≡ e.ends.items → ArgumentsOpen text m at e → Behind m new
  started m e new p x list same o =
      let q = plain_is m p in
      let step : (j : ℕ) → here m j ≡ next m (suc j) = λ j. rw q (reads mode.Plain j ∙ begins_one (get_or text at 0) j (drop (at + 1) text) x) in
      let first : from (at + 1) ≡ next m 0 = rw q (rw x refl) in
      record { begun = rw list (begins from (here m) (next m) e.begun.items (at + 1) step first o.begun); ends = rw same o.ends }

  -- the innermost ends here: its place in the table
  told : (m : Mode) (e new : Ends) (p : ℕ) → here m 0 ≡ Some (drop at text) → e.begun.items ≡ new.begun.items ++ p ∷ [] → ArgumentsOpen text m at e → EndsAt text p at
  told m e new p end list o = innermost from (here m) (next m) new.begun.items p (rw (sym list) o.begun) ∙ end

  shut_one : (m : Mode) (e new : Ends) (p : ℕ) → is_plain m ≡ true → get_or text at 0 ≡ 41 → e.begun.items ≡ new.begun.items ++ p ∷ [] → new.ends.items ≡ set e.ends.items p at → ArgumentsOpen text m at e → Behind m new
  shut_one m e new p pl x list set_there o =
      let q = plain_is m pl in
      let before : Opened from (here m) (new.begun.items ++ p ∷ []) = rw (sym list) o.begun in
      let step : (j : ℕ) → here m (suc j) ≡ next m j = λ j. rw q (reads mode.Plain (suc j) ∙ ends_one (get_or text at 0) j (drop (at + 1) text) x) in
      let end : here m 0 ≡ Some (drop at text) = rw q (reads mode.Plain 0 ∙ closes (get_or text at 0) (drop (at + 1) text) x ∙ ap (λ (w : List ℕ). Some w) (sym (front text at h))) in
      record { begun = ended from (here m) (next m) new.begun.items p step before; ends = rw set_there (tells_set (EndsAt text) e.ends.items p at o.ends (told m e new p end list o)) }

  -- nothing was open, or is followed further
  pub forgotten : (m : Mode) (e new : Ends) → new.begun.items ≡ [] → new.ends.items ≡ e.ends.items → ArgumentsOpen text m at e → Behind m new
  forgotten m e new list same o = record { begun = rw list tt; ends = rw same o.ends }

  parted_one : (m : Mode) (e mid new : Ends) (p : ℕ) → is_plain m ≡ true → get_or text at 0 ≡ 44 → e.begun.items ≡ mid.begun.items ++ p ∷ [] → mid.ends.items ≡ set e.ends.items p at
      → new.begun.items ≡ mid.begun.items ++ (at + 1) ∷ [] → new.ends.items ≡ mid.ends.items → ArgumentsOpen text m at e → Behind m new
  parted_one m e mid new p pl x list set_there more same o =
      let q = plain_is m pl in
      let before : Opened from (here m) (mid.begun.items ++ p ∷ []) = rw (sym list) o.begun in
      let step : (j : ℕ) → here m (suc j) ≡ outer m j = λ j. rw q (reads mode.Plain (suc j) ∙ inner_comma (get_or text at 0) j (drop (at + 1) text) x) in
      let others : Opened from (outer m) mid.begun.items = ended from (here m) (outer m) mid.begun.items p step before in
      let first : from (at + 1) ≡ next m 0 = rw q (rw x refl) in
      let end : here m 0 ≡ Some (drop at text) = rw q (reads mode.Plain 0 ∙ comma (get_or text at 0) (drop (at + 1) text) x ∙ ap (λ (w : List ℕ). Some w) (sym (front text at h))) in
      record {
        begun = rw more (begins from (outer m) (next m) mid.begun.items (at + 1) (λ j. refl) first others);
        ends = rw same (rw set_there (tells_set (EndsAt text) e.ends.items p at o.ends (told m e mid p end list o)));
      }

  first_parted : (m : Mode) (e mid new : Ends) → is_plain m ≡ true → get_or text at 0 ≡ 44 → mid.begun.items ≡ [] → mid.ends.items ≡ e.ends.items → new.begun.items ≡ mid.begun.items ++ (at + 1) ∷ [] → new.ends.items ≡ mid.ends.items
      → ArgumentsOpen text m at e → Behind m new
  first_parted m e mid new pl x none kept more same o =
      let q = plain_is m pl in
      let first : from (at + 1) ≡ next m 0 = rw q (rw x refl) in
      let alone : new.begun.items ≡ (at + 1) ∷ [] = more ∙ ap (λ (w : List ℕ). w ++ (at + 1) ∷ []) none in
      record { begun = rw alone (first, tt); ends = rw same (rw kept o.ends) }

  pub shut : (m : Mode) (e new : Ends) (o : Option ℕ) → is_plain m ≡ true → get_or text at 0 ≡ 41 → IfSome o (λ p. e.begun.items ≡ new.begun.items ++ p ∷ []) → IfSome o (λ p. new.ends.items ≡ set e.ends.items p at)
      → IfNone o (new.begun.items ≡ []) → IfNone o (new.ends.items ≡ e.ends.items) → ArgumentsOpen text m at e → Behind m new
  shut m e new None p x list there none same o = forgotten m e new none same o
  shut m e new (Some p) q x list there none same o = shut_one m e new p q x list there o

  pub parted : (m : Mode) (e mid new : Ends) (o : Option ℕ) → is_plain m ≡ true → get_or text at 0 ≡ 44 → IfSome o (λ p. e.begun.items ≡ mid.begun.items ++ p ∷ []) → IfSome o (λ p. mid.ends.items ≡ set e.ends.items p at)
      → IfNone o (mid.begun.items ≡ []) → IfNone o (mid.ends.items ≡ e.ends.items) → new.begun.items ≡ mid.begun.items ++ (at + 1) ∷ [] → new.ends.items ≡ mid.ends.items → ArgumentsOpen text m at e → Behind m new
  parted m e mid new None p x list there none same more kept o = first_parted m e mid new p x none same more kept o
  parted m e mid new (Some p) q x list there none same more kept o = parted_one m e mid new p q x list there more kept o

-- nothing is open at first
pub none_open : (text : List ℕ) (e : Ends) (n : ℕ) → e.ends.items ≡ replicate n 0 → e.begun.items ≡ [] → ArgumentsOpen text mode.Plain 0 e
none_open text e n ends list = record { begun = rw list tt; ends = rw ends (tells_none (EndsAt text) n) }
