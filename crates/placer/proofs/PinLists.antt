-- Lists of pins, pin by pin.
use Rattle.std.proofs.Common.{◌≡◌, ℕ, zero, suc, ◌+◌, ◌-◌, ◌<◌, ◌≤◌, ◌==◌, Bool, true, false, ◌&&◌, List, [], ◌∷◌, ◌++◌, filter, if◌then◌else◌, map, take, length, get_or, refl, sym, ap, ◌∙◌, arith, add-one, is_none}
use Rattle.placer.proofs.Common.{range_with_len, append-nil, map-append, take_all, take_more, filter-append, Cell, Table, no_cell, Entry, cell_on, cells_of_room, is_pin_free, large_to, pin_fits, small_to, wanted_of}

-- those of the pins so far, with one pin more
module _ (t : Table) (es : List Entry) (read : Bool) (x : Entry) (pins : List ℕ) (k pin : ℕ) (low : k < length pins) (at : pin ≡ get_or pins k 0) where
  abbrev wants : ℕ → Bool
  wants p = is_pin_free t es p && pin_fits t read x p

  push : wanted_of t es read x (take (k + 1) pins) ≡ wanted_of t es read x (take k pins) ++ (if wants pin then pin ∷ [] else [])
  push = ap (wanted_of t es read x) (take_more pins k 0 low ∙ ap (λ p. take k pins ++ p ∷ []) (sym at)) ∙ filter-append wants (take k pins) (pin ∷ [])

  pub wanted_more : wants pin ≡ true → wanted_of t es read x (take k pins) ++ pin ∷ [] ≡ wanted_of t es read x (take (k + 1) pins)
  wanted_more is = sym (push ∙ ap (λ b. wanted_of t es read x (take k pins) ++ (if b then pin ∷ [] else [])) is)

  pub wanted_same : wants pin ≡ false → wanted_of t es read x (take k pins) ≡ wanted_of t es read x (take (k + 1) pins)
  wanted_same other = sym (push ∙ (ap (λ b. wanted_of t es read x (take k pins) ++ (if b then pin ∷ [] else [])) other ∙ append-nil (wanted_of t es read x (take k pins))))

-- ---- lists of pins with one more

-- of the cells of a room
abbrev pub in_room : ℕ → Cell → Bool
in_room room c = c.room == room

abbrev pub room_pins : Table → (room count : ℕ) → List ℕ
room_pins t room n = map (λ (c : Cell). c.pin) (filter (in_room room) (take n t.cells))

module _ (t : Table) (room k : ℕ) (c : Cell) (low : k < length t.cells) (at : get_or t.cells k no_cell ≡ c) where
  more : filter (in_room room) (take (k + 1) t.cells) ≡ filter (in_room room) (take k t.cells) ++ filter (in_room room) (c ∷ [])
  more = ap (filter (in_room room)) (take_more t.cells k no_cell low ∙ ap (λ y. take k t.cells ++ y ∷ []) at) ∙ filter-append (in_room room) (take k t.cells) (c ∷ [])

  pub room_more : (c.room == room) ≡ true → room_pins t room k ++ c.pin ∷ [] ≡ room_pins t room (k + 1)
  room_more is = sym (ap (map (λ (c : Cell). c.pin)) (more ∙ ap (λ b. filter (in_room room) (take k t.cells) ++ (if b then c ∷ [] else [])) is) ∙ map-append (λ (c : Cell). c.pin) (filter (in_room room) (take k t.cells)) (c ∷ []))

  pub room_same : (c.room == room) ≡ false → room_pins t room k ≡ room_pins t room (k + 1)
  room_same other = sym (ap (map (λ (c : Cell). c.pin)) (more ∙ (ap (λ b. filter (in_room room) (take k t.cells) ++ (if b then c ∷ [] else [])) other ∙ append-nil (filter (in_room room) (take k t.cells)))))

-- without a cell
range_push : (base n : ℕ) → range_with_len base (suc n) ≡ range_with_len base n ++ (base + n) ∷ []
range_push base zero = ap (λ k. k ∷ []) (plus base)
  where
    plus : (n : ℕ) → n ≡ n + 0
    plus n = omega arith
range_push base (suc n) = ap (λ l. base ∷ l) (range_push (base + 1) n ∙ ap (λ k. range_with_len (base + 1) n ++ k ∷ []) (step base n))
  where
    step : (a b : ℕ) → a + 1 + b ≡ a + suc b
    step a b = omega arith

abbrev pub no_cell_on : Table → ℕ → Bool
no_cell_on t pin = is_none (cell_on t pin)

abbrev pub plain_to : Table → (count : ℕ) → List ℕ
plain_to t n = filter (no_cell_on t) (range_with_len 1 n)

module _ (t : Table) where
  plain_push : (n : ℕ) → plain_to t (n + 1) ≡ plain_to t n ++ filter (no_cell_on t) ((1 + n) ∷ [])
  plain_push n =
      ap (λ k. filter (no_cell_on t) (range_with_len 1 k)) (add-one n)
      ∙ (ap (filter (no_cell_on t)) (range_push 1 n) ∙ filter-append (no_cell_on t) (range_with_len 1 n) ((1 + n) ∷ []))

  pub plain_more : (n pin : ℕ) → pin ≡ 1 + n → is_none (cell_on t pin) ≡ true → plain_to t n ++ pin ∷ [] ≡ plain_to t (n + 1)
  plain_more n pin is none =
      ap (λ p. plain_to t n ++ p ∷ []) is ∙ sym (plain_push n ∙ ap (λ b. plain_to t n ++ (if b then (1 + n) ∷ [] else [])) (sym (ap (no_cell_on t) is) ∙ none))

  pub plain_same : (n pin : ℕ) → pin ≡ 1 + n → is_none (cell_on t pin) ≡ false → plain_to t n ≡ plain_to t (n + 1)
  plain_same n pin is some =
      sym (plain_push n ∙ (ap (λ b. plain_to t n ++ (if b then (1 + n) ∷ [] else [])) (sym (ap (no_cell_on t) is) ∙ some) ∙ append-nil (plain_to t n)))

-- ---- all of them

pub whole_room : (t : Table) (room k : ℕ) → length t.cells ≤ k → room_pins t room k ≡ cells_of_room t room
whole_room t room k past = ap (λ cs. map (λ (c : Cell). c.pin) (filter (in_room room) cs)) (take_all k t.cells past)

-- ---- room by room

pub large_less : (t : Table) (room : ℕ) → 0 < room → large_to t room ≡ cells_of_room t room ++ large_to t (room - 1)
large_less t zero some = absurd (omega (arith, some))
large_less t (suc room) some = ap (λ n. cells_of_room t (suc room) ++ large_to t n) (less room)
  where
    less : (n : ℕ) → n ≡ suc n - 1
    less n = omega arith

pub small_more : (t : Table) (room : ℕ) → small_to t room ++ cells_of_room t (room + 1) ≡ small_to t (room + 1)
small_more t room = ap (λ n. small_to t room ++ cells_of_room t n) (add-one room) ∙ sym (ap (small_to t) (add-one room))
