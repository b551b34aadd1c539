-- Lengths of a text that is gathered.
use Rattle.std.proofs.Common.{◌≡◌, ◌+◌, ◌-◌, ◌<◌, ◌≤◌, ◌*◌, ℕ, zero, suc, List, [], ◌∷◌, ◌++◌, length, drop, get_or, replicate, refl, sym, ap, ◌∙◌, subst, arith, append-nil, append_assoc, add-one, length-append, ◌/◌}
use Rattle.text_rewriting.proofs.Common.{div-lt_iff_lt-mul, suc-mul, concat, joined, Gathering}
use Rattle.text_pieces.proofs.Pieces.{joined-push}

empty : (w : List ℕ) → length w ≡ 0 → w ≡ []
empty [] h = refl
empty (x ∷ xs) h = absurd (omega arith)

-- ---- one piece

abbrev gathering : List ℕ → ℕ → Gathering
gathering w m = record { text = w; most = m }

pub added : (ps qs : List (List ℕ)) (p : List ℕ) (room n : ℕ) → n ≡ length p → n ≤ room → qs ≡ ps ++ p ∷ []
    → gathering (joined qs) (length (joined qs) + (room - n)) ≡ gathering (joined ps ++ p) (length (joined ps) + room)
added ps qs p room n l h e =
    let t : joined qs ≡ joined ps ++ p = ap joined e ∙ joined-push ps p in
    let m : length (joined qs) + (room - n) ≡ length (joined ps) + room = omega (arith, ap length t, length-append (joined ps) p, l) in
    ap (λ (w : List ℕ). gathering w (length (joined qs) + (room - n))) t ∙ ap (gathering (joined ps ++ p)) m

pub added_nothing : (g : Gathering) (p : List ℕ) → length p ≡ 0 → g ≡ record g { text = g.text ++ p }
added_nothing g p h = ap (λ (w : List ℕ). record g { text = w }) (sym (ap (λ (w : List ℕ). g.text ++ w) (empty p h) ∙ append-nil g.text))

pub over : (w p : List ℕ) (room : ℕ) → room < length p → length w + room < length (w ++ p)
over w p room h = omega (arith, length-append w p)

-- ---- pieces

opened_suc : (ps : List (List ℕ)) (i : ℕ) (d : List ℕ) → i < length ps → joined (drop i ps) ≡ (get_or ps i d) ++ joined (drop (suc i) ps)
opened_suc [] i d h = absurd (omega arith)
opened_suc (p ∷ ps) zero d h = refl
opened_suc (p ∷ ps) (suc i) d h = opened_suc ps i d (omega arith)

opened : (ps : List (List ℕ)) (i : ℕ) (d : List ℕ) → i < length ps → joined (drop i ps) ≡ (get_or ps i d) ++ joined (drop (i + 1) ps)
opened ps i d h = opened_suc ps i d h ∙ ap (λ (n : ℕ). (get_or ps i d) ++ joined (drop n ps)) (sym (add-one i))

pub nothing_next : (ps : List (List ℕ)) (i : ℕ) (d : List ℕ) (w : List ℕ) → i < length ps → length (get_or ps i d) ≡ 0 → joined (drop i ps) ≡ w → joined (drop (i + 1) ps) ≡ w
nothing_next ps i d w h z e = sym (opened ps i d h ∙ ap (λ (v : List ℕ). v ++ joined (drop (i + 1) ps)) (empty (get_or ps i d) z)) ∙ e

pub something_at : (ps : List (List ℕ)) (i : ℕ) (d : List ℕ) (w : List ℕ) → i < length ps → 0 < length (get_or ps i d) → joined (drop i ps) ≡ w → 0 < length w
something_at ps i d w h s e = omega (arith, ap length (sym e ∙ opened ps i d h), length-append (get_or ps i d) (joined (drop (i + 1) ps)))

past_all : (ps : List (List ℕ)) (i : ℕ) → length ps ≤ i → joined (drop i ps) ≡ []
past_all [] zero h = refl
past_all [] (suc i) h = refl
past_all (p ∷ ps) zero h = absurd (omega arith)
past_all (p ∷ ps) (suc i) h = past_all ps i (omega arith)

pub nothing_left : (ps : List (List ℕ)) (i : ℕ) (w : List ℕ) → length ps ≤ i → joined (drop i ps) ≡ w → w ≡ []
nothing_left ps i w h e = sym e ∙ past_all ps i h

pub all_next : (ps : List (List ℕ)) (i : ℕ) (d : List ℕ) (text new total : List ℕ) → i < length ps → new ≡ text ++ (get_or ps i d) → text ++ joined (drop i ps) ≡ total → new ++ joined (drop (i + 1) ps) ≡ total
all_next ps i d text new total h n e =
    ap (λ (w : List ℕ). w ++ joined (drop (i + 1) ps)) n ∙ append_assoc text (get_or ps i d) (joined (drop (i + 1) ps)) ∙ ap (λ (w : List ℕ). text ++ w) (sym (opened ps i d h)) ∙ e

pub all_long : (ps : List (List ℕ)) (i : ℕ) (d : List ℕ) (text total : List ℕ) (most : ℕ) → i < length ps → most < length (text ++ (get_or ps i d)) → text ++ joined (drop i ps) ≡ total → most < length total
all_long ps i d text total most h l e =
    omega (arith, ap length (all_next ps i d text (text ++ (get_or ps i d)) total h refl e), length-append (text ++ (get_or ps i d)) (joined (drop (i + 1) ps)))

pub all_added : (ps : List (List ℕ)) (i : ℕ) (text total : List ℕ) → length ps ≤ i → text ++ joined (drop i ps) ≡ total → text ≡ total
all_added ps i text total h e = sym (append-nil text) ∙ ap (λ (w : List ℕ). text ++ w) (sym (past_all ps i h)) ∙ e

-- ---- so many times

nothing_times : (n : ℕ) (w : List ℕ) → w ≡ [] → concat (replicate n w) ≡ []
nothing_times zero w e = refl
nothing_times (suc n) w e = ap (λ (v : List ℕ). v ++ concat (replicate n w)) e ∙ nothing_times n w e

pub no_times : (g : Gathering) (n : ℕ) (w : List ℕ) → w ≡ [] → g ≡ record g { text = g.text ++ concat (replicate n w) }
no_times g n w e = ap (λ (v : List ℕ). record g { text = v }) (sym (ap (λ (v : List ℕ). g.text ++ v) (nothing_times n w e) ∙ append-nil g.text))

once : (n : ℕ) (w : List ℕ) → 0 < n → concat (replicate n w) ≡ w ++ concat (replicate (n - 1) w)
once n w h = let m : n ≡ suc (n - 1) = omega arith in ap (λ (k : ℕ). concat (replicate k w)) m

pub times_next : (n : ℕ) (w text new total : List ℕ) → 0 < n → new ≡ text ++ w → text ++ concat (replicate n w) ≡ total → new ++ concat (replicate (n - 1) w) ≡ total
times_next n w text new total h s e =
    ap (λ (v : List ℕ). v ++ concat (replicate (n - 1) w)) s ∙ append_assoc text w (concat (replicate (n - 1) w)) ∙ ap (λ (v : List ℕ). text ++ v) (sym (once n w h)) ∙ e

pub times_long : (n : ℕ) (w text total : List ℕ) (most : ℕ) → 0 < n → most < length (text ++ w) → text ++ concat (replicate n w) ≡ total → most < length total
times_long n w text total most h l e = omega (arith, ap length (times_next n w text (text ++ w) total h refl e), length-append (text ++ w) (concat (replicate (n - 1) w)))

pub times_added : (n : ℕ) (w text total : List ℕ) → n ≡ 0 → text ++ concat (replicate n w) ≡ total → text ≡ total
times_added n w text total z e = sym (append-nil text) ∙ ap (λ (k : ℕ). text ++ concat (replicate k w)) (sym z) ∙ e

pub zero_times : (g : Gathering) (n : ℕ) (w : List ℕ) → n ≡ 0 → g ≡ record g { text = g.text ++ concat (replicate n w) }
zero_times g n w z = ap (λ (v : List ℕ). record g { text = v }) (sym (ap (λ (k : ℕ). g.text ++ concat (replicate k w)) z ∙ append-nil g.text))

times_length : (n : ℕ) (w : List ℕ) → length (concat (replicate n w)) ≡ n * length w
times_length zero w = omega arith
times_length (suc n) w = omega (arith, length-append w (concat (replicate n w)), times_length n w, suc-mul n (length w))

pub product_over : (count len room : ℕ) → 0 < len → room / len < count → room < count * len
product_over count len room h l = (div-lt_iff_lt-mul {k = len} {x = room} {y = count} h).0 l

-- once, and so many times more
module _ (n : ℕ) (w text : List ℕ) (some : 0 < n) where
  whole : (text ++ w) ++ concat (replicate (n - 1) w) ≡ text ++ concat (replicate n w)
  whole = times_next n w text (text ++ w) (text ++ concat (replicate n w)) some refl refl

  pub once_long : (most : ℕ) → most < length (text ++ w) → most < length (text ++ concat (replicate n w))
  once_long most l = times_long n w text (text ++ concat (replicate n w)) most some l refl

  pub rest_long : (most : ℕ) → most < length ((text ++ w) ++ concat (replicate (n - 1) w)) → most < length (text ++ concat (replicate n w))
  rest_long most l = omega (arith, l, ap length whole)

  pub times_over : (most before room : ℕ) → length text + before ≡ most → length (text ++ w) + room ≡ most → room < (n - 1) * (before - room) → most < length (text ++ concat (replicate n w))
  times_over most before room b r l =
      let one : before - room ≡ length w = omega (arith, b, r, length-append text w) in
      let t : room < (n - 1) * length w = subst (λ (k : ℕ). room < (n - 1) * k) one l in
      rest_long most (omega (arith, t, r, times_length (n - 1) w, length-append (text ++ w) (concat (replicate (n - 1) w))))

pub rest_added : (g k : Gathering) (n : ℕ) (w : List ℕ) → 0 < n → k ≡ record g { text = (g.text ++ w) ++ concat (replicate (n - 1) w) } → k ≡ record g { text = g.text ++ concat (replicate n w) }
rest_added g k n w h e = e ∙ ap (λ (v : List ℕ). record g { text = v }) (whole n w g.text h)

pub less_room : (text w : List ℕ) (most before room : ℕ) → length text + before ≡ most → length (text ++ w) + room ≡ most → room ≤ before
less_room text w most before room b r = omega (arith, b, r, length-append text w)

-- ---- two texts, one after the other

pub two_added : (g k : Gathering) (v w : List ℕ) → k ≡ record g { text = (g.text ++ v) ++ w } → k ≡ record g { text = g.text ++ (v ++ w) }
two_added g k v w e = e ∙ ap (λ (x : List ℕ). record g { text = x }) (append_assoc g.text v w)

pub first_long : (text v w : List ℕ) (most : ℕ) → most < length (text ++ v) → most < length (text ++ (v ++ w))
first_long text v w most l = omega (arith, l, length-append text v, length-append text (v ++ w), length-append v w)

pub second_long : (text v w : List ℕ) (most : ℕ) → most < length ((text ++ v) ++ w) → most < length (text ++ (v ++ w))
second_long text v w most l = omega (arith, l, ap length (append_assoc text v w))

pub added_none : (g : Gathering) → g ≡ record g { text = g.text ++ [] }
added_none g = ap (λ (w : List ℕ). record g { text = w }) (sym (append-nil g.text))

-- ---- one piece

pub joined_one : (ps : List (List ℕ)) (p : List ℕ) → ps ≡ [] ++ p ∷ [] → joined ps ≡ p
joined_one ps p e = ap joined e ∙ append-nil p

pub joined_only : (ps : List (List ℕ)) (p w : List ℕ) → ps ≡ p ∷ [] → joined ps ≡ w → p ≡ w
joined_only ps p w e t = sym (ap joined e ∙ append-nil p) ∙ t

pub same_gathering : (v w : List ℕ) (room : ℕ) → v ≡ w → gathering v (length v + room) ≡ gathering w (length w + room)
same_gathering v w room e = ap (λ (x : List ℕ). gathering x (length x + room)) e
