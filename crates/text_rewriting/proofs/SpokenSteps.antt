-- Line feeds and spaces of a form, byte by byte.
use Rattle.std.proofs.Common.{◌≡◌, ◌+◌, ◌<◌, ◌≤◌, ℕ, Bool, true, false, List, [], ◌∷◌, ◌++◌, length, take, refl, sym, ap, ◌∙◌, arith, append-nil, append_assoc, length-take, if◌then◌else◌, ◌==◌}
use Rattle.text_rewriting.proofs.Common.{eqb-true, eq-eqb, passing, line_feeds, shown_in}
use Rattle.text_pieces.specs.declared.mode.Mode.{Mode}
use Rattle.text_pieces.specs.declared.mode.Mode.TheVariants as mode
use Rattle.text_rewriting.specs.Shown.{shown_of}

pub part_fits : (v w : List ℕ) (n m : ℕ) → v ≡ take n w → length w < m → 0 + length v < m
part_fits v w n m e h = omega (arith, ap length e, length-take n w)

pub part_len : (v w : List ℕ) (n : ℕ) → v ≡ take n w → length v ≤ n
part_len v w n e = omega (arith, ap length e, length-take n w)

not_true : (b : Bool) → (b ≡ true → ⊥) → b ≡ false
not_true true h = absurd (h refl)
not_true false h = refl

-- ---- line feeds

fed : (b : ℕ) (x : List ℕ) → b ≡ 10 → line_feeds (b ∷ x) ≡ b ∷ line_feeds x
fed b x e = ap (λ (t : Bool). if t then b ∷ line_feeds x else line_feeds x) (eq-eqb b 10 e)

unfed : (b : ℕ) (x : List ℕ) → (b ≡ 10 → ⊥) → line_feeds (b ∷ x) ≡ line_feeds x
unfed b x h = ap (λ (t : Bool). if t then b ∷ line_feeds x else line_feeds x) (not_true (b == 10) (λ e. h (eqb-true b 10 e)))

pub feed_next : (b : ℕ) (w x bytes new total : List ℕ) → w ≡ b ∷ x → b ≡ 10 → new ≡ bytes ++ b ∷ [] → bytes ++ line_feeds w ≡ total → new ++ line_feeds x ≡ total
feed_next b w x bytes new total e f n t =
    ap (λ (v : List ℕ). v ++ line_feeds x) n ∙ append_assoc bytes (b ∷ []) (line_feeds x) ∙ ap (λ (v : List ℕ). bytes ++ v) (sym (ap line_feeds e ∙ fed b x f)) ∙ t

pub other_next : (b : ℕ) (w x bytes total : List ℕ) → w ≡ b ∷ x → (b ≡ 10 → ⊥) → bytes ++ line_feeds w ≡ total → bytes ++ line_feeds x ≡ total
other_next b w x bytes total e f t = ap (λ (v : List ℕ). bytes ++ v) (sym (ap line_feeds e ∙ unfed b x f)) ∙ t

pub feeds_out : (w bytes total : List ℕ) → w ≡ [] → bytes ++ line_feeds w ≡ total → bytes ≡ total
feeds_out w bytes total e t = sym (append-nil bytes) ∙ ap (λ (v : List ℕ). bytes ++ line_feeds v) (sym e) ∙ t

-- ---- comments as spaces

plain_shown : (b : ℕ) (x : List ℕ) (p : Mode) → passing mode.Plain b x ≡ p → shown_in mode.Plain (b ∷ x) ≡ shown_of mode.Plain p b ++ shown_in p x
plain_shown b x mode.Plain e = rw e refl
plain_shown b x mode.Quoted e = rw e refl
plain_shown b x mode.Escaped e = rw e refl
plain_shown b x mode.Note e = rw e refl
plain_shown b x mode.Line e = rw e refl

shown_next : (m : Mode) (b : ℕ) (x : List ℕ) → shown_in m (b ∷ x) ≡ shown_of m (passing m b x) b ++ shown_in (passing m b x) x
shown_next mode.Plain b x = plain_shown b x (passing mode.Plain b x) refl
shown_next mode.Quoted b x = refl
shown_next mode.Escaped b x = refl
shown_next mode.Note b x = refl
shown_next mode.Line b x = refl

pub shown_more : (m n : Mode) (b : ℕ) (w x bytes new total : List ℕ) → w ≡ b ∷ x → n ≡ passing m b x → new ≡ bytes ++ shown_of m n b → bytes ++ shown_in m w ≡ total → new ++ shown_in n x ≡ total
shown_more m n b w x bytes new total e p s t =
    ap (λ (v : List ℕ). v ++ shown_in n x) s ∙ append_assoc bytes (shown_of m n b) (shown_in n x)
    ∙ ap (λ (k : Mode). bytes ++ (shown_of m k b ++ shown_in k x)) p ∙ ap (λ (v : List ℕ). bytes ++ v) (sym (ap (shown_in m) e ∙ shown_next m b x)) ∙ t

pub shown_out : (m : Mode) (w bytes total : List ℕ) → w ≡ [] → bytes ++ shown_in m w ≡ total → bytes ≡ total
shown_out m w bytes total e t = sym (append-nil bytes) ∙ ap (λ (v : List ℕ). bytes ++ shown_in m v) (sym e) ∙ t
