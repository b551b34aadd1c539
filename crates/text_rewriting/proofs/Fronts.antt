-- What a front says of a move.
use Rattle.std.proofs.Common.{◌≡◌, ◌-◌, ◌<◌, ◌≤◌, ℕ, List, length, take, drop, refl, sym, ap, ◌∙◌, subst, arith, length-drop, Result, Ok, Err, IfOk}
use Rattle.text_rewriting.proofs.Common.{Vec, before, Tables, Done, Rewritten, before_drop, Front, changed, IsChange, IsFront, IsMade, IsRewritten}
use Rattle.text_rewriting.specs.declared.front.Change.{Change}
use Rattle.text_rewriting.specs.declared.front.Front.TheVariants as front

-- bytes that are done unchanged
pub copy_front : (t : Tables) (text : List ℕ) (most n : ℕ) → 0 < n → n ≤ length text → IsFront t text most (Done t (before text (drop n text)) (drop n text)) (front.Copy n)
copy_front t text most n h k = (ap (λ (w : List ℕ). Done t w (drop n text)) (before_drop text n k), h, k)

-- bytes that are done for a form
pub said_front : (t : Tables) (text : List ℕ) (most : ℕ) (c : Change) (bytes : Vec ℕ) (w : List ℕ) (end : ℕ) (u : Tables) → changed c t ≡ u → bytes.items ≡ w → 0 < end → end ≤ length text → length bytes.items ≤ end → IsChange c
    → IsFront t text most (Done u w (drop end text)) (front.Said c bytes end)
said_front t text most c bytes w end u e b h k l i = (ap (λ (x : Tables). Done x w (drop end text)) (sym e) ∙ ap (λ (x : List ℕ). Done (changed c t) x (drop end text)) (sym b), h, k, l, i)

-- a result that was gathered, or is too long
pub rewritten_front : (t : Tables) (text w : List ℕ) (most room end : ℕ) (f : Front) → room ≡ most - (length text - end) → length text ≤ most → end ≤ length text → IsRewritten t w room end f
    → IsFront t text most (Rewritten w (drop end text)) f
rewritten_front t text w most room end (front.Rewritten result e call) r l k h =
    let at : e ≡ end = h.2 in
    (ap (λ (x : List ℕ). Rewritten x (drop end text)) (sym h.0) ∙ ap (λ (n : ℕ). Rewritten result.text (drop n text)) (sym at), omega (arith, h.1, r, l, k, at, ap length h.0, length-drop e text), omega (arith, at, k), subst (λ (x : List ℕ). IsMade t x call) (sym h.0) h.3)
rewritten_front t text w most room end front.TooLong r l k h = (w, drop end text, refl, omega (arith, h, r, l, k, length-drop end text))
rewritten_front t text w most room end (front.Copy n) r l k h = absurd h
rewritten_front t text w most room end (front.Said c bytes e) r l k h = absurd h
rewritten_front t text w most room end front.BadDirective r l k h = absurd h
rewritten_front t text w most room end front.Unsupported r l k h = absurd h

-- the same bytes, by their places
pub part_end : (v text : List ℕ) (end : ℕ) (f : List ℕ → List ℕ) → v ≡ f (take end text) → end ≤ length text → v ≡ f (before text (drop end text))
part_end v text end f e h = e ∙ ap f (sym (before_drop text end h))

pub if_ok_map : {A E : Type 0} (r : Result A E) (P Q : A → Type 0) → ((x : A) → P x → Q x) → IfOk r P → IfOk r Q
if_ok_map (Ok x) P Q g h = g x h
if_ok_map (Err e) P Q g h = tt
