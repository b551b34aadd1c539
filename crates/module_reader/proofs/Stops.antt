-- Tokens are spelled, or refused at one place, if each front of what begins a form begins it.
use Rattle.std.proofs.Common.{◌≡◌, ℕ, ◌+◌, ◌≤◌, ◌<◌, inl, inr, List, [], ◌++◌, length, take, drop, sym, subst, ◌∙◌, arith, append-nil}
use Rattle.module_reader.proofs.Common.{cases_lt, take-append-drop, take-take, Form, SpellsWhole, SyntaxAt, TooDeepAt, Token}
use Rattle.module_reader.proofs.Forms.{Begun}

module _ {A : Type 0} (form : ℕ → Form Token A) (depth : ℕ) (begun : (n : ℕ) → Begun (form n)) (ts : List Token) where
  fewer : (n k m : ℕ) → k ≤ m → (form n).begins (take m ts) → (form n).begins (take k ts)
  fewer n k m le h =
      let parts : take m ts ≡ take k ts ++ drop k (take m ts) = sym (subst (λ (l : List Token). l ++ drop k (take m ts) ≡ take m ts) (take-take k m ts le) (take-append-drop k (take m ts))) in
      (begun n).front (take k ts) (drop k (take m ts)) (subst (λ (l : List Token). (form n).begins l) parts h)

  -- ---- what is spelled is not refused

  module _ (t : A) (spelled : SpellsWhole (form depth) ts t) where
    spelled_front : (k : ℕ) → (form depth).begins (take k ts)
    spelled_front k =
        let h = (begun depth).taken ts t [] spelled in
        let parts : h.own ≡ take k ts ++ drop k ts = sym (append-nil h.own) ∙ sym h.parts ∙ sym (take-append-drop k ts) in
        (begun depth).front (take k ts) (drop k ts) (subst (λ (l : List Token). (form depth).begins l) parts h.whole)

    pub no_syntax : (k : ℕ) → SyntaxAt form depth ts k → ⊥
    no_syntax k stop =
        elim (cases_lt k (length ts)) [
          | inl within ↦ stop.here within (depth, spelled_front (k + 1))
          | inr past ↦ let le = stop.within in stop.at_end (omega arith) t (depth, spelled)
        ]

    pub no_too_deep : (k : ℕ) → TooDeepAt form depth ts k → ⊥
    no_too_deep k stop = stop.only_deeper (spelled_front (k + 1))

  -- ---- it is refused at one place

  -- tokens after a place of Syntax begin nothing
  none_behind : (n k m : ℕ) → k < m → m ≤ length ts → SyntaxAt form depth ts k → (form n).begins (take m ts) → ⊥
  none_behind n k m less within stop h = stop.here (omega arith) (n, fewer n (k + 1) m (omega arith) h)

  not_deeper : (k m : ℕ) → k < m → TooDeepAt form depth ts k → (form depth).begins (take m ts) → ⊥
  not_deeper k m less stop h = stop.only_deeper (fewer depth (k + 1) m (omega arith) h)

  pub syntax_once : (k m : ℕ) → SyntaxAt form depth ts k → SyntaxAt form depth ts m → k ≡ m
  syntax_once k m s r =
      elim (cases_lt k m) [
        | inl less ↦ absurd (none_behind depth k m less r.within s r.before)
        | inr le ↦ elim (cases_lt m k) [ inl less ↦ absurd (none_behind depth m k less s.within r s.before) | inr same ↦ omega arith ]
      ]

  pub deep_once : (k m : ℕ) → TooDeepAt form depth ts k → TooDeepAt form depth ts m → k ≡ m
  deep_once k m s r =
      elim (cases_lt k m) [
        | inl less ↦ absurd (not_deeper k m less s r.before)
        | inr le ↦ elim (cases_lt m k) [ inl less ↦ absurd (not_deeper m k less r s.before) | inr same ↦ omega arith ]
      ]

  pub either_stop : (k m : ℕ) → SyntaxAt form depth ts k → TooDeepAt form depth ts m → ⊥
  either_stop k m s r =
      elim (cases_lt m k) [
        | inl less ↦ not_deeper m k less r s.before
        | inr le ↦ let in_tokens = r.within in none_behind (depth + 1) k (m + 1) (omega arith) (omega arith) s r.here
      ]
