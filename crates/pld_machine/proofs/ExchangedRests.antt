-- A rest of an exchanged logic is one of the logic, with the Qs exchanged.
use Rattle.std.proofs.Common.{◌≡◌, ℕ, ◌<◌, Bool, not, ◌&&◌, List, length, refl, sym, ap, ◌∙◌, subst, inl, inr}
use Rattle.pld_machine.proofs.Common.{cases_Bool, is_on, Logic, is_register, Levels, AtRest, IsSettled, q_at_rest, ExchangedRests, MayExchange, exchanged, exchanged_at, exchanged_qs, in_sense}
use Rattle.pld_machine.proofs.ExchangedPoints.{point_back, point_exchanged, q_exchanged, complement_back}

module _ (x : ℕ → Bool) (m : Logic) (may : MayExchange x m) where
  -- the Q at rest of a register in the other sense: the stored one in the other sense, since no reset holds
  same_q : (stored : List Bool) (at : Levels) (c : ℕ) → c < length stored → q_at_rest m (exchanged_qs x stored) (exchanged_at x at) c ≡ in_sense (x c) (q_at_rest (exchanged x m) stored at c)
  same_q stored at c low =
      elim (cases_Bool (x c)) [
        | inl on ↦ rw (may.registers c on, may.no_reset (exchanged_at x at) c on, q_exchanged x stored c low) refl
        | inr off ↦
            ap (λ q. is_register m c && (not (m.reset (exchanged_at x at) c) && q)) (q_exchanged x stored c low ∙ ap (λ b. in_sense b (is_on stored c)) off)
            ∙ sym (ap (λ b. in_sense b (q_at_rest (exchanged x m) stored at c)) off)
      ]

  settled_to : (outside : List Bool) (at : Levels) → IsSettled (exchanged x m) outside at → IsSettled m outside (exchanged_at x at)
  settled_to outside at is = record { driven = is.driven; undriven = is.undriven; nodes = is.nodes; no_node = is.no_node }

  settled_from : (outside : List Bool) (at : Levels) → IsSettled m outside (exchanged_at x at) → IsSettled (exchanged x m) outside at
  settled_from outside at is = record { driven = is.driven; undriven = is.undriven; nodes = is.nodes; no_node = is.no_node }

  pub rest_to : (outside stored : List Bool) (at : Levels) → length stored ≡ 32 → AtRest (exchanged x m) outside stored at → AtRest m outside (exchanged_qs x stored) (exchanged_at x at)
  rest_to outside stored at wide rests = record {
    is_point = point_exchanged x at rests.is_point;
    registers = λ c low.
        q_exchanged x at.q c (subst (λ n. c < n) (sym rests.is_point.q) low)
        ∙ (ap (in_sense (x c)) (rests.registers c low)
        ∙ sym (same_q stored at c (subst (λ n. c < n) (sym wide) low)));
    settled = settled_to outside at rests.settled;
  }

  pub rest_from : (outside stored : List Bool) (at : Levels) → length stored ≡ 32 → AtRest m outside (exchanged_qs x stored) (exchanged_at x at) → AtRest (exchanged x m) outside stored at
  rest_from outside stored at wide rests =
      let is = point_back x at rests.is_point in
      record {
        is_point = is;
        registers = λ c low.
            let here : in_sense (x c) (is_on at.q c) ≡ in_sense (x c) (q_at_rest (exchanged x m) stored at c) =
            sym (q_exchanged x at.q c (subst (λ n. c < n) (sym is.q) low)) ∙ (rests.registers c low ∙ same_q stored at c (subst (λ n. c < n) (sym wide) low)) in
            sym (complement_back (x c) (is_on at.q c)) ∙ (ap (in_sense (x c)) here ∙ complement_back (x c) (q_at_rest (exchanged x m) stored at c));
        settled = settled_from outside at rests.settled;
      }

pub exchanged_rests : ExchangedRests
exchanged_rests x m outside stored at may wide = (rest_to x m may outside stored at wide, rest_from x m may outside stored at wide)
