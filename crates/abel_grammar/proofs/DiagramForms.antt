-- Transitions as the grammar has them are those that are read with the `;` after each arm.
use Rattle.std.proofs.Common.{◌≡◌, ℕ, zero, suc, inl, inr, Bool, true, false, List, [], Option, Some, None, refl, sym, subst, ◌||◌, is_some}
use Rattle.abel_grammar.proofs.Common.{Form, ◌then◌, followed, either, optional, repeated, made, nothing, given, unless, Place, Token, Tree, Branch, Semicolon, Colon, Then, Else, Goto, If, Case, Endcase, one, end, expr, goal, behind_word, is_open_arm, if_of, if_form, choice, case_of, case_form, goal_arm, arm, is_closed, ending, leading, trans_of, trans, Ended, if_ended_of, choice_ended_of, case_ended_of, branch_in}
use Rattle.abel_grammar.proofs.SameForms.{Same, same_itself, same_through, same_made, same_either, same_followed, same_optional, same_repeated, either_then, nothing_then, Moved, moved_then, moved_made, moved_itself, behind_first}
use Rattle.abel_grammar.proofs.EndedForms.{allowed, if_ended, choice_ended, case_ended, goal_ended, arm_ended, goto_ended, leading_ended, trans_ended}
use Rattle.abel_grammar.proofs.ExpressionLaws.{end_laws}

-- ---- IF: the `;` before an ELSE, or else after it

abbrev Tail : Type 0
Tail = Option (Option Token × (Token × Branch))

abbrev EndedTail : Type 0
EndedTail = Option (Token × Ended)

abbrev split : Ended × EndedTail → (Branch × Tail) × Option Token
split ((b, s), None) = ((b, None), s)
split ((b, s), Some (k, (d, z))) = ((b, Some (s, (k, d))), z)

module _ (a : Form Token Branch) where
  abbrev tail : Bool → Form Token Tail
  tail o = unless o None (optional (end then one Else then a))

  abbrev ended_tail : Bool → Form Token EndedTail
  ended_tail o = unless o None (optional (one Else then a then end))

  abbrev P : Form Token (Branch × Tail)
  P = followed a (λ b. tail (is_open_arm b))

  abbrev Q : Form Token (Ended × EndedTail)
  Q = followed (a then end) (λ b. ended_tail (is_open_arm b.0))

  no_tail : (o : Bool) (ts : List Token) → (tail o).spells ts None ts
  no_tail true ts = (refl, refl)
  no_tail false ts = refl

  no_ended_tail : (o : Bool) (ts : List Token) → (ended_tail o).spells ts None ts
  no_ended_tail true ts = (refl, refl)
  no_ended_tail false ts = refl

  where_none : (o : Bool) (ts rest : List Token) → (tail o).spells ts None rest → ts ≡ rest
  where_none true ts rest s = s.0
  where_none false ts rest s = s

  where_none_ended : (o : Bool) (ts rest : List Token) → (ended_tail o).spells ts None rest → ts ≡ rest
  where_none_ended true ts rest s = s.0
  where_none_ended false ts rest s = s

  where_some : (o : Bool) (ts rest : List Token) (u : Option Token × (Token × Branch)) → (tail o).spells ts (Some u) rest → (end then one Else then a).spells ts u rest × ((v : EndedTail) (m n : List Token) → (optional (one Else then a then end)).spells m v n → (ended_tail o).spells m v n)
  where_some true ts rest u s = absurd (let is : None ≡ Some u = s.1 in let no : ⊥ = cc in no)
  where_some false ts rest u s = (s, λ v m n w. w)

  where_some_ended : (o : Bool) (ts rest : List Token) (u : Token × Ended) → (ended_tail o).spells ts (Some u) rest → (one Else then a then end).spells ts u rest × ((v : Tail) (m n : List Token) → (optional (end then one Else then a)).spells m v n → (tail o).spells m v n)
  where_some_ended true ts rest u s = absurd (let is : None ≡ Some u = s.1 in let no : ⊥ = cc in no)
  where_some_ended false ts rest u s = (s, λ v m n w. w)

  core_there : (ts : List Token) (t : (Branch × Tail) × Option Token) (rest : List Token) → (P then end).spells ts t rest → (made split Q).spells ts t rest
  core_there ts ((b, None), z) rest (m, (m4, fa, fu), fz) =
      let e = where_none (is_open_arm b) m4 m fu in
      (((b, z), None), (rest, (m4, fa, subst (λ (k : List Token). end.spells k z rest) (sym e) fz), no_ended_tail (is_open_arm b) rest), refl)
  core_there ts ((b, Some (s, (k, d))), z) rest (m, (m4, fa, fu), fz) =
      let p = where_some (is_open_arm b) m4 m (s, (k, d)) fu in
      (((b, s), Some (k, (d, z))), (p.0.0, (m4, fa, p.0.1), p.1 (Some (k, (d, z))) p.0.0 rest (p.0.2.0, p.0.2.1, (m, p.0.2.2, fz))), refl)

  core_back_one : (ts : List Token) (y : Ended × EndedTail) (rest : List Token) → Q.spells ts y rest → (P then end).spells ts (split y) rest
  core_back_one ts ((b, s), None) rest (m5, (m4, fa, fs), fv) =
      let e = where_none_ended (is_open_arm b) m5 rest fv in
      (m4, (m4, fa, no_tail (is_open_arm b) m4), subst (λ (k : List Token). end.spells m4 s k) e fs)
  core_back_one ts ((b, s), Some (k, (d, z))) rest (m5, (m4, fa, fs), fv) =
      let p = where_some_ended (is_open_arm b) m5 rest (k, (d, z)) fv in
      (p.0.2.0, (m4, fa, p.1 (Some (s, (k, d))) m4 p.0.2.0 (m5, fs, (p.0.0, p.0.1, p.0.2.1))), p.0.2.2)

  -- what begins the parts
  tail_begun : (o : Bool) (ts m4 : List Token) (b : Branch) → is_open_arm b ≡ o → a.spells ts b m4 → (tail o).begins m4 → Q.begins ts
  tail_begun true ts m4 b e fa h = inl (inr (b, m4, fa, subst (λ (m : List Token). end.begins m) (sym h) tt))
  tail_begun false ts m4 b e fa (inl h) = inl (inr (b, m4, fa, h))
  tail_begun false ts m4 b e fa (inr (s, m5, fs, inl h)) = inr ((b, s), m5, (m4, fa, fs), subst (λ (o : Bool). (ended_tail o).begins m5) (sym e) (inl h))
  tail_begun false ts m4 b e fa (inr (s, m5, fs, inr (k, m6, fk, h))) = inr ((b, s), m5, (m4, fa, fs), subst (λ (o : Bool). (ended_tail o).begins m5) (sym e) (inr (k, m6, fk, inl h)))

  core_begins : (ts : List Token) → (P then end).begins ts → (made split Q).begins ts
  core_begins ts (inl (inl h)) = inl (inl h)
  core_begins ts (inl (inr (b, m4, fa, h))) = tail_begun (is_open_arm b) ts m4 b refl fa h
  core_begins ts (inr ((b, None), m, (m4, fa, fu), h)) = inl (inr (b, m4, fa, subst (λ (k : List Token). end.begins k) (sym (where_none (is_open_arm b) m4 m fu)) h))
  core_begins ts (inr ((b, Some (s, (k, d))), m, (m4, fa, fu), h)) = some_begun (is_open_arm b) refl fu
    where
      some_begun : (o : Bool) → is_open_arm b ≡ o → (tail o).spells m4 (Some (s, (k, d))) m → Q.begins ts
      some_begun true e fu = absurd (let is : None ≡ Some (s, (k, d)) = fu.1 in let no : ⊥ = cc in no)
      some_begun false e (m6, fs, (m7, fk, fd)) = inr ((b, s), m6, (m4, fa, fs), subst (λ (o : Bool). (ended_tail o).begins m6) (sym e) (inr (k, m7, fk, inr (d, m, fd, h))))

  core_begins_back : (ts : List Token) → Q.begins ts → (P then end).begins ts
  core_begins_back ts (inl (inl h)) = inl (inl h)
  core_begins_back ts (inl (inr (b, m4, fa, h))) = inr ((b, None), m4, (m4, fa, no_tail (is_open_arm b) m4), h)
  core_begins_back ts (inr ((b, s), m5, (m4, fa, fs), h)) = ended_begun (is_open_arm b) refl h
    where
      ended_begun : (o : Bool) → is_open_arm b ≡ o → (ended_tail o).begins m5 → (P then end).begins ts
      ended_begun true e d = inr ((b, None), m4, (m4, fa, no_tail (is_open_arm b) m4), end_laws.whole m4 s (subst (λ (k : List Token). end.spells m4 s k) d fs))
      ended_begun false e (inl g) = inl (inr (b, m4, fa, subst (λ (o : Bool). (tail o).begins m4) (sym e) (inr (s, m5, fs, inl g))))
      ended_begun false e (inr (k, m6, fk, inl g)) = inl (inr (b, m4, fa, subst (λ (o : Bool). (tail o).begins m4) (sym e) (inr (s, m5, fs, inr (k, m6, fk, g)))))
      ended_begun false e (inr (k, m6, fk, inr (d, m7, fd, g))) =
          inr ((b, Some (s, (k, d))), m7, (m4, fa, subst (λ (o : Bool). (tail o).spells m4 (Some (s, (k, d))) m7) (sym e) (m5, fs, (m6, fk, fd))), g)

  core_same : Moved P end Q split
  core_same = record {
    there = core_there;
    back = λ ts t rest (y, s, d). subst (λ (u : (Branch × Tail) × Option Token). (P then end).spells ts u rest) d (core_back_one ts y rest s);
    begins_there = core_begins;
    begins_back = core_begins_back;
  }

  abbrev split3 : Token × (Tree × (Token × (Ended × EndedTail))) → (Token × (Tree × (Token × (Branch × Tail)))) × Option Token
  split3 = behind_first (behind_first (behind_first split))

  if_agrees : (y : Token × (Tree × (Token × (Ended × EndedTail)))) → (if_of (split3 y).0, (split3 y).1) ≡ if_ended_of y
  if_agrees (w, (c, (t, ((b, s), None)))) = refl
  if_agrees (w, (c, (t, ((b, s), Some (k, (d, z)))))) = refl

  if_same : (e : Form Token Tree) → Same (if_form e a then end) (if_ended e (a then end))
  unfolding if_form if_ended
  if_same e =
      moved_made if_of if_ended_of _ end _ split3
      (moved_then (one If) _ end _ _ (moved_then e _ end _ _ (moved_then (one Then) P end Q split core_same))) if_agrees

  -- ---- CASE: an arm and its `;`

  choice_there : (e : Form Token Tree) (ts : List Token) (t : Tree × (Place × Branch)) (rest : List Token) → (choice e a).spells ts t rest → (choice_ended e (a then end)).spells ts t rest
  unfolding choice choice_ended
  choice_there e ts t rest ((c, (k, (b, z))), (m1, fc, (m2, fk, (m3, fb, fz))), d) = ((c, (k, ((b, Some z), tt))), (m1, fc, (m2, fk, (rest, (m3, fb, fz), (refl, refl)))), d)

  choice_back : (e : Form Token Tree) (ts : List Token) (t : Tree × (Place × Branch)) (rest : List Token) → (choice_ended e (a then end)).spells ts t rest → (choice e a).spells ts t rest
  unfolding choice choice_ended
  choice_back e ts t rest ((c, (k, ((b, Some z), u))), (m1, fc, (m2, fk, (m4, (m3, fb, fz), fu))), d) = ((c, (k, (b, z))), (m1, fc, (m2, fk, (m3, fb, subst (λ (m : List Token). (one Semicolon).spells m3 z m) fu.0 fz))), d)
  choice_back e ts t rest ((c, (k, ((b, None), u))), (m1, fc, (m2, fk, (m4, s, fu))), d) = absurd fu

  choice_begins : (e : Form Token Tree) (us : List Token) → (choice e a).begins us → (choice_ended e (a then end)).begins us
  unfolding choice choice_ended
  choice_begins e us (inl h) = inl h
  choice_begins e us (inr (c, m1, fc, inl h)) = inr (c, m1, fc, inl h)
  choice_begins e us (inr (c, m1, fc, inr (k, m2, fk, inl h))) = inr (c, m1, fc, inr (k, m2, fk, inl (inl h)))
  choice_begins e us (inr (c, m1, fc, inr (k, m2, fk, inr (b, m3, fb, h)))) = inr (c, m1, fc, inr (k, m2, fk, inl (inr (b, m3, fb, h))))

  allowed_nil : (v : Bool) (m : List Token) → (allowed v).begins m → m ≡ []
  allowed_nil true m h = h
  allowed_nil false m h = h

  choice_begins_back : (e : Form Token Tree) (us : List Token) → (choice_ended e (a then end)).begins us → (choice e a).begins us
  unfolding choice choice_ended
  choice_begins_back e us (inl h) = inl h
  choice_begins_back e us (inr (c, m1, fc, inl h)) = inr (c, m1, fc, inl h)
  choice_begins_back e us (inr (c, m1, fc, inr (k, m2, fk, inl (inl h)))) = inr (c, m1, fc, inr (k, m2, fk, inl h))
  choice_begins_back e us (inr (c, m1, fc, inr (k, m2, fk, inl (inr (b, m3, fb, h))))) = inr (c, m1, fc, inr (k, m2, fk, inr (b, m3, fb, h)))
  choice_begins_back e us (inr (c, m1, fc, inr (k, m2, fk, inr ((b, z), m4, (m3, fb, fz), h)))) =
      inr (c, m1, fc, inr (k, m2, fk, inr (b, m3, fb, end_laws.whole m3 z (subst (λ (m : List Token). end.spells m3 z m) (allowed_nil (is_some z) m4 h) fz))))

  choice_same : (e : Form Token Tree) → Same (choice e a) (choice_ended e (a then end))
  choice_same e = record { there = choice_there e; back = choice_back e; begins_there = choice_begins e; begins_back = choice_begins_back e }

  case_same : (e : Form Token Tree) → Same (case_form e a then end) (case_ended e (a then end))
  unfolding case_form case_ended
  case_same e =
      same_through _ _ _
      (moved_made case_of case_ended_of _ end _ _ (moved_then (one Case) _ end _ _ (moved_then (repeated (choice e a)) _ end _ _ (moved_itself (one Endcase) end))) (λ y. refl))
      (same_made case_ended_of _ _ (same_followed _ _ _ _ (same_itself (one Case)) (λ _. same_followed _ _ _ _ (same_repeated _ _ (choice_same e)) (λ _. same_itself (one Endcase then end)))))

  -- ---- a transition and its `;`

  ending_begins : (v : Bool) (m : List Token) → (ending v).begins m → end.begins m
  ending_begins true m h = h
  ending_begins false m h = h

  end_begins : (v : Bool) (m : List Token) → end.begins m → (ending v).begins m
  end_begins true m h = h
  end_begins false m h = h

  ending_there : (v : Bool) (m : List Token) (z : Option Token) (rest : List Token) → (ending v).spells m z rest → end.spells m z rest × (allowed (v || is_some z)).spells rest tt rest
  ending_there true m z rest s = (s, (refl, refl))
  ending_there false m None rest s = absurd (let is : Some s.0 ≡ None = s.2 in let no : ⊥ = cc in no)
  ending_there false m (Some z) rest s = (subst (λ (x : Token). (one Semicolon).spells m x rest) (some_is s.0 z s.2) s.1, (refl, refl))
    where
      some_is : (x y : Token) → Some x ≡ Some y → x ≡ y
      some_is x y e = cc

  ending_back : (v : Bool) (m : List Token) (z : Option Token) (m2 rest : List Token) (u : Unit {0}) → end.spells m z m2 → (allowed (v || is_some z)).spells m2 u rest → (ending v).spells m z rest
  ending_back true m z m2 rest u s h = subst (λ (k : List Token). end.spells m z k) h.0 s
  ending_back false m None m2 rest u s h = absurd h
  ending_back false m (Some z) m2 rest u s h = (z, subst (λ (k : List Token). (one Semicolon).spells m z k) h.0 s, refl)

  ended_same : Same (made trans_of (followed a (λ b. ending (is_closed b)))) (made branch_in (followed (a then end) (λ b. allowed (is_closed b.0 || is_some b.1))))
  ended_same = record {
    there = λ ts t rest ((b, z), (m, fb, fz), d). let p = ending_there (is_closed b) m z rest fz in (((b, z), tt), (rest, (m, fb, p.0), p.1), d);
    back = λ ts t rest (((b, z), u), (m2, (m, fb, fz), fu), d). ((b, z), (m, fb, ending_back (is_closed b) m z m2 rest u fz fu), d);
    begins_there = λ us s. elim s [ inl h ↦ inl (inl h) | inr (b, m, fb, h) ↦ inl (inr (b, m, fb, ending_begins (is_closed b) m h)) ];
    begins_back = λ us s. elim s [
      | inl h ↦ elim h [ inl k ↦ inl k | inr (b, m, fb, k) ↦ inr (b, m, fb, end_begins (is_closed b) m k) ]
      | inr ((b, z), m2, (m, fb, fz), h) ↦ inr (b, m, fb, end_begins (is_closed b) m (end_laws.whole m z (subst (λ (k : List Token). end.spells m z k) (allowed_nil (is_closed b || is_some z) m2 h) fz)))
    ];
  }

-- ---- at each depth

if_like : (e : Form Token Tree) (a b : Form Token Ended) → Same a b → Same (if_ended e a) (if_ended e b)
unfolding if_ended
if_like e a b p =
    same_made if_ended_of _ _
    (same_followed _ _ _ _ (same_itself (one If)) (λ _. same_followed _ _ _ _ (same_itself e) (λ _. same_followed _ _ _ _ (same_itself (one Then))
    (λ _. same_followed _ _ _ _ p (λ x. same_unless (is_open_arm x.0) _ _ (same_optional _ _ (same_followed _ _ _ _ (same_itself (one Else)) (λ _. p))))))))
  where
    same_unless : (o : Bool) (c d : Form Token (Option (Token × Ended))) → Same c d → Same (unless o None c) (unless o None d)
    same_unless true c d p = same_itself (given None)
    same_unless false c d p = p

case_like : (e : Form Token Tree) (a b : Form Token Ended) → Same a b → Same (case_ended e a) (case_ended e b)
unfolding case_ended choice_ended
case_like e a b p =
    same_made case_ended_of _ _
    (same_followed _ _ _ _ (same_itself (one Case)) (λ _. same_followed _ _ _ _
    (same_repeated _ _ (same_made choice_ended_of _ _ (same_followed _ _ _ _ (same_itself e) (λ _. same_followed _ _ _ _ (same_itself (one Colon)) (λ _. same_followed _ _ _ _ p (λ x. same_itself (allowed (is_some x.1))))))))
    (λ _. same_itself (one Endcase then end))))

three_then : (a b c : Form Token Branch) → Same (either a (either b c) then end) (either (a then end) (either (b then end) (c then end)))
three_then a b c = same_through _ _ _ (either_then a (either b c) end) (same_either _ _ _ _ (same_itself (a then end)) (either_then b c end))

none_then : (a : Form Token Branch) → Same (either a (either nothing nothing) then end) (either (a then end) (either nothing nothing))
none_then a = same_through _ _ _ (three_then a nothing nothing) (same_either _ _ _ _ (same_itself (a then end)) (same_either _ _ _ _ (nothing_then end) (nothing_then end)))

branches_same : (g : Form Token Branch) (e : Form Token Tree) (a : Form Token Branch) (b : Form Token Ended) → Same (a then end) b → Same (either g (either (if_form e a) (case_form e a)) then end) (either (g then end) (either (if_ended e b) (case_ended e b)))
branches_same g e a b p =
    same_through _ _ _ (three_then g (if_form e a) (case_form e a))
    (same_either _ _ _ _ (same_itself (g then end))
    (same_either _ _ _ _ (same_through _ _ _ (if_same a e) (if_like e (a then end) b p)) (same_through _ _ _ (case_same a e) (case_like e (a then end) b p))))

pub arm_same : (n : ℕ) → Same (arm n then end) (arm_ended n)
unfolding arm arm_ended goal_arm goal_ended
arm_same zero = none_then (goal_arm zero)
arm_same (suc n) = branches_same (goal_arm (suc n)) (expr n) (arm n) (arm_ended n) (arm_same n)

leading_same : (n : ℕ) → Same (leading n then end) (leading_ended n)
unfolding leading leading_ended goto_ended
leading_same zero = none_then (made behind_word (one Goto then goal zero))
leading_same (suc n) = branches_same (made behind_word (one Goto then goal (suc n))) (expr n) (arm n) (arm_ended n) (arm_same n)

pub trans_same : (n : ℕ) → Same (trans n) (trans_ended n)
unfolding trans trans_ended
trans_same n = same_through _ _ _ (ended_same (leading n)) (same_made branch_in _ _ (same_followed _ _ _ _ (leading_same n) (λ b. same_itself (allowed (is_closed b.0 || is_some b.1)))))
