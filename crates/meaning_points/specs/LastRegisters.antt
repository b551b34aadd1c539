-- The equations of the last five of ten registers, as trees (the source is at the head of TenRegisters).
use Rattle.std.specs.Prelude.{List, [], ◌∷◌}
use Rattle.meaning_points.specs.Prelude.{Statement}
use Rattle.meaning_points.specs.Constructs.{clocked}
use Rattle.meaning_points.specs.Trees.{both, complement, either, name}

-- the equations of these registers
abbrev pub last_equations : List Statement
last_equations =
    clocked (name "q5")
    (either
    (either
    (either
    (either
    (either
    (either
    (either
    (both (both (complement (name "q5")) (name "i4"))
    (complement (name "q2")))
    (both (both (name "q9") (name "q0")) (name "q5")))
    (both (both (complement (name "q1")) (name "i1")) (name "q0")))
    (both (both (name "q1") (complement (name "i1"))) (name "i9")))
    (both (both (complement (name "i6")) (complement (name "i8")))
    (complement (name "i1"))))
    (both (both (name "q9") (complement (name "q4"))) (complement (name "i2"))))
    (both (both (name "i8") (name "i5")) (complement (name "i9"))))
    (both (both (complement (name "i9")) (name "i8")) (complement (name "q3"))))
    ∷ clocked (name "q6")
    (either
    (either
    (either
    (either
    (either
    (either
    (either
    (both (both (name "q9") (name "q4")) (complement (name "i9")))
    (both (both (name "q7") (complement (name "q1")))
    (complement (name "q4"))))
    (both (both (complement (name "q0")) (name "i9")) (name "q2")))
    (both (both (complement (name "i0")) (name "q5")) (name "i5")))
    (both (both (complement (name "i3")) (complement (name "i8")))
    (complement (name "q9"))))
    (both (both (complement (name "q4")) (name "i0")) (complement (name "i9"))))
    (both (both (complement (name "i9")) (name "q6")) (complement (name "q9"))))
    (both (both (name "i9") (complement (name "q7"))) (name "q1")))
    ∷ clocked (name "q7")
    (either
    (either
    (either
    (either
    (either
    (either
    (either
    (both (both (complement (name "i3")) (name "i9")) (name "q7"))
    (both (both (complement (name "i4")) (complement (name "i2")))
    (complement (name "i6"))))
    (both (both (complement (name "i7")) (name "i3")) (name "i2")))
    (both (both (name "q5") (name "i4")) (name "i5")))
    (both (both (complement (name "i8")) (name "q8")) (complement (name "q6"))))
    (both (both (complement (name "i6")) (complement (name "i1")))
    (complement (name "q8"))))
    (both (both (complement (name "i7")) (name "q0")) (complement (name "i0"))))
    (both (both (name "i8") (complement (name "i4"))) (name "i5")))
    ∷ clocked (name "q8")
    (either
    (either
    (either
    (either
    (either
    (either
    (either
    (both (both (complement (name "i8")) (name "i5")) (name "q8"))
    (both (both (name "q8") (complement (name "i4")))
    (complement (name "i4"))))
    (both (both (name "i1") (name "q3")) (complement (name "i8"))))
    (both (both (name "i7") (complement (name "q5")))
    (complement (name "q5"))))
    (both (both (name "q5") (complement (name "q3"))) (name "q8")))
    (both (both (complement (name "i8")) (name "q4")) (complement (name "q1"))))
    (both (both (complement (name "q1")) (name "i8")) (complement (name "q7"))))
    (both (both (complement (name "i9")) (complement (name "q0"))) (complement (name "i9"))))
    ∷ clocked (name "q9")
    (either
    (either
    (either
    (either
    (either
    (either
    (either
    (both (both (complement (name "q9")) (complement (name "q1")))
    (complement (name "i7")))
    (both (both (complement (name "i6")) (complement (name "i5")))
    (complement (name "i7"))))
    (both (both (complement (name "i5")) (complement (name "q6")))
    (name "q6")))
    (both (both (name "i8") (name "q9")) (complement (name "i2"))))
    (both (both (name "i9") (complement (name "q8"))) (name "i1")))
    (both (both (complement (name "q8")) (name "i7")) (name "q9")))
    (both (both (complement (name "i6")) (name "q1")) (complement (name "q3"))))
    (both (both (name "q1") (complement (name "i6"))) (name "q6")))
    ∷ []
